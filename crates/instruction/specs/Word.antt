-- "Instructions of 4 bytes, an opcode byte and a 24-bit two's complement operand", as one number: opcode times 2^24
-- plus the operand's 24 bits.
use Rattle.std.specs.Prelude.{ℕ, ◌+◌, ◌*◌, ◌-◌, ◌/◌, ◌%◌, cond, ltb, ℤ, pos, negsuc, ◌-ℤ◌}

-- the opcode byte, the first of the four
abbrev pub opcode_of : ℕ → ℕ
opcode_of w = w / 16777216

-- 24 bits in two's complement
abbrev pub signed24 : ℕ → ℤ
signed24 b = cond (ltb b 8388608) (pos b) (pos b -ℤ pos 16777216)

-- the operand
abbrev pub operand_of : ℕ → ℤ
operand_of w = signed24 (w % 16777216)

-- and back: the 24 bits of an operand, and an instruction as a word
abbrev pub bits_of : ℤ → ℕ
bits_of (pos k) = k
bits_of (negsuc k) = 16777215 - k

abbrev pub word_of : ℕ → ℤ → ℕ
word_of opcode operand = opcode * 16777216 + bits_of operand
