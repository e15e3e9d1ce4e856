-- The sentence on operands as the paper has it, by kinds of opcodes, and that the check goes by it.
use Rattle.std.specs.Prelude.{ℕ, Bool, true, cond, ◌||◌, ◌≡◌, eqb, ltb, ℤ, pos}
use Rattle.opcodes.specs.Page.{minus}
use Rattle.opcodes.specs.Rules.{is_between}
use Rattle.instruction.specs.Rules.{Verdict, Fine, BadOpcode, BadOperand, check_of}
use Rattle.instruction.specs.Word.{opcode_of, operand_of}

-- "Operands: k of loadr and storer −128 to 127, of alloc 0 to 127, a is 0 to n−1, loadc any of 24 bits; elsewhere 0".
-- loadr and storer are 4 and 5, alloc is 6, those with an a are 20 jump and 21 jumpz, loadc is 1
abbrev pub operands : ℕ → ℤ → ℤ → Bool
operands opcode last k =
    cond (eqb opcode 4 || eqb opcode 5) (is_between (minus 128) (pos 127) k)
    (cond (eqb opcode 6) (is_between (pos 0) (pos 127) k)
    (cond (eqb opcode 20 || eqb opcode 21) (is_between (pos 0) last k)
    (cond (eqb opcode 1) true
    (is_between (pos 0) (pos 0) k))))

-- the check by this sentence, and "4 now from opcode 41"
abbrev pub sentenced : ℤ → ℕ → Verdict
sentenced last w =
    cond (ltb 40 (opcode_of w)) BadOpcode
    (cond (operands (opcode_of w) last (operand_of w)) Fine
    BadOperand)

-- page and sentence say the same of every instruction
abbrev pub BySentence : Type 0
BySentence = (last : ℤ) (w : ℕ) → check_of last w ≡ sentenced last w
