-- "Cards as text", sentence by sentence: the text of a card, as bytes.
use Rattle.std.specs.Prelude.{ℕ, suc, ◌+◌, ◌*◌, cond, List, [], ◌∷◌, ◌++◌, ◌≡◌, refl, length}
use Rattle.io.specs.Digits.{last_digits}
use Rattle.opcodes.specs.Page.{name_of, page, rule_of}
use Rattle.instruction.specs.Word.{opcode_of, operand_of}
use Rattle.card.specs.Code.{words_of}
use Rattle.card.specs.Image.{cells_of, code_of}
use Rattle.text.specs.Decimal.{decimal, places, signed}
use Rattle.text.specs.Lines.{line}
use Rattle.opcodes.specs.Ascii.{bytes}
use Rattle.opcodes.specs.Rules.{has_operand}

-- "First line `cells` and g", g "in decimal without leading zeros .., without a sign"; "each line ended by a line feed"
abbrev pub cells_word : List ℕ
cells_word = bytes "cells"

abbrev pub header_line : ℕ → List ℕ
header_line cells = line cells_word (decimal cells ∷ [])

-- "the address in four digits"
abbrev pub address_of : ℕ → List ℕ
address_of index = last_digits 10 4 index

-- "where it has one, the operand", "in decimal without leading zeros or −0"
abbrev pub operand_words : ℕ → List (List ℕ)
operand_words w = cond (has_operand (rule_of (opcode_of w))) (signed (operand_of w) ∷ []) []

-- "then per instruction the address .., the name and .. the operand", with "single spaces"
abbrev pub instruction_line : ℕ → ℕ → List ℕ
instruction_line index w = line (address_of index) (name_of (opcode_of w) ∷ operand_words w)

-- the lines of a list of instructions, the first of which has the given index
unfoldable pub instruction_lines : ℕ → List ℕ → List ℕ
instruction_lines index [] = []
instruction_lines index (w ∷ ws) = instruction_line index w ++ instruction_lines (suc index) ws

-- the text of a card with so many global cells and these instructions
abbrev pub text_of : ℕ → List ℕ → List ℕ
text_of cells list = header_line cells ++ instruction_lines 0 list

-- the listing of an image that is accepted
abbrev pub listing_of : List ℕ → List ℕ
listing_of image = text_of (cells_of image) (words_of (code_of image))

-- "P2 lists as `cells 1`, `0000 loadc 7`, `0001 exit`": loadc 7 and exit as words
p2_text : text_of 1 (16777223 ∷ 469762048 ∷ []) ≡ bytes "cells 1\n0000 loadc 7\n0001 exit\n"
unfolding bytes decimal instruction_lines line page places
p2_text = refl

-- the longest line: the least operand
longest_line : instruction_line 4095 25165824 ≡ bytes "4095 loadc -8388608\n"
unfolding bytes decimal line page places
longest_line = refl

-- "a text can pass 64 KiB": the longest has 81,931 bytes
longest : length (header_line 4096) + 4096 * length (instruction_line 4095 25165824) ≡ 81931
unfolding bytes decimal line page places
longest = refl
