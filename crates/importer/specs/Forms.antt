-- "The importer takes exactly such texts": the form of a text, line by line, and the first line that has another.
use Rattle.std.specs.Prelude.{ℕ, suc, ◌+◌, ◌-◌, Bool, cond, not, ◌&&◌, List, [], ◌∷◌, Option, Some, None, eqb, ℤ, pos, negsuc, length}
use Rattle.opcodes.specs.Page.{rule_of}
use Rattle.digits.specs.Reading.{all_digits, is_decimal, value_of}
use Rattle.opcodes.specs.Ascii.{same}
use Rattle.words.specs.Words.{split}
use Rattle.opcodes.specs.Rules.{has_operand}
use Rattle.names.specs.Names.{opcode_named}
use Rattle.lister.specs.Text.{cells_word}

-- an instruction as a line spells it
pub record Item : Type 0 where
  pub opcode : ℕ
  pub operand : ℤ

-- "First line `cells` and g; .. g and operand in decimal without leading zeros .., g without a sign": the words of
-- such a line
unfoldable pub header_read : List (List ℕ) → Option ℕ
header_read [] = None
header_read (word ∷ []) = None
header_read (word ∷ number ∷ []) = cond (same word cells_word && is_decimal number) (Some (value_of number)) None
header_read (word ∷ number ∷ other ∷ more) = None

-- "operand in decimal without leading zeros or −0": what follows a `-`, and a word without one
abbrev pub minus_read : List ℕ → Option ℤ
minus_read digits = cond (is_decimal digits && not (eqb (value_of digits) 0)) (Some (negsuc (value_of digits - 1))) None

abbrev pub plain_read : List ℕ → Option ℤ
plain_read digits = cond (is_decimal digits) (Some (pos (value_of digits))) None

unfoldable pub operand_read : List ℕ → Option ℤ
operand_read [] = None
operand_read (b ∷ rest) = cond (eqb b 45) (minus_read rest) (plain_read (b ∷ rest))

-- "the name and, where it has one, the operand": a name alone, and one with an operand
abbrev pub bare_item : Option ℕ → Option Item
bare_item (Some opcode) = cond (has_operand (rule_of opcode)) None (Some (record { opcode = opcode; operand = pos 0 }))
bare_item None = None

abbrev pub full_item : Option ℕ → Option ℤ → Option Item
full_item (Some opcode) (Some k) = cond (has_operand (rule_of opcode))
    (Some (record { opcode = opcode; operand = k })) None
full_item (Some opcode) None = None
full_item None k = None

unfoldable pub item_read : List (List ℕ) → Option Item
item_read [] = None
item_read (name ∷ []) = bare_item (opcode_named name)
item_read (name ∷ operand ∷ []) = full_item (opcode_named name) (operand_read operand)
item_read (name ∷ operand ∷ other ∷ more) = None

-- "the address in four digits"
abbrev pub is_address : List ℕ → Bool
is_address word = eqb (length word) 4 && all_digits word

-- a line of an instruction: its address and what it spells
pub data Line : Type 0 where
  right : ℕ → Item → Line
  wrong : Line

abbrev pub addressed : ℕ → Option Item → Line
addressed address (Some item) = right address item
addressed address None = wrong

unfoldable pub line_read : List (List ℕ) → Line
line_read [] = wrong
line_read (address ∷ rest) = cond (is_address address) (addressed (value_of address) (item_read rest)) wrong

-- the instructions of lines that are all right, or the number and the place of the first that isn't
pub data Lines : Type 0 where
  good : List Item → Lines
  bad : ℕ → ℕ → Lines

abbrev pub before : Item → Lines → Lines
before item (good items) = good (item ∷ items)
before item (bad number place) = bad number place

-- "41 such a line, 42 else an address out of sequence, each with the line's first byte"
abbrev pub judged : Line → ℕ → ℕ → Lines → Lines
judged wrong index place rest = bad 41 place
judged (right address item) index place rest = cond (eqb address index) (before item rest) (bad 42 place)

-- "each line ended by a line feed": what follows the last line feed, at byte `place`, is nothing
abbrev pub last_read : List ℕ → ℕ → Lines
last_read [] place = good []
last_read (b ∷ rest) place = bad 41 place

-- the lines from that of instruction `index` on, which begins at byte `place`
unfoldable pub lines_read : ℕ → ℕ → List (List ℕ) → Lines
lines_read index place [] = good []
lines_read index place (last ∷ []) = last_read last place
lines_read index place (line ∷ next ∷ more) =
    judged (line_read (split 32 line)) index place (lines_read (suc index) (place + suc (length line)) (next ∷ more))

-- what a text says: the number of cells and the instructions, or its refusal
pub data Text : Type 0 where
  card : ℕ → List Item → Text
  refused : ℕ → ℕ → Text

abbrev pub with_cells : ℕ → Lines → Text
with_cells cells (good items) = card cells items
with_cells cells (bad number place) = refused number place

-- "40 a header of another form"
abbrev pub headed : Option ℕ → Lines → Text
headed (Some cells) rest = with_cells cells rest
headed None rest = refused 40 0

-- the header's line is the first, and "first line first"
unfoldable pub text_read : List (List ℕ) → Text
text_read [] = refused 40 0
text_read (line ∷ []) = refused 40 0
text_read (line ∷ next ∷ more) = headed (header_read (split 32 line)) (lines_read 0 (suc (length line)) (next ∷ more))
