-- The code's table of opcodes.
use Rattle.std.specs.Prelude.{ℕ, ◌<◌, List, ◌++◌, ◌≡◌, get_or, length, take}
use Rattle.opcodes.specs.Ascii.{bytes}
use Rattle.opcodes.specs.Page.{line_of, name_of, page, rule_of}
use Rattle.opcodes.specs.declared.table.Entry.{Entry}
use Rattle.opcodes.specs.declared.table.Rule.{Rule}

-- a name in ten bytes, with spaces behind
abbrev pub padded : List ℕ → List ℕ
padded name = take 10 (name ++ bytes "          ")

-- the entry that an opcode's line is
abbrev pub entry_of : ℕ → Entry
entry_of opcode = record { number = (line_of opcode).number; name = padded (name_of opcode); rule = rule_of opcode }

-- the entry of each opcode is its line, and there are no others
pub record IsPage (table : List Entry) : Type 0 where
  pub long : length table ≡ length page
  pub line : (opcode : ℕ) (other : Entry) → opcode < length page → get_or table opcode other ≡ entry_of opcode

-- the rule of each opcode, without its line
pub record AreRules (rules : List Rule) : Type 0 where
  pub rule : (opcode : ℕ) (other : Rule) → opcode < length page → get_or rules opcode other ≡ rule_of opcode
