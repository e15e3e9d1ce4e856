-- The check of one instruction: which number it gives where, for every word and every number of instructions.
use Rattle.std.specs.Prelude.{ℕ, ◌<◌, ◌≤◌, true, false, ◌≡◌}
use Rattle.opcodes.specs.Page.{last_opcode}
use Rattle.opcodes.specs.Rules.{allows}
use Rattle.opcodes.specs.Table.{entry_of}
use Rattle.instruction.specs.Rules.{check_of}
use Rattle.instruction.specs.Word.{opcode_of, operand_of}
use Rattle.card.specs.Code.{Scan, Fine, Bad, scan_of}
use Rattle.card.specs.Image.{last_of}

abbrev Iff : Type 0 → Type 0 → Type 0
Iff A B = (A → B) × (B → A)

-- what the search finds in the word w, at an index of a card of n instructions
abbrev pub checked : ℕ → ℕ → ℕ → Scan
checked n w index = scan_of (check_of (last_of n) w) index

pub record Exactly (n w index : ℕ) : Type 0 where
  -- 4 exactly where the opcode is over the last
  pub four : Iff (checked n w index ≡ Bad 4 index) (last_opcode < opcode_of w)
  -- 5 exactly where it is known and its entry rules the operand out
  pub five : Iff (checked n w index ≡ Bad 5 index)
      ((opcode_of w ≤ last_opcode) × (allows (entry_of (opcode_of w)).rule (last_of n) (operand_of w) ≡ false))
  -- else neither
  pub neither : Iff (checked n w index ≡ Fine)
      ((opcode_of w ≤ last_opcode) × (allows (entry_of (opcode_of w)).rule (last_of n) (operand_of w) ≡ true))

abbrev pub Exact : Type 0
Exact = (n w index : ℕ) → Exactly n w index
