-- What the public functions promise: the answer, the count, the registers and the contents of all lent slices are
-- those of the call's definition.
use Rattle.std.specs.Prelude.{ℕ, List, ◌≡◌, ℤ}
use Rattle.card.specs.declared.refusals.Refusal.{Refusal}
use Rattle.machine.specs.Calls.{Called, answer_of, count_of, told}
use Rattle.machine.specs.declared.answers.Answer.TheVariants.{Refused}
use Rattle.machine.specs.declared.registers.Registers.{Registers}
use Rattle.outcome.specs.declared.Outcome.{Outcome}

-- a refusal, with the registers that come back
abbrev pub refused : Refusal → Registers → Outcome
refused refusal r = record { answer = Refused refusal; count = 0; registers = r }

-- what a call gives that was not refused
pub record Ends (r : Registers) (count : ℕ) (outcome : Outcome) : Type 0 where
  pub answered : told outcome.answer ≡ answer_of r
  pub counted : outcome.count ≡ count
  pub registers : outcome.registers ≡ r

-- the promise of a call
pub record Gives (called : Called) (outcome : Outcome) (store : List ℤ) (tables : List ℕ) (values : List ℤ) : Type 0 where
  pub answered : told outcome.answer ≡ called.answer
  pub counted : outcome.count ≡ count_of called
  pub registers : outcome.registers ≡ called.box.regs
  pub in_store : store ≡ called.box.store
  pub in_tables : tables ≡ called.box.tables
  pub in_values : values ≡ called.box.values
