-- Who a mutex's owner is, by its number in the tables. Assumes nothing.
use Rattle.std.specs.Prelude.{◌≡◌, ◌≢◌, ℕ, Some, None}
use Rattle.std.proofs.Common.{arith}
use Rattle.std.proofs.lemmas.Grind.{common_steps}
use Rattle.machine.specs.declared.numbers.Thread.{Thread}
use Rattle.tables.specs.Owners.{owner_at}

module _ (size number : ℕ) where
  -- a mutex that nobody owns
  pub unowned : owner_at size number ≡ None → number ≡ size
  unowned e = grind (arith, common_steps)

  -- one that a thread owns
  pub record Held (t : Thread) : Type 0 where
    pub by : number ≡ t.0
    pub taken : number ≢ size

  pub held : (t : Thread) → owner_at size number ≡ Some t → Held t
  held t e = record { by = grind (arith, common_steps); taken = grind (arith, common_steps) }
