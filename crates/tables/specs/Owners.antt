-- The owner of a mutex, and its number in the tables: that of the thread, or size where nobody owns it.
use Rattle.std.specs.Prelude.{ℕ, cond, eqb, Option, Some, None}
use Rattle.machine.specs.Registers.{nobody}
use Rattle.machine.specs.declared.numbers.Thread.{Thread}

abbrev pub owner_at : ℕ → ℕ → Option Thread
owner_at size number = cond (eqb number (nobody size)) None (Some (record { 0 = number }))

abbrev pub number_of : ℕ → Option Thread → ℕ
number_of size (Some t) = t.0
number_of size None = nobody size
