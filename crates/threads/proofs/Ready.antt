-- Laws of the ready queue: who runs next. Assumes nothing.
use Prim.Native.Nat.{ℕ}
use mathlib.Core.Bool.{cond}
use mathlib.Core.List.{List}
use mathlib.Core.Path.{◌≡◌}
use lib.IntN.{ℤ}
use lib.ListN.{get_or}
use Rattle.machine.specs.Registers.{halted, nobody, stuck, switched, with_state}
use Rattle.machine.specs.State.{next}
use Rattle.machine.specs.Tables.{Tables, active, any_live, first, ready, sent}
use Rattle.machine.specs.declared.numbers.Thread.{Thread}
use Rattle.std.specs.Prelude.{Some, None}
use Rattle.machine.specs.declared.registers.Registers.{Registers}
use Rattle.cells.specs.Contract.{at}

module _ (size : ℕ) (store values : List ℤ) (tables tables' : Tables) (r : Registers) where
  -- the first that is ready runs, with what is saved of it
  pub first_runs : (t : Thread) → first tables ready ≡ Some t → tables' ≡ sent tables t.0 active →
      at store tables' values
      (switched r t.0 (get_or tables'.pcs t.0 0) (get_or tables'.depths t.0 0) (get_or tables'.frames t.0 0))
      ≡ next size (at store tables values r)
  unfolding next sent
  first_runs t e is = rw (is, e)

  -- nobody is ready
  pub nobody_runs : first tables ready ≡ None → tables' ≡ tables →
      at store tables' values (with_state r (cond (any_live size tables') stuck halted) (nobody size)) ≡ next size (at store tables values r)
  unfolding next
  nobody_runs e is = rw (is, e)
