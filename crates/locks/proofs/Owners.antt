-- Laws of owners: unlocking in the code's order. Assumes nothing.
use Prim.Native.Nat.{ℕ}
use mathlib.Core.Path.{◌≡◌}
use mathlib.Core.Bool.{true, false}
use lib.Dec.{eqb}
use Rattle.machine.proofs.Queues.{owned_line, owned_sent, sent_again}
use Rattle.machine.specs.Execution.{Outcome, fault, owns}
use Rattle.machine.specs.Lists.{count}
use Rattle.machine.specs.State.{State}
use Rattle.machine.specs.Tables.{Tables, active, at_mutex, first, owned, owner_of, ready, sent, unlocked}
use Rattle.machine.specs.declared.numbers.Thread.{Thread}
use Rattle.std.specs.Prelude.{Some, None}

module _ (size : ℕ) (before taken given after : Tables) (m : ℕ) where
  -- the first waiter was taken out, got the mutex, and went to the ready tail
  pub passed_on : (t : Thread) → count t.0 before.line ≡ 1 → first before (at_mutex m) ≡ Some t →
      taken ≡ sent before t.0 active →
      given ≡ owned taken m t.0 → after ≡ sent given t.0 ready → after ≡ unlocked size before m
  passed_on t once who went got ran =
      rw (who, ran, got, went, owned_sent before t.0 active m t.0)
      (sent_again (owned before m t.0) t.0 active ready (rw (owned_line before m t.0) once))

-- nobody waits, and it is free
pub freed : (size : ℕ) (before taken after : Tables) (m : ℕ) → first before (at_mutex m) ≡ None → taken ≡ before →
    after ≡ owned taken m size → after ≡ unlocked size before m
freed size before taken after m none stays got = rw (none, got, stays)
