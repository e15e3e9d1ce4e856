-- `engine::turns::turn` meets its contract. Assumes nothing.
use Prim.Native.Nat.{ℕ}
use mathlib.Core.Logic.{inl, inr, ◌≢◌}
use mathlib.Core.Path.{◌≡◌}
use native.Mathlib.Omega.{arith}
use Rattle.dispatch.specs.Contract.{Turning}
use Rattle.machine.specs.Instructions.{instruction_of}
use Rattle.engine.proofs.turns.turn.Goals as goal

-- what is left is unlock
last : (op : ℕ) → Turning op → op ≢ 27 → op ≢ 32 → op ≡ 33
last op (inl e) a b = absurd (a e)
last op (inr (inl e)) a b = absurd (b e)
last op (inr (inr e)) a b = e

pub returns-in-27 : goal.returns-in-27
unfolding instruction_of
returns-in-27 c n values = rw c.in-27.is (c.yield_turn.ensures _ n values)

pub returns-in-32 : goal.returns-in-32
unfolding instruction_of
returns-in-32 c n values = rw (c.in-32.is, c.settled.ensures) (c.lock.ensures n values)

pub returns-in_default : goal.returns-in_default
unfolding instruction_of
returns-in_default c n values =
    let unlock = last _ c.requires.turning (λ e. omega (arith, e)) (λ e. omega (arith, e)) in
    rw (unlock, c.settled-in_default.ensures) (c.unlock.ensures n values)
