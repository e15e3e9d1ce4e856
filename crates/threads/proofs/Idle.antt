-- The front of the line that doesn't live, when turns change. Assumes nothing.
use Prim.Native.Nat.{ℕ}
use mathlib.Core.Path.{◌≡◌, refl, ap}
use mathlib.Core.Bool.{true}
use mathlib.Core.List.{List, []}
use native.Mathlib.Omega.{arith}
use Rattle.machine.specs.Instructions as instr
use Rattle.machine.specs.State.{State, blocked, left, next, next_of}
use Rattle.machine.specs.Step.{executed, onward}
use Rattle.machine.specs.Tables.{active, first, lives, ready, tables_of}
use Rattle.std.specs.Prelude.{Option, Some, None}
use Rattle.machine.specs.declared.registers.Registers.{Registers}
use Rattle.machine.proofs.Equations.{carries, yield_is}
use Rattle.machine.specs.declared.numbers.Thread.{Thread}
use Rattle.cells.specs.Contract.{at}
use Rattle.tables.specs.Idle.{Idle, IdleAfter}
use Rattle.tables.proofs.Idle.{found_lives, idle_after, idle_left, idle_sent}
use Rattle.threads.specs.Contract.{Goes}

-- the running thread goes
idle_leaves : (size k : ℕ) (s : State) (place : ℕ) → IdleAfter s.tables s.regs.thread k →
    Idle (left size s place).tables k
unfolding left
idle_leaves size k s place h = idle_left s.tables s.regs.thread s.regs.pc s.regs.cells s.regs.fp place k h

-- the same in slices
pub idle_gone : (size k place : ℕ) (tables tables' : List ℕ) (r q : Registers) →
    Goes size (λ s. left size s place) tables r tables' q →
    IdleAfter (tables_of size tables) r.thread k → Idle (tables_of size tables') k
idle_gone size k place tables tables' r q went h =
    rw (ap (λ (s : State). s.tables) (went.is [] [])) (idle_leaves size k (at [] (tables_of size tables) [] r) place h)

-- the next one runs, who lives as it was ready
idle_next : (size k : ℕ) (s : State) → Idle s.tables k → Idle (next size s).tables k
unfolding next
idle_next size k s h = by_first (first s.tables ready) refl
  where
    by_first : (f : Option Thread) → first s.tables ready ≡ f → Idle (next_of size f s).tables k
    by_first (Some t) e = idle_sent s.tables t.0 (found_lives s.tables ready t e (omega arith)) active k h
    by_first None e = h

-- a living thread waits at a place
pub idle_blocked : (size k : ℕ) (s : State) (place : ℕ) → lives s.tables s.regs.thread ≡ true →
    Idle s.tables k → Idle (blocked size s place).tables k
idle_blocked size k s place live h =
    idle_next size k (left size s place) (idle_leaves size k s place (idle_after s.tables s.regs.thread live k h))

pub idle_yield : (size n k : ℕ) (s : State) → lives s.tables s.regs.thread ≡ true → Idle s.tables k →
    Idle (executed size n s instr.yield).state.tables k
idle_yield size n k s live h = rw (← carries size n s instr.yield _ (yield_is size n (onward s))) (idle_blocked size k (onward s) ready live h)
