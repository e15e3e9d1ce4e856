-- What the functions on a semaphore's count and queue ask and promise.
use Rattle.std.specs.Prelude.{ℕ, ◌≤◌, List, ◌≡◌, ℤ}
use Rattle.machine.specs.Execution.{Outcome, done, fault}
use Rattle.machine.specs.Registers.{stopped}
use Rattle.machine.specs.State.{State, semaphore_count, with_regs}
use Rattle.machine.specs.Step.{onward}
use Rattle.machine.specs.Tables.{tables_of}
use Rattle.machine.specs.WellFormed.{shortfall}
use Rattle.machine.specs.declared.registers.Registers.{Registers}
use Rattle.cells.specs.Contract.{at}

-- what is left of a state by an outcome
abbrev pub leaves : State → Outcome → State
leaves s (done u) = u
leaves s (fault number) = with_regs s (stopped s.regs number)

-- tables, values and registers come to an outcome, for every card and store
abbrev pub Comes : ℕ → (ℕ → State → Outcome) → List ℕ → List ℤ → Registers → List ℕ → List ℤ → Registers → Type 0
Comes size f tables values r tables' values' q =
    (n : ℕ) (store : List ℤ) →
    at store (tables_of size tables') values' q
    ≡ leaves (at store (tables_of size tables) values r) (f n (onward (at store (tables_of size tables) values r)))

-- a semaphore's count has room below: no more threads wait than there are
abbrev pub Low : ℕ → List ℤ → ℕ → Type 0
Low size values k = shortfall (semaphore_count size values k) ≤ size
