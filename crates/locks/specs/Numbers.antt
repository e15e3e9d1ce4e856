-- The number of the next mutex or condition.
use Rattle.std.specs.Prelude.{ℕ, ◌+◌, cond, List, ◌≡◌, ltb, ℤ, pos, set}
use Rattle.machine.specs.Registers.{advanced, with_cells}
use Rattle.machine.specs.Size.{mutex_limit, stack_at}
use Rattle.machine.specs.State.{minus_one}
use Rattle.machine.specs.declared.registers.Registers.{Registers}

-- "the next number, or −1 exactly if 64 were made"
abbrev pub next_number : ℕ → ℕ → ℤ
next_number made limit = cond (ltb made limit) (pos made) minus_one

-- it is pushed, and PC goes on
pub record Numbers (size made : ℕ) (store : List ℤ) (r : Registers) (store' : List ℤ) (q : Registers) : Type 0 where
  pub pushed : store' ≡ set store (stack_at size r.thread r.cells) (next_number made (mutex_limit size))
  pub onward : q ≡ with_cells (advanced r) (r.cells + 1)
