-- What the engine asks and promises.
use Rattle.std.specs.Prelude.{ℕ, ◌-◌, ◌<◌, ◌≤◌, List, ◌≡◌, ℤ, length}
use Rattle.card.specs.Code.{instruction_at, words_of}
use Rattle.dispatch.specs.Contract.{Others}
use Rattle.engine.specs.declared.progress.Progress.{Progress}
use Rattle.engine.specs.declared.reached.Reached.{Reached}
use Rattle.machine.specs.Book.{Entry}
use Rattle.machine.specs.Calls.{boxed}
use Rattle.machine.specs.Context.{in_context}
use Rattle.machine.specs.Laws.{Sound}
use Rattle.machine.specs.Registers.{running}
use Rattle.machine.specs.State.{State}
use Rattle.machine.specs.Step.{carried, count_of, joined, run}
use Rattle.machine.specs.Tables.{tables_of}
use Rattle.machine.specs.declared.context.Context.{Context}
use Rattle.machine.specs.declared.registers.Registers.{Registers}
use Rattle.cells.specs.Contract.{at}

-- a box, in slices, as a state
abbrev pub state_at : ℕ → List ℤ → List ℕ → List ℤ → Registers → State
state_at size store tables values r = at store (tables_of size tables) values r

-- the instruction at PC does what the definitions say
abbrev pub Carries : ℕ → List ℕ → List ℤ → List ℕ → List ℤ → Registers → List ℤ → List ℕ → List ℤ → Registers → Type 0
Carries size code store tables values r store' tables' values' q =
    state_at size store' tables' values' q ≡ (carried size (words_of code) (state_at size store tables values r)).state

-- a run of m from a state has come to another, with so many carried out: what is left is a run from there
pub record Course (size : ℕ) (words : List ℕ) (start : State) (m : ℕ) (s : State) (count : ℕ) : Type 0 where
  pub trace : List Entry
  pub long : length trace ≡ count
  pub within : count ≤ m
  pub rest : run size words start m ≡ joined (record { state = s; trace = trace }) (run size words s (m - count))

-- a run of m in lent slices has come to this, with so many of the m left, in a box that is sound still
pub record Under (size : ℕ) (code : List ℕ) (m : ℕ) (store₀ : List ℤ) (tables₀ : List ℕ) (values₀ : List ℤ)
    (r₀ : Registers) (store : List ℤ) (tables : List ℕ) (values : List ℤ) (r : Registers) (left : ℕ) : Type 0 where
  pub within : left ≤ m
  pub sound : Sound size (boxed store tables values r)
  pub course : Course size (words_of code) (state_at size store₀ tables₀ values₀ r₀) m
      (state_at size store tables values r) (m - left)

-- a context of its three numbers
abbrev pub context_at : ℕ → ℕ → ℕ → Context
context_at pc cells fp = record { pc = pc; cells = cells; fp = fp }

-- .. and that of the registers
abbrev pub context_of : Registers → Context
context_of r = context_at r.pc r.cells r.fp

-- a store, and a thread in a context, that are those of some sound box whose machine runs
pub record Housed (size : ℕ) (store : List ℤ) (t : ℕ) (c : Context) : Type 0 where
  pub tables : List ℕ
  pub values : List ℤ
  pub r : Registers
  pub runs : r.state ≡ running
  pub sound : Sound size (boxed store tables values (in_context r t c))

-- a run of m has come from one context and store to others, with so many left, whatever tables, values and other
-- registers stand beside
abbrev pub Inside : ℕ → List ℕ → ℕ → List ℤ → ℕ → Context → List ℤ → Context → ℕ → Type 0
Inside size code m store₀ t c₀ store c left =
    (tables : List ℕ) (values : List ℤ) (r : Registers) → r.state ≡ running →
    Sound size (boxed store₀ tables values (in_context r t c₀)) →
    Under size code m store₀ tables values (in_context r t c₀) store tables values (in_context r t c) left

-- what a stretch leaves
abbrev pub Stretched : ℕ → List ℕ → ℕ → List ℤ → ℕ → Context → List ℤ → Reached Context → Type 0
Stretched size code m store t c store' p = Inside size code m store t c store' p.at p.left

-- store, tables and registers that are those of some sound box
pub record Seated (size : ℕ) (store : List ℤ) (tables : List ℕ) (r : Registers) : Type 0 where
  pub values : List ℤ
  pub sound : Sound size (boxed store tables values r)

-- what turns leave, whatever values stand beside: a run of m has come to this; and while it could go on, an
-- instruction of the others is next
pub record Turned (size : ℕ) (code : List ℕ) (m : ℕ) (store : List ℤ) (tables : List ℕ) (r : Registers)
    (store' : List ℤ) (tables' : List ℕ) (p : Reached Registers) : Type 0 where
  pub under : (values : List ℤ) → Sound size (boxed store tables values r) →
      Under size code m store tables values r store' tables' values p.at p.left
  pub ends : 1 ≤ p.left → p.at.state ≡ running → p.at.pc < length (words_of code) →
      Others (instruction_at code p.at.pc).opcode

-- turns and the instruction after them: a run of m has come to this; and where it can go on, fewer are left
pub record Onward (size : ℕ) (code : List ℕ) (m : ℕ) (store : List ℤ) (tables : List ℕ) (values : List ℤ)
    (r : Registers) (store' : List ℤ) (tables' : List ℕ) (values' : List ℤ) (p : Reached Registers) : Type 0 where
  pub under : Under size code m store tables values r store' tables' values' p.at p.left
  pub went : p.at.state ≡ running → p.left < m

-- a run does what the definitions say, and counts what was carried out
pub record Lasts (size : ℕ) (code : List ℕ) (store : List ℤ) (tables : List ℕ) (values : List ℤ) (r : Registers)
    (m : ℕ) (store' : List ℤ) (tables' : List ℕ) (values' : List ℤ) (p : Progress) : Type 0 where
  pub is : state_at size store' tables' values' p.registers
      ≡ (run size (words_of code) (state_at size store tables values r) m).state
  pub counted : p.count ≡ count_of (run size (words_of code) (state_at size store tables values r) m)
