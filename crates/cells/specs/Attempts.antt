-- What an instruction on the running thread's own context asks, and what it promises.
use Rattle.std.specs.Prelude.{ℕ, ◌+◌, ◌*◌, ◌<◌, ◌≤◌, List, ◌≡◌, ℤ, Result, Ok, Err, OnErr}
use Rattle.machine.specs.Context.{in_context}
use Rattle.machine.specs.Execution.{Outcome, done, exec, fault}
use Rattle.machine.specs.Faults.{number_of}
use Rattle.machine.specs.Instructions.{Instruction}
use Rattle.machine.specs.Tables.{Tables}
use Rattle.machine.specs.declared.context.Context.{Context}
use Rattle.machine.specs.declared.faults.Fault.{Fault}
use Rattle.machine.specs.declared.registers.Registers.{Registers}
use Rattle.cells.specs.Contract.{at}

-- a thread of the box in a context that an instruction can be tried in, PC past it, and a store of the box's size
pub record Fit (size t : ℕ) (c : Context) (long : ℕ) : Type 0 where
  pub small : size ≤ 32
  pub fits : long ≡ 256 * size
  pub thread : t < size
  pub pc : c.pc ≤ 4096
  pub cells : c.cells ≤ 128
  pub fp_least : 2 ≤ c.fp
  pub fp_most : c.fp ≤ 127

-- an attempt as the definitions say it: carried out, with this store and the thread in its new context, or a fault
abbrev pub outcome_of : List ℤ → Tables → List ℤ → Registers → ℕ → Result Context Fault → Outcome
outcome_of store tables values r t (Ok c) = done (at store tables values (in_context r t c))
outcome_of store tables values r t (Err f) = fault (number_of f)

-- what comes of the instruction is what the definitions say, whatever tables, values and other registers stand
-- beside; and a fault leaves the store as it was
pub record TriesIn (size n : ℕ) (i : Instruction) (store : List ℤ) (t : ℕ) (c : Context) (store' : List ℤ)
    (tried : Result Context Fault) : Type 0 where
  pub is : (tables : Tables) (values : List ℤ) (r : Registers) →
      exec size n (at store tables values (in_context r t c)) i ≡ outcome_of store' tables values r t tried
  pub kept : OnErr tried (store' ≡ store)

-- for every card
abbrev pub Tries : ℕ → Instruction → List ℤ → ℕ → Context → List ℤ → Result Context Fault → Type 0
Tries size i store t c store' tried = (n : ℕ) → TriesIn size n i store t c store' tried

-- the context past the instruction at PC
abbrev pub past_of : Registers → Context
past_of r = record { pc = r.pc + 1; cells = r.cells; fp = r.fp }
