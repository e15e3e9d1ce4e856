-- What the instructions on cells ask, and what they promise: the state that the definitions give, whatever else the
-- machine holds.
use Rattle.std.specs.Prelude.{ℕ, ◌*◌, ◌<◌, ◌≤◌, Bool, true, false, cond, List, ◌≡◌, ltb, ℤ, pos, negsuc, Option, Some, None, Result, Ok, Err}
use Rattle.machine.specs.Faults.{number_of}
use Rattle.machine.specs.Instructions.{Instruction}
use Rattle.machine.specs.Registers.{stopped}
use Rattle.machine.specs.State.{State}
use Rattle.machine.specs.Step.{executed}
use Rattle.machine.specs.Tables.{Tables, tables_of}
use Rattle.machine.specs.declared.faults.Fault.{Fault}
use Rattle.machine.specs.declared.registers.Registers.{Registers}

-- a cell of a thread's stack is in the store
pub record CellOf (size t i long : ℕ) : Type 0 where
  pub small : size ≤ 32
  pub fits : long ≡ 256 * size
  pub thread : t < size
  pub cell : i < 128

-- registers that an instruction can be carried out with, and a store of the box's size
pub record Able (size : ℕ) (r : Registers) (long : ℕ) : Type 0 where
  pub small : size ≤ 32
  pub fits : long ≡ 256 * size
  pub thread : r.thread < size
  pub pc : r.pc < 4096
  pub cells : r.cells ≤ 128
  pub fp_least : 2 ≤ r.fp
  pub fp_most : r.fp ≤ 127
  pub free : r.free ≤ 128 * size

-- the machine with these lists and registers
abbrev pub at : List ℤ → Tables → List ℤ → Registers → State
at store tables values r = record { store = store; tables = tables; values = values; regs = r }

-- the registers after an instruction from r: those that it left, or r with the fault
abbrev pub settled_of : Registers → Result Registers Fault → Registers
settled_of r (Ok q) = q
settled_of r (Err f) = stopped r (number_of f)

-- the state after an instruction, from registers whose PC is at it
abbrev pub after : ℕ → ℕ → State → Instruction → State
after size n s i = (executed size n s i).state

-- an instruction on cells alone does what the definitions say, for every card, tables and values
abbrev pub Does : ℕ → Instruction → List ℤ → Registers → List ℤ → Registers → Type 0
Does size i store r store' q =
    (n : ℕ) (tables : Tables) (values : List ℤ) → at store' tables values q ≡ after size n (at store tables values r) i

-- the same of an instruction that looks at the number n of the card's instructions
abbrev pub DoesIn : ℕ → ℕ → Instruction → List ℤ → Registers → List ℤ → Registers → Type 0
DoesIn size n i store r store' q =
    (tables : Tables) (values : List ℤ) → at store' tables values q ≡ after size n (at store tables values r) i

-- an instruction on cells and tables, for every card and values; the tables are slices
abbrev pub Acts : ℕ → Instruction → List ℤ → List ℕ → Registers → List ℤ → List ℕ → Registers → Type 0
Acts size i store tables r store' tables' q =
    (n : ℕ) (values : List ℤ) →
    at store' (tables_of size tables') values q ≡ after size n (at store (tables_of size tables) values r) i

abbrev pub ActsIn : ℕ → ℕ → Instruction → List ℤ → List ℕ → Registers → List ℤ → List ℕ → Registers → Type 0
ActsIn size n i store tables r store' tables' q =
    (values : List ℤ) → at store' (tables_of size tables') values q
    ≡ after size n (at store (tables_of size tables) values r) i

-- an instruction on cells, tables and values, for every card
abbrev pub Changes : ℕ → Instruction → List ℤ → List ℕ → List ℤ → Registers →
    List ℤ → List ℕ → List ℤ → Registers → Type 0
Changes size i store tables values r store' tables' values' q =
    (n : ℕ) → at store' (tables_of size tables') values' q ≡ after size n (at store (tables_of size tables) values r) i

abbrev pub ChangesIn : ℕ → ℕ → Instruction → List ℤ → List ℕ → List ℤ → Registers →
    List ℤ → List ℕ → List ℤ → Registers → Type 0
ChangesIn size n i store tables values r store' tables' values' q =
    at store' (tables_of size tables') values' q ≡ after size n (at store (tables_of size tables) values r) i

-- the counts of what was made are in range
pub record Made (size : ℕ) (r : Registers) : Type 0 where
  pub threads : r.threads ≤ size
  pub mutexes : r.mutexes ≤ 2 * size
  pub conditions : r.conditions ≤ 2 * size
  pub semaphores : r.semaphores ≤ size

-- a cell's value as a number below a limit
abbrev pub index_of : ℤ → ℕ → Option ℕ
index_of (pos a) limit = cond (ltb a limit) (Some a) None
index_of (negsuc a) limit = None

-- an instruction on the registers alone does so in every box, on every store
abbrev pub DoesAnywhere : Instruction → Registers → Registers → Type 0
DoesAnywhere i r q = (size : ℕ) (store : List ℤ) → Does size i store r store q

-- a test tells whether something holds
pub record Tells (P : Type 0) (b : Bool) : Type 0 where
  pub holds : b ≡ true → P
  pub fails : b ≡ false → P → ⊥
