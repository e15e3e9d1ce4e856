-- What the functions on a thread's end ask and promise.
use Rattle.std.specs.Prelude.{ℕ, ◌<◌, ◌≤◌, List, ◌≡◌, ℤ, get_or}
use Rattle.machine.specs.State.{delivered, ends}
use Rattle.machine.specs.Tables.{Tables, place_of, queue, tables_of, wake_all}
use Rattle.machine.specs.declared.registers.Registers.{Registers}
use Rattle.cells.specs.Contract.{at}
use Rattle.tables.specs.Good.{Left}

-- those who wait at a place have a top cell, where a result can go
pub record Receivers (size from : ℕ) (tables : Tables) : Type 0 where
  pub some : (t : ℕ) → t < size → place_of tables t ≡ from → 1 ≤ get_or tables.depths t 0
  pub most : (t : ℕ) → t < size → place_of tables t ≡ from → get_or tables.depths t 0 ≤ 128

-- they all get it, in their top cells, and go to the ready tail
pub record Delivers (size from : ℕ) (v : ℤ) (store : List ℤ) (tables : List ℕ)
    (store' : List ℤ) (tables' : List ℕ) : Type 0 where
  pub given : store' ≡ delivered size (tables_of size tables) v (queue (tables_of size tables) from) store
  pub woken : Left size tables' (wake_all (tables_of size tables) from)

-- the running thread ends with a result, those who wait for it get it, and the next one runs
abbrev pub Ends : ℕ → ℤ → List ℤ → List ℕ → List ℤ → Registers → List ℤ → List ℕ → List ℤ → Registers → Type 0
Ends size v store tables values r store' tables' values' q =
    at store' (tables_of size tables') values' q ≡ ends size (at store (tables_of size tables) values r) v
