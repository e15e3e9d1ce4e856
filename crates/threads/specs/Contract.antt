-- What the functions on threads promise.
use Rattle.std.specs.Prelude.{ℕ, List, ◌≡◌, ℤ}
use Rattle.machine.specs.State.{State}
use Rattle.machine.specs.Tables.{tables_of}
use Rattle.machine.specs.declared.registers.Registers.{Registers}
use Rattle.cells.specs.Contract.{at}
use Rattle.tables.specs.Good.{Good}

-- tables and registers go as a definition says, for every store and values, and the tables stay in order
pub record Goes (size : ℕ) (f : State → State) (tables : List ℕ) (r : Registers)
    (tables' : List ℕ) (q : Registers) : Type 0 where
  pub is : (store values : List ℤ) → at store (tables_of size tables') values q
      ≡ f (at store (tables_of size tables) values r)
  pub good : Good size tables'
