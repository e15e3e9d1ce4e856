-- What the functions of set-up ask, and what they leave.
use Rattle.std.specs.Prelude.{ℕ, ◌*◌, ◌≤◌, List, ◌≡◌, ℤ}
use Rattle.machine.specs.Size.{store_size, tables_size, values_size}
use Rattle.machine.specs.State.{start}
use Rattle.machine.specs.Tables.{slice_of}
use Rattle.machine.specs.declared.registers.Registers.{Registers}

-- tables of the box's size
pub record Roomy (size long : ℕ) : Type 0 where
  pub some : 1 ≤ size
  pub small : size ≤ 32
  pub fits : long ≡ 7 * size

-- memory of the box's sizes
pub record Lent (size store tables values : ℕ) : Type 0 where
  pub some : 1 ≤ size
  pub small : size ≤ 32
  pub cells_fit : store ≡ store_size size
  pub tables_fit : tables ≡ tables_size size
  pub values_fit : values ≡ values_size size

-- the store, the tables, the values and the registers are those of the start
pub record Started (size cells : ℕ) (store : List ℤ) (tables : List ℕ) (values : List ℤ) (r : Registers) : Type 0 where
  pub in_store : store ≡ (start size cells).store
  pub in_tables : tables ≡ slice_of (start size cells).tables
  pub in_values : values ≡ (start size cells).values
  pub in_registers : r ≡ (start size cells).regs
