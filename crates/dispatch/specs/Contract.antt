-- What an instruction asks.
use Rattle.std.specs.Prelude.{ℕ, ◌*◌, ◌<◌, ◌≤◌, List, ◌⊎◌, ◌≢◌, ◌≡◌, ℤ, length}
use Rattle.machine.specs.Tables.{at_end, tables_of}
use Rattle.machine.specs.declared.registers.Registers.{Registers}
use Rattle.cells.specs.Contract.{Able, Made}
use Rattle.endings.specs.Contract.{Receivers}
use Rattle.passing.specs.Contract.{Low}
use Rattle.tables.specs.Good.{Good}

-- what an instruction is carried out with
pub record Working (size : ℕ) (r : Registers) (cells : ℕ) (tables : List ℕ) (values : List ℤ) : Type 0 where
  pub able : Able size r cells
  pub made : Made size r
  pub good : Good size tables
  pub valued : length values ≡ 2 * size
  -- no more threads wait for a semaphore than there are
  pub low : (k : ℕ) → k < r.semaphores → Low size values k
  -- those who wait for the running thread's end have a cell, where its result goes
  pub receivers : Receivers size (at_end size r.thread) (tables_of size tables)

-- the opcodes of yield, lock and unlock, ..
abbrev pub Turning : ℕ → Type 0
Turning opcode = (opcode ≡ 27) ⊎ ((opcode ≡ 32) ⊎ (opcode ≡ 33))

-- .. and of all other instructions
abbrev pub Others : ℕ → Type 0
Others opcode = Turning opcode → ⊥

-- the opcodes from loadc to call but alloc: the instructions that are tried in a context
pub record Own (opcode : ℕ) : Type 0 where
  pub least : 1 ≤ opcode
  pub most : opcode ≤ 23
  pub other : opcode ≢ 6
