-- "Well formed", read plainly: what the test of WellFormed.antt says, clause by clause. proofs/Plain.antt proves that
-- the test passes exactly where these hold.
use Rattle.std.specs.Prelude.{ℕ, ◌<◌, ◌≤◌, true, List, ◌≢◌, ◌≡◌, ℤ, get_or, length}
use Rattle.machine.specs.Lists.{count}
use Rattle.machine.specs.Registers.{faulted, halted, is_fault, running, stuck}
use Rattle.machine.specs.Size.{condition_limit, mutex_limit, semaphore_limit, shared}
use Rattle.machine.specs.State.{semaphore_count}
use Rattle.machine.specs.Tables.{Tables, active, at_condition, at_end, at_mutex, at_semaphore, ended, owner_of, place_of, queue, ready, unmade}
use Rattle.machine.specs.WellFormed.{shortfall}
use Rattle.machine.specs.declared.registers.Registers.{Registers}

-- "PC 0 to 4,096, SP −1 to 127, FP 2 to 127"
pub record Frame (pc cells fp : ℕ) : Type 0 where
  pub pc_fits : pc ≤ 4096
  pub cells_fit : cells ≤ 128
  pub fp_least : 2 ≤ fp
  pub fp_most : fp ≤ 127

-- the same of what is saved of a thread
abbrev pub SavedFrame : Tables → ℕ → Type 0
SavedFrame tables t = Frame (get_or tables.pcs t 0) (get_or tables.depths t 0) (get_or tables.frames t 0)

-- "counts in range": threads, mutexes, conditions and semaphores made
pub record Counts (size threads mutexes conditions semaphores : ℕ) : Type 0 where
  pub some_thread : 1 ≤ threads
  pub threads_fit : threads ≤ size
  pub mutexes_fit : mutexes ≤ mutex_limit size
  pub conditions_fit : conditions ≤ condition_limit size
  pub semaphores_fit : semaphores ≤ semaphore_limit size

-- the line holds each thread once, and nothing else
pub record Line (size : ℕ) (line : List ℕ) : Type 0 where
  pub once : (t : ℕ) → t < size → count t line ≡ 1
  pub no_other : (t : ℕ) → size ≤ t → count t line ≡ 0

-- what a place asks where a thread waits there, for so many threads, mutexes, conditions and semaphores made
pub record Awaited (size threads mutexes conditions semaphores : ℕ) (tables : Tables) (place : ℕ) : Type 0 where
  -- free mutexes, and what isn't made yet, have no waiters
  pub for_mutex : (m : ℕ) → m < mutex_limit size → place ≡ at_mutex m → (m < mutexes) × (owner_of tables m ≢ size)
  pub for_condition : (c : ℕ) → c < condition_limit size → place ≡ at_condition size c → c < conditions
  pub for_semaphore : (k : ℕ) → k < semaphore_limit size → place ≡ at_semaphore size k → k < semaphores
  -- ended threads have no waiters
  pub for_end : (u : ℕ) → place ≡ at_end size u → (u < threads) × (place_of tables u ≢ ended)

-- one thread's place, for so many of each made and the thread that runs
pub record Placed (size threads mutexes conditions semaphores run : ℕ) (tables : Tables) (t : ℕ) : Type 0 where
  -- unmade threads are in no place
  pub not_made : threads ≤ t → place_of tables t ≡ unmade
  pub is_made : t < threads → unmade < place_of tables t
  -- only the running thread is at the place of the running one
  pub only_run : place_of tables t ≡ active → t ≡ run
  -- a thread that waits, waits for what is made
  pub awaited : Awaited size threads mutexes conditions semaphores tables (place_of tables t)
  -- a thread that is ready or waits has its registers saved
  pub kept : ready ≤ place_of tables t → SavedFrame tables t
  -- "a thread waiting for another's end has a cell on its stack" (change request Six)
  pub has_cell : (u : ℕ) → place_of tables t ≡ at_end size u → 1 ≤ get_or tables.depths t 0

-- the tables, for so many of each made and the thread that runs, or the size where none does
pub record Tidy (size threads mutexes conditions semaphores run : ℕ) (tables : Tables) : Type 0 where
  pub counts : Counts size threads mutexes conditions semaphores
  pub line : Line size tables.line
  pub placed : (t : ℕ) → t < size → Placed size threads mutexes conditions semaphores run tables t
  -- the running thread is one that was made, and in no queue
  pub runner : run ≢ size → (run < threads) × (place_of tables run ≡ active)
  -- "owners are threads made, and what isn't made yet has neither owner .."
  pub holders : (m : ℕ) → m < mutex_limit size → owner_of tables m ≢ size → (m < mutexes) × (owner_of tables m < threads)
  -- "an owner is a live thread"
  pub owners_live : (m : ℕ) → m < mutex_limit size → owner_of tables m ≢ size → ended < place_of tables (owner_of tables m)

-- a thread that lives
pub record Lives (size : ℕ) (tables : Tables) : Type 0 where
  pub who : ℕ
  pub there : who < size
  pub alive : ended < place_of tables who

-- "running and faulted have a running thread, stuck has none running, none ready and a live one, halted has a running
-- thread or no live one"
pub record Mode (size state thread : ℕ) (tables : Tables) : Type 0 where
  pub known : state ≤ 3
  pub has_thread : state ≡ running → thread ≢ size
  pub fault_thread : state ≡ faulted → thread ≢ size
  pub stuck_none : state ≡ stuck → thread ≡ size
  pub stuck_unready : state ≡ stuck → (t : ℕ) → t < size → place_of tables t ≢ ready
  pub stuck_lives : state ≡ stuck → Lives size tables
  pub halted_empty : state ≡ halted → thread ≡ size → (t : ℕ) → t < size → place_of tables t ≤ ended

-- "the fault number is one of the table from 20 up when faulted, else 0"
pub record Fault (state fault : ℕ) : Type 0 where
  pub listed : state ≡ faulted → is_fault fault ≡ true
  pub none : state ≢ faulted → fault ≡ 0

pub record Formed (size : ℕ) (r : Registers) (tables : Tables) (values : List ℤ) : Type 0 where
  pub tidy : Tidy size r.threads r.mutexes r.conditions r.semaphores r.thread tables
  pub frame : Frame r.pc r.cells r.fp
  pub free_least : 1 ≤ r.free
  pub free_most : r.free ≤ shared size
  -- "the number waiting is the larger of 0 and minus the count" (change request Four)
  pub levels : (k : ℕ) → k < r.semaphores → length (queue tables (at_semaphore size k))
      ≡ shortfall (semaphore_count size values k)
  pub mode : Mode size r.state r.thread tables
  pub number : Fault r.state r.fault
