-- "The machine": the four states and the registers, which go in by value and come back advanced.
use Rattle.std.specs.Prelude.{ℕ, ◌+◌, Bool, false, List, [], ◌∷◌, ◌≡◌, refl, eqb}
use Rattle.machine.specs.Lists.{is_among}
use Rattle.machine.specs.declared.registers.Registers.{Registers}

-- "A machine is running, halted, stuck or faulted." Halted is 0, since a refused set-up gives all registers 0, halted.
abbrev pub halted : ℕ
halted = 0

abbrev pub running : ℕ
running = 1

abbrev pub stuck : ℕ
stuck = 2

abbrev pub faulted : ℕ
faulted = 3

abbrev pub is_running : Registers → Bool
is_running r = eqb r.state running

-- the register of the running thread where none runs
abbrev pub nobody : ℕ → ℕ
nobody size = size

abbrev pub zeros : Registers
zeros =
    record {
      state = 0;
      fault = 0;
      thread = 0;
      pc = 0;
      cells = 0;
      fp = 0;
      free = 0;
      threads = 0;
      mutexes = 0;
      conditions = 0;
      semaphores = 0;
    }

-- registers with PC, with the number of cells, and with FP set
abbrev pub with_pc : Registers → ℕ → Registers
with_pc r pc =
    record {
      state = r.state;
      fault = r.fault;
      thread = r.thread;
      pc = pc;
      cells = r.cells;
      fp = r.fp;
      free = r.free;
      threads = r.threads;
      mutexes = r.mutexes;
      conditions = r.conditions;
      semaphores = r.semaphores;
    }

abbrev pub with_cells : Registers → ℕ → Registers
with_cells r cells =
    record {
      state = r.state;
      fault = r.fault;
      thread = r.thread;
      pc = r.pc;
      cells = cells;
      fp = r.fp;
      free = r.free;
      threads = r.threads;
      mutexes = r.mutexes;
      conditions = r.conditions;
      semaphores = r.semaphores;
    }

abbrev pub with_fp : Registers → ℕ → Registers
with_fp r fp =
    record {
      state = r.state;
      fault = r.fault;
      thread = r.thread;
      pc = r.pc;
      cells = r.cells;
      fp = fp;
      free = r.free;
      threads = r.threads;
      mutexes = r.mutexes;
      conditions = r.conditions;
      semaphores = r.semaphores;
    }

-- with the next free shared cell
abbrev pub with_free : Registers → ℕ → Registers
with_free r free =
    record {
      state = r.state;
      fault = r.fault;
      thread = r.thread;
      pc = r.pc;
      cells = r.cells;
      fp = r.fp;
      free = free;
      threads = r.threads;
      mutexes = r.mutexes;
      conditions = r.conditions;
      semaphores = r.semaphores;
    }

-- with the counts of the threads, mutexes and conditions made
abbrev pub with_made : Registers → ℕ → ℕ → ℕ → Registers
with_made r threads mutexes conditions =
    record {
      state = r.state;
      fault = r.fault;
      thread = r.thread;
      pc = r.pc;
      cells = r.cells;
      fp = r.fp;
      free = r.free;
      threads = threads;
      mutexes = mutexes;
      conditions = conditions;
      semaphores = r.semaphores;
    }

-- with the count of the semaphores made (change request Four)
abbrev pub with_semaphores : Registers → ℕ → Registers
with_semaphores r semaphores =
    record {
      state = r.state;
      fault = r.fault;
      thread = r.thread;
      pc = r.pc;
      cells = r.cells;
      fp = r.fp;
      free = r.free;
      threads = r.threads;
      mutexes = r.mutexes;
      conditions = r.conditions;
      semaphores = semaphores;
    }

-- with the state and the running thread
abbrev pub with_state : Registers → ℕ → ℕ → Registers
with_state r state thread =
    record {
      state = state;
      fault = r.fault;
      thread = thread;
      pc = r.pc;
      cells = r.cells;
      fp = r.fp;
      free = r.free;
      threads = r.threads;
      mutexes = r.mutexes;
      conditions = r.conditions;
      semaphores = r.semaphores;
    }

-- "PC advances past the instruction first"
abbrev pub advanced : Registers → Registers
advanced r = with_pc r (r.pc + 1)

-- another thread runs, with what was saved of it
abbrev pub switched : Registers → ℕ → ℕ → ℕ → ℕ → Registers
switched r thread pc cells fp = with_fp (with_cells (with_pc (with_state r r.state thread) pc) cells) fp

-- "Numbers given when it can't be done", "the table from 20 up": which numbers are faults is said here alone. 29 is
-- not among them: it "is no longer given and leaves the table" (change request Six).
abbrev pub faults : List ℕ
faults = 20 ∷ 21 ∷ 22 ∷ 23 ∷ 24 ∷ 25 ∷ 26 ∷ 27 ∷ 28 ∷ 30 ∷ 31 ∷ 32 ∷ 33 ∷ 34 ∷ []

abbrev pub is_fault : ℕ → Bool
is_fault number = is_among number faults

no_29 : is_fault 29 ≡ false
no_29 = refl

-- "Faults 20 up mark the machine faulted"; "the registers keep the number"
abbrev pub stopped : Registers → ℕ → Registers
stopped r number =
    record {
      state = faulted;
      fault = number;
      thread = r.thread;
      pc = r.pc;
      cells = r.cells;
      fp = r.fp;
      free = r.free;
      threads = r.threads;
      mutexes = r.mutexes;
      conditions = r.conditions;
      semaphores = r.semaphores;
    }
