-- "The machine": its state, cells and stacks, a new thread, setting up, Next and ending.
use Rattle.std.specs.Prelude.{ℕ, ◌+◌, ◌-◌, ◌*◌, cond, List, [], ◌∷◌, ℤ, pos, negsuc, get_or, set, replicate, Option, Some, None}
use Rattle.machine.specs.Lists.{up_to}
use Rattle.machine.specs.Registers.{halted, running, stuck, nobody, switched, with_state}
use Rattle.machine.specs.Size.{stack_at, store_size, values_size}
use Rattle.machine.specs.Tables.{Tables, active, any_live, at_end, ended, first, queue, ready, saved, sent, wake_all}
use Rattle.machine.specs.declared.registers.Registers.{Registers}
use Rattle.machine.specs.declared.numbers.Thread.{Thread}

-- the values are what each thread ended with, then the count of each semaphore
pub record State : Type 0 where
  pub store : List ℤ
  pub tables : Tables
  pub values : List ℤ
  pub regs : Registers

abbrev pub minus_one : ℤ
minus_one = negsuc 0

abbrev pub with_store : State → List ℤ → State
with_store s store = record { store = store; tables = s.tables; values = s.values; regs = s.regs }

abbrev pub with_tables : State → Tables → State
with_tables s tables = record { store = s.store; tables = tables; values = s.values; regs = s.regs }

abbrev pub with_regs : State → Registers → State
with_regs s regs = record { store = s.store; tables = s.tables; values = s.values; regs = regs }

-- the count of a semaphore, which is lent beside the ended threads' values (change request Four)
abbrev pub semaphore_count : ℕ → List ℤ → ℕ → ℤ
semaphore_count size values k = get_or values (size + k) (pos 0)

-- a semaphore's count is set
abbrev pub with_count : ℕ → State → ℕ → ℤ → State
with_count size s k v = record {
  store = s.store;
  tables = s.tables;
  values = set s.values
      (size + k) v;
  regs = s.regs;
}

-- a shared cell
abbrev pub shared_cell : State → ℕ → ℤ
shared_cell s a = get_or s.store a (pos 0)

-- cell i of the running thread's stack
abbrev pub cell : ℕ → State → ℕ → ℤ
cell size s i = get_or s.store (stack_at size s.regs.thread i) (pos 0)

-- ""top" is the cell at SP"
abbrev pub top : ℕ → State → ℤ
top size s = cell size s (s.regs.cells - 1)

-- the cell below it
abbrev pub below : ℕ → State → ℤ
below size s = cell size s (s.regs.cells - 2)

-- cell i of the running thread's stack is written
abbrev pub written : ℕ → State → ℕ → ℤ → State
written size s i v = with_store s (set s.store (stack_at size s.regs.thread i) v)

-- "A new thread with argument v: cell 0 = v, cells 1 and 2 = −1, FP = SP = 2."
abbrev pub new_stack : ℕ → List ℤ → ℕ → ℤ → List ℤ
new_stack size store t v = set (set (set store (stack_at size t 0) v) (stack_at size t 1) minus_one)
    (stack_at size t 2) minus_one

abbrev pub new_cells : ℕ
new_cells = 3

abbrev pub new_fp : ℕ
new_fp = 2

-- the start of the tables: thread 0 runs and nothing else is made; every mutex is free; the line is in number order
abbrev pub start_tables : ℕ → Tables
start_tables size =
    record {
      places = active ∷ replicate (size - 1) 0;
      pcs = replicate size 0;
      depths = replicate size 0;
      frames = replicate size 0;
      owners = replicate (2 * size) size;
      line = up_to size;
    }

-- "Setting up clears the store and .. leaves nothing made but thread 0, running, PC 0, argument 0; the next free
-- shared cell is g."
unfoldable pub start : ℕ → ℕ → State
start size cells =
    record {
      store = new_stack size (replicate (store_size size) (pos 0)) 0 (pos 0);
      tables = start_tables size;
      values = replicate (values_size size) (pos 0);
      regs =
          record {
            state = running;
            fault = 0;
            thread = 0;
            pc = 0;
            cells = new_cells;
            fp = new_fp;
            free = cells;
            threads = 1;
            mutexes = 0;
            conditions = 0;
            semaphores = 0;
          };
    }

-- "Next: the first of the ready queue runs. With none ready the machine is halted if no thread lives, else stuck."
abbrev pub next_of : ℕ → Option Thread → State → State
next_of size (Some t) s =
    record {
      store = s.store;
      tables = sent s.tables t.0 active;
      values = s.values;
      regs =
          switched s.regs t.0 (get_or s.tables.pcs t.0 0) (get_or s.tables.depths t.0 0)
          (get_or s.tables.frames t.0 0);
    }
next_of size None s = with_regs s (with_state s.regs (cond (any_live size s.tables) stuck halted) (nobody size))

unfoldable pub next : ℕ → State → State
next size s = next_of size (first s.tables ready) s

-- the running thread goes to another place, its registers saved, and none runs
unfoldable pub left : ℕ → State → ℕ → State
left size s place =
    record {
      store = s.store;
      tables =
          sent (saved s.tables s.regs.thread s.regs.pc s.regs.cells s.regs.fp) s.regs.thread
          place;
      values = s.values;
      regs = with_state s.regs s.regs.state (nobody size);
    }

-- "wait in its queue, then Next"
abbrev pub blocked : ℕ → State → ℕ → State
blocked size s place = next size (left size s place)

-- the top cell of a thread that doesn't run, in the store: it is on the thread's own stack, where its saved registers
-- say
abbrev pub saved_top : ℕ → Tables → ℕ → ℕ
saved_top size tables t = stack_at size t (get_or tables.depths t 0 - 1)

-- "the ending thread writes its result to the top cell of each waiter" (change request Six), one after another
unfoldable pub delivered : ℕ → Tables → ℤ → List ℕ → List ℤ → List ℤ
delivered size tables v [] store = store
delivered size tables v (t ∷ rest) store = delivered size tables v rest (set store (saved_top size tables t) v)

-- "Ending: the result is kept, all who wait for it go to the ready tail in their order, then Next.", each with the
-- result in its top cell
unfoldable pub finished : ℕ → State → ℤ → State
finished size s v =
    record {
      store = delivered size s.tables v (queue s.tables (at_end size s.regs.thread)) s.store;
      tables = sent (wake_all s.tables (at_end size s.regs.thread)) s.regs.thread ended;
      values = set s.values s.regs.thread v;
      regs = with_state s.regs s.regs.state (nobody size);
    }

abbrev pub ends : ℕ → State → ℤ → State
ends size s v = next size (finished size s v)
