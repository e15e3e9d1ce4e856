-- The lent tables: their layout, the queues, and the moves of a thread from one place to another.
--
-- The tables are one slice of 7 × size numbers, in these regions (size is the box's number of threads):     places
-- size       where each thread is, a number as below     pcs      size       the saved PC of each thread     depths
-- size       the saved number of cells of each thread, SP + 1     frames   size       the saved FP of each thread
-- owners   2 × size   the owner of each mutex, or size where it is free     line     size       the threads in the
-- order of arrival, each once A queue is those of the line that are at one place, in the line's order. So a thread is
-- in one queue at most, and no queue can be full.
use Rattle.std.specs.Prelude.{ℕ, ◌+◌, ◌*◌, Bool, List, [], ◌∷◌, ◌++◌, eqb, ltb, get_or, set, take, drop, Option, Some, None}
use Rattle.machine.specs.Lists.{keep, some, to_end}
use Rattle.machine.specs.Size.{mutex_limit}
use Rattle.machine.specs.declared.numbers.Thread.{Thread}

pub record Tables : Type 0 where
  pub places : List ℕ
  pub pcs : List ℕ
  pub depths : List ℕ
  pub frames : List ℕ
  pub owners : List ℕ
  pub line : List ℕ

-- the tables in a slice
unfoldable pub tables_of : ℕ → List ℕ → Tables
tables_of size slice =
    record {
      places = take size slice;
      pcs = take size (drop size slice);
      depths = take size (drop (2 * size) slice);
      frames = take size (drop (3 * size) slice);
      owners = take (2 * size) (drop (4 * size) slice);
      line = drop (6 * size) slice;
    }

-- and the slice that holds tables
unfoldable pub slice_of : Tables → List ℕ
slice_of t = t.places ++ t.pcs ++ t.depths ++ t.frames ++ t.owners ++ t.line

-- where a thread can be: not made, ended, running, ready, ..
abbrev pub unmade : ℕ
unmade = 0

abbrev pub ended : ℕ
ended = 1

abbrev pub active : ℕ
active = 2

abbrev pub ready : ℕ
ready = 3

-- .. waiting for a mutex, for a condition, for a semaphore, or for the end of a thread
abbrev pub at_mutex : ℕ → ℕ
at_mutex m = 4 + m

abbrev pub at_condition : ℕ → ℕ → ℕ
at_condition size c = 4 + 2 * size + c

abbrev pub at_semaphore : ℕ → ℕ → ℕ
at_semaphore size k = 4 + 4 * size + k

abbrev pub at_end : ℕ → ℕ → ℕ
at_end size t = 4 + 5 * size + t

abbrev pub place_of : Tables → ℕ → ℕ
place_of tables t = get_or tables.places t 0

abbrev pub owner_of : Tables → ℕ → ℕ
owner_of tables m = get_or tables.owners m 0

-- a thread is at a place
abbrev pub is_at : Tables → ℕ → ℕ → Bool
is_at tables place t = eqb (place_of tables t) place

-- the queue of a place: those of the line that are there
unfoldable pub queue : Tables → ℕ → List ℕ
queue tables place = keep (is_at tables place) tables.line

-- a thread lives if it is made and has not ended
abbrev pub lives : Tables → ℕ → Bool
lives tables t = ltb ended (place_of tables t)

-- "if no thread lives"
unfoldable pub any_live : ℕ → Tables → Bool
any_live size tables = some size (lives tables)

-- "when the thread owns any mutex" (change request Two)
unfoldable pub owns_any : ℕ → Tables → ℕ → Bool
owns_any size tables t = some (mutex_limit size) (λ m. eqb (owner_of tables m) t)

-- "the queue gives the first waiter, or nobody"
abbrev pub first_of : List ℕ → Option Thread
first_of [] = None
first_of (t ∷ rest) = Some (record { 0 = t })

unfoldable pub first : Tables → ℕ → Option Thread
first tables place = first_of (queue tables place)

-- a thread goes to a place, as the last to arrive there
unfoldable pub sent : Tables → ℕ → ℕ → Tables
sent tables t place =
    record {
      places = set tables.places t place;
      pcs = tables.pcs;
      depths = tables.depths;
      frames = tables.frames;
      owners = tables.owners;
      line = to_end t tables.line;
    }

-- a mutex gets an owner, or none
unfoldable pub owned : Tables → ℕ → ℕ → Tables
owned tables m owner =
    record {
      places = tables.places;
      pcs = tables.pcs;
      depths = tables.depths;
      frames = tables.frames;
      owners = set tables.owners m owner;
      line = tables.line;
    }

-- PC, the number of cells and FP are saved of a thread
unfoldable pub saved : Tables → ℕ → ℕ → ℕ → ℕ → Tables
saved tables t pc cells fp =
    record {
      places = tables.places;
      pcs = set tables.pcs t pc;
      depths = set tables.depths t cells;
      frames = set tables.frames t fp;
      owners = tables.owners;
      line = tables.line;
    }

-- some threads go to the ready tail, in their order
unfoldable pub all_ready : List ℕ → Tables → Tables
all_ready [] tables = tables
all_ready (t ∷ rest) tables = all_ready rest (sent tables t ready)

-- "until the condition's queue is empty", and "all who wait for it go to the ready tail in their order"
abbrev pub wake_all : Tables → ℕ → Tables
wake_all tables place = all_ready (queue tables place) tables

-- "sends the first waiter, if any, to the ready tail"; "the first waiter goes to the ready tail"
abbrev pub wake_one : Option Thread → Tables → Tables
wake_one (Some t) tables = sent tables t.0 ready
wake_one None tables = tables

abbrev pub wake_first : Tables → ℕ → Tables
wake_first tables place = wake_one (first tables place) tables

-- "that thread owns it and goes to the ready tail, or the mutex is free"
abbrev pub give : ℕ → Option Thread → ℕ → Tables → Tables
give size (Some t) m tables = sent (owned tables m t.0) t.0 ready
give size None m tables = owned tables m size

abbrev pub unlocked : ℕ → Tables → ℕ → Tables
unlocked size tables m = give size (first tables (at_mutex m)) m tables
