-- "What demand 3 speaks of": the plain book beside the tables. It is fed what was carried out and never looks at
-- queues or owners.
use Rattle.std.specs.Prelude.{ℕ, ◌+◌, ◌-◌, Bool, cond, not as negate, ◌&&◌, ◌||◌, List, [], ◌∷◌, ◌++◌, eqb, ℤ, pos, negsuc, nat_abs, drop}
use Rattle.arithmetic.specs.Arithmetic.{eq_z}
use Rattle.machine.specs.Instructions.{Instruction}
use Rattle.machine.specs.Instructions as instr
use Rattle.machine.specs.State.{State, below, cell, minus_one, top}

-- what the book is told of an instruction
pub data Event : Type 0 where
  -- lock on a mutex
  locks : ℕ → Event
  -- unlock of a mutex, or wait, which unlocks the mutex below its condition
  unlocks : ℕ → Event
  -- create, with the number pushed
  creates : ℤ → Event
  -- exit, or return at −1, with what the thread ends with
  ends : ℤ → Event
  -- join on a thread (change request Six)
  joins : ℕ → Event
  -- newsema, with its starting count and the number pushed (change request Four)
  opens : ℕ → ℤ → Event
  -- up and down on a semaphore; a down is entered when it is begun, also by a thread that then waits
  ups : ℕ → Event
  downs : ℕ → Event
  -- any other instruction
  other : Event

-- one instruction carried out: the thread running it, and what the book is told
pub record Entry : Type 0 where
  pub thread : ℕ
  pub event : Event

-- the event of an instruction, from the cells before the step and, for create and newsema, from top after it
unfoldable pub event_of : ℕ → State → Instruction → State → Event
event_of size before instr.lock after = locks (nat_abs (top size before))
event_of size before instr.unlock after = unlocks (nat_abs (top size before))
event_of size before instr.wait after = unlocks (nat_abs (below size before))
event_of size before instr.create after = creates (top size after)
event_of size before instr.exit after = ends (top size before)
event_of size before instr.return after =
    cond (eq_z (cell size before (before.regs.fp - 1)) minus_one) (ends (cell size before (before.regs.fp - 2))) other
event_of size before instr.join after = joins (nat_abs (top size before))
event_of size before instr.newsema after = opens (nat_abs (top size before)) (top size after)
event_of size before instr.up after = ups (nat_abs (top size before))
event_of size before instr.down after = downs (nat_abs (top size before))
event_of size before instr.halt after = other
event_of size before (instr.loadc k) after = other
event_of size before instr.load after = other
event_of size before instr.store after = other
event_of size before (instr.loadr k) after = other
event_of size before (instr.storer k) after = other
event_of size before (instr.alloc k) after = other
event_of size before instr.pop after = other
event_of size before instr.dup after = other
event_of size before instr.add after = other
event_of size before instr.sub after = other
event_of size before instr.mul after = other
event_of size before instr.div after = other
event_of size before instr.«mod» after = other
event_of size before instr.neg after = other
event_of size before instr.eq after = other
event_of size before instr.neq after = other
event_of size before instr.less after = other
event_of size before instr.leq after = other
event_of size before instr.not after = other
event_of size before (instr.jump a) after = other
event_of size before (instr.jumpz a) after = other
event_of size before instr.mark after = other
event_of size before instr.call after = other
event_of size before instr.new after = other
event_of size before instr.yield after = other
event_of size before instr.finalize after = other
event_of size before instr.newmutex after = other
event_of size before instr.newcond after = other
event_of size before instr.signal after = other
event_of size before instr.broadcast after = other

-- what it holds of the semaphores (change request Four): how often newsema pushed each number, with what starting
-- count, how many ups were carried out on it, and the names of those who began down on it, in their order
pub record Permits : Type 0 where
  pub made : ℕ → ℕ
  pub starting : ℕ → ℕ
  pub ups : ℕ → ℕ
  pub downs : ℕ → List ℕ

-- "It holds the living threads .. and for each mutex number a list of names .. and a count"
pub record Book : Type 0 where
  pub living : ℕ → Bool
  pub names : ℕ → List ℕ
  pub releases : ℕ → ℕ
  pub permits : Permits

abbrev pub unopened : Permits
unopened = record { made = λ k. 0; starting = λ k. 0; ups = λ k. 0; downs = λ k. [] }

-- "the living threads, at first only 0, .. a list of names, at first empty, and a count, at first 0"
abbrev pub blank : Book
blank = record { living = λ t. eqb t 0; names = λ m. []; releases = λ m. 0; permits = unopened }

-- "create puts the number pushed among the living, unless it is −1"
abbrev pub born : (ℕ → Bool) → ℤ → ℕ → Bool
born living (pos u) t = eqb t u || living t
born living (negsuc k) t = living t

-- "exit, and return at −1, take the running thread out"
abbrev pub gone : (ℕ → Bool) → ℕ → ℕ → Bool
gone living u t = negate (eqb t u) && living t

-- a number more for one semaphore
abbrev pub more : (ℕ → ℕ) → ℕ → ℕ → ℕ → ℕ
more f k n j = cond (eqb j k) (f j + n) (f j)

-- newsema enters the number pushed and its starting count, unless it is −1
abbrev pub opened : Permits → ℕ → ℤ → Permits
opened p n (pos k) =
    record { made = more p.made k 1; starting = more p.starting k n; ups = p.ups; downs = p.downs }
opened p n (negsuc k) = p

-- up adds one to its semaphore's ups
abbrev pub upped : Permits → ℕ → Permits
upped p k = record { made = p.made; starting = p.starting; ups = more p.ups k 1; downs = p.downs }

-- down puts the running thread's name at the end of its semaphore's list
abbrev pub downed : Permits → ℕ → ℕ → Permits
downed p thread k =
    record {
      made = p.made;
      starting = p.starting;
      ups = p.ups;
      downs = λ j. cond (eqb j k) (p.downs j ++ thread ∷ []) (p.downs j);
    }

-- the same book with other permits
abbrev pub with_permits : Book → Permits → Book
with_permits b permits = record { living = b.living; names = b.names; releases = b.releases; permits = permits }

unfoldable pub fed : Book → Entry → Book
fed book entry = told book entry.thread entry.event
  where
    told : Book → ℕ → Event → Book
    -- "lock puts the running thread's name at the end of that mutex's list"
    told b thread (locks m) =
        record {
          living = b.living;
          names = λ k. cond (eqb k m) (b.names k ++ thread ∷ []) (b.names k);
          releases = b.releases;
          permits = b.permits;
        }
    -- "unlock adds 1 to its mutex's count, wait to that of the mutex below its condition"
    told b thread (unlocks m) =
        record {
          living = b.living;
          names = b.names;
          releases = λ k. cond (eqb k m) (b.releases k + 1) (b.releases k);
          permits = b.permits;
        }
    told b thread (creates v) =
        record { living = born b.living v; names = b.names; releases = b.releases; permits = b.permits }
    told b thread (ends v) =
        record { living = gone b.living thread; names = b.names; releases = b.releases; permits = b.permits }
    told b thread (opens n v) = with_permits b (opened b.permits n v)
    told b thread (ups k) = with_permits b (upped b.permits k)
    told b thread (downs k) = with_permits b (downed b.permits thread k)
    -- "Any other instruction .. changes nothing"
    told b thread (joins u) = b
    told b thread other = b

-- the book after a trace
unfoldable pub book_of : Book → List Entry → Book
book_of book [] = book
book_of book (entry ∷ rest) = book_of (fed book entry) rest

-- "The names left are the list without its first names, as many as the count"
abbrev pub names_left : Book → ℕ → List ℕ
names_left book m = drop (book.releases m) (book.names m)

-- the starting count plus the ups: so many downs on a semaphore go on
abbrev pub permitted : Book → ℕ → ℕ
permitted book k = book.permits.starting k + book.permits.ups k

-- the downs on a semaphore that were begun without a permit: those whose thread waits
abbrev pub downs_left : Book → ℕ → List ℕ
downs_left book k = drop (permitted book k) (book.permits.downs k)
