-- What demand 3 says of a state, with the book beside it: where each thread is, who owns each mutex, and who waits
-- for it.
use Rattle.std.specs.Prelude.{ℕ, zero, suc, ◌+◌, ◌*◌, ◌<◌, ◌≤◌, true, cond, List, [], ◌∷◌, ◌++◌, ◌≢◌, ◌≡◌, eqb, length}
use Rattle.machine.specs.Book.{Book, names_left}
use Rattle.machine.specs.Lists.{count}
use Rattle.machine.specs.Size.{mutex_limit}
use Rattle.machine.specs.State.{State}
use Rattle.machine.specs.Tables.{Tables, at_mutex, owner_of, queue, ready}

-- how often a thread occurs in the queues of the places from `from` on, so many places
unfoldable pub waits_in : Tables → ℕ → ℕ → ℕ → ℕ
waits_in tables t from zero = 0
waits_in tables t from (suc k) = count t (queue tables from) + waits_in tables t (suc from) k

-- the running thread, as a list of one name or none
abbrev pub runner_of : ℕ → State → List ℕ
runner_of size s = cond (eqb s.regs.thread size) [] (s.regs.thread ∷ [])

-- in how many places a thread is: running, the ready queue, and every wait queue of mutexes, conditions, semaphores
-- and awaited threads
unfoldable pub places_of : ℕ → State → ℕ → ℕ
places_of size s t = count t (runner_of size s) + waits_in s.tables t ready (1 + 6 * size)

-- a mutex's owner, as a list of one name or none
abbrev pub holder_of : ℕ → Tables → ℕ → List ℕ
holder_of size tables m = cond (eqb (owner_of tables m) size) [] (owner_of tables m ∷ [])

pub record Fair (size : ℕ) (s : State) (book : Book) : Type 0 where
  -- each thread among the living is in exactly one place, and any other number is in none
  pub one_place : (t : ℕ) → places_of size s t ≡ cond (book.living t) 1 0
  -- the count is never over the list's length
  pub counted : (m : ℕ) → m < mutex_limit size → book.releases m ≤ length (book.names m)
  -- the names left are the owner, followed by those waiting; with none left there is no owner and nobody waits, ..
  pub in_order : (m : ℕ) → m < mutex_limit size → names_left book m
      ≡ holder_of size s.tables m ++ queue s.tables (at_mutex m)
  -- .. and with no owner nobody waits: where a name is left, the first is the owner's
  pub unawaited : (m : ℕ) → m < mutex_limit size → owner_of s.tables m ≡ size → queue s.tables (at_mutex m) ≡ []
  -- "an owner is a live thread" (change request Two)
  pub owner_lives : (m : ℕ) → m < mutex_limit size → owner_of s.tables m ≢ size →
      book.living (owner_of s.tables m) ≡ true
