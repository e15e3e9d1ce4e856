-- What change request Four asks to be shown of semaphores, over the same lists of calls as demand 3. The proofs are
-- in proofs/Semaphores.antt and proofs/Permitted.antt.
use Rattle.std.specs.Prelude.{ℕ, suc, ◌<◌, ◌≤◌, cond, List, [], ◌≡◌, ltb, pos, ◌+ℤ◌, ◌-ℤ◌, get_or, length}
use Rattle.machine.specs.Book.{Book, Entry, blank, book_of, downs, downs_left, permitted, ups}
use Rattle.machine.specs.Calls.{Box, state_of}
use Rattle.machine.specs.Played.{AfterCalls, Call, InPaperBox, played}
use Rattle.machine.specs.Order.{book_at, entry_at}
use Rattle.machine.specs.Size.{full}
use Rattle.machine.specs.State.{State, semaphore_count}
use Rattle.machine.specs.Tables.{at_semaphore, queue}
use Rattle.machine.specs.WellFormed.{shortfall}

-- what holds of a state, with the book beside it
pub record Levels (size : ℕ) (s : State) (book : Book) : Type 0 where
  -- newsema pushed each number made once, and no other: the starting count in the book is that of one newsema
  pub made_once : (k : ℕ) → book.permits.made k ≡ cond (ltb k s.regs.semaphores) 1 0
  -- "the count is the starting count plus ups less downs begun"
  pub counted : (k : ℕ) → k < s.regs.semaphores →
      semaphore_count size s.values k
      ≡ pos (book.permits.starting k) +ℤ pos (book.permits.ups k) -ℤ pos (length (book.permits.downs k))
  -- "the number waiting is the larger of 0 and minus the count"
  pub waiting : (k : ℕ) → k < s.regs.semaphores →
      length (queue s.tables (at_semaphore size k)) ≡ shortfall (semaphore_count size s.values k)
  -- those who wait are those who began down without a permit, in the order in which they began
  pub in_order : (k : ℕ) → k < s.regs.semaphores → queue s.tables (at_semaphore size k) ≡ downs_left book k
  -- on a number not made nobody began down
  pub unused : (k : ℕ) → s.regs.semaphores ≤ k → book.permits.downs k ≡ []

-- down number j on a semaphore (from 0) is begun in instruction i, and its thread has to wait
pub record Waits (trace : List Entry) (k j i : ℕ) : Type 0 where
  pub carried : i < length trace
  pub down : (entry_at trace i).event ≡ downs k
  pub number : length ((book_at trace i).permits.downs k) ≡ j
  pub without : permitted (book_at trace (suc i)) k ≤ j

-- its thread passes the semaphore in instruction l: after it, and not before, the down has a permit
pub record Passes (trace : List Entry) (k j l : ℕ) : Type 0 where
  pub carried : l < length trace
  pub before : permitted (book_at trace l) k ≤ j
  pub after : j < permitted (book_at trace (suc l)) k

-- threads pass a semaphore in the order in which they began down on it, once they have to wait
pub record PassingInOrder (trace : List Entry) : Type 0 where
  -- the name at a down's number is, from then on, the thread that began it: so `in_order` above says who waits
  pub named : (k j i l : ℕ) → Waits trace k j i → i < l → get_or ((book_at trace l).permits.downs k) j 0
      ≡ (entry_at trace i).thread
  -- each passes by an up on that semaphore after its down, ..
  pub by_up : (k j i l : ℕ) → Waits trace k j i → Passes trace k j l → (i < l) × ((entry_at trace l).event ≡ ups k)
  -- .. which lets no other pass, ..
  pub one_by_one : (k j i h g l : ℕ) → Waits trace k j i → Waits trace k h g → Passes trace k j l →
      Passes trace k h l → j ≡ h
  -- .. and those who began sooner pass sooner: where one has passed, all have who began to wait before it
  pub ordered : (k j i h g l : ℕ) → Waits trace k j i → Waits trace k h g → i < g → Passes trace k h l →
      (e : ℕ) × (e < l) × Passes trace k j e

-- what holds of a list of calls
pub record Semaphored (size : ℕ) (card : List ℕ) (calls : List Call) (box : Box) : Type 0 where
  pub levels : Levels size (state_of size (played size calls box).box) (book_of blank (played size calls box).trace)
  pub passing : PassingInOrder (played size calls box).trace

-- for a box of any size, as demand 3
abbrev pub SemaphoresFor : ℕ → Type 0
SemaphoresFor size = AfterCalls size (Semaphored size)

-- and for the paper's box
abbrev pub Semaphores4 : Type 0
Semaphores4 = InPaperBox (Semaphored full)
