-- Who gets a mutex, and when: what demand 3 says of the instructions carried out since setting up. Lock number k on a
-- mutex (from 0) is the one whose name is number k of the mutex's list. The proofs are in proofs/Traces.antt (of the
-- book), proofs/Releases.antt, proofs/Cuts.antt and proofs/Order.antt.
use Rattle.std.specs.Prelude.{ℕ, suc, ◌≤◌, ◌<◌, List, [], ◌∷◌, ◌≢◌, ◌≡◌, length, drop, get_or, take}
use Rattle.machine.specs.Book.{Book, Entry, blank, book_of, locks, names_left, other, unlocks}
use Rattle.machine.specs.Calls.{Box}
use Rattle.machine.specs.Fair.{holder_of}
use Rattle.machine.specs.Lists.{Each}
use Rattle.machine.specs.Played.{Call, Fitting, played}
use Rattle.machine.specs.Size.{mutex_limit}
use Rattle.machine.specs.Tables.{Tables, owner_of}

-- the book after the first j instructions
abbrev pub book_at : List Entry → ℕ → Book
book_at trace j = book_of blank (take j trace)

-- instruction number j, from 0
abbrev pub entry_at : List Entry → ℕ → Entry
entry_at trace j = get_or trace j (record { thread = 0; event = other })

-- instruction number i executes lock number k on a mutex
pub record Executes (trace : List Entry) (m k i : ℕ) : Type 0 where
  pub carried : i < length trace
  pub lock : (entry_at trace i).event ≡ locks m
  pub number : length ((book_at trace i).names m) ≡ k

-- ".. that lock's name is the first left": the count is k, and the list is longer than k
abbrev pub FirstLeft : Book → ℕ → ℕ → Type 0
FirstLeft book m k = (book.releases m ≡ k) × (k < length (book.names m))

-- "A thread gets a mutex, and its lock completes, in the step after which that lock's name is the first left": lock
-- number k, in instruction j
pub record Completes (trace : List Entry) (m k j : ℕ) : Type 0 where
  pub carried : j < length trace
  pub after : FirstLeft (book_at trace (suc j)) m k
  pub before : ¬ FirstLeft (book_at trace j) m k

-- threads get a mutex in the order in which they executed lock on it
pub record Ordered (size : ℕ) (trace : List Entry) : Type 0 where
  -- every name of a mutex's list is that of a lock that was executed; locks are numbered in the order in which they
  -- were, ..
  pub executed : (m k j : ℕ) → k < length ((book_at trace j).names m) → (i : ℕ) × (i < j) × Executes trace m k i
  pub numbered : (m k l i j : ℕ) → Executes trace m k i → Executes trace m l j → i < j → k < l
  -- .. and a lock's name is, from then on, the thread that executed it
  pub named : (m k i j : ℕ) → Executes trace m k i → i < j → get_or ((book_at trace j).names m) k 0 ≡ (entry_at trace i).thread
  -- a lock completes once, and in no step before its own
  pub once : (m k i j : ℕ) → Completes trace m k i → Completes trace m k j → i ≡ j
  pub no_sooner : (m k i j : ℕ) → Executes trace m k i → Completes trace m k j → i ≤ j
  -- completions come in the order of k
  pub ordered : (m k l i j : ℕ) → Completes trace m k i → Completes trace m l j → k < l → i < j
  -- and nobody is passed over: every lock that was released had completed
  pub nobody_skipped :
      (m k j : ℕ) → m < mutex_limit size → k < (book_at trace j).releases m → (i : ℕ) × (i < j) × Completes trace m k i

-- a thread has a mutex: the first name left is its own
abbrev pub Has : Book → ℕ → ℕ → Type 0
Has book m t = (rest : List ℕ) × (names_left book m ≡ t ∷ rest)

-- an unlock or wait is by the thread that has the mutex
abbrev pub Rightful : Book → Entry → Type 0
Rightful book entry = (m : ℕ) → entry.event ≡ unlocks m → Has book m entry.thread

-- from after a instructions until after b of them, a thread executes no unlock and no wait on a mutex
abbrev pub Unreleased : List Entry → ℕ → ℕ → ℕ → ℕ → Type 0
Unreleased trace m t a b = (i : ℕ) → a ≤ i → i < b → entry_at trace i ≢ record { thread = t; event = unlocks m }

-- "until the one who has it executes unlock or wait on it, no other thread's lock on it completes"
pub record Exclusive (trace : List Entry) : Type 0 where
  -- nobody but the one who has a mutex executes unlock or wait on it; ..
  pub by_holder : (j : ℕ) → j < length trace → Rightful (book_at trace j) (entry_at trace j)
  -- .. until it does so, it has the mutex, ..
  pub still_has : (m t a b : ℕ) → Has (book_at trace a) m t → Unreleased trace m t a b → (j : ℕ) → a ≤ j → j ≤ b →
      Has (book_at trace j) m t
  -- .. and no lock on it completes
  pub none_completes : (m t a b : ℕ) → Has (book_at trace a) m t → Unreleased trace m t a b → (k j : ℕ) → a ≤ j →
      j < b → ¬ Completes trace m k j

-- the lock that is first left is the owner's, and an owned mutex has one
pub record Owners (size : ℕ) (tables : Tables) (book : Book) : Type 0 where
  pub first_owns : (m k : ℕ) → m < mutex_limit size → FirstLeft book m k → holder_of size tables m
      ≡ get_or (book.names m) k 0 ∷ []
  pub owner_first : (m : ℕ) → m < mutex_limit size → owner_of tables m ≢ size → FirstLeft book m (book.releases m)

-- a list of calls, cut after j of the instructions that it carries out: the calls up to there, and those from there on
pub record Cut (size : ℕ) (card : List ℕ) (calls : List Call) (box : Box) (j : ℕ) : Type 0 where
  pub first : List Call
  pub second : List Call
  pub first_fits : Each (Fitting card) first
  pub second_fits : Each (Fitting card) second
  pub first_trace : (played size first box).trace ≡ take j (played size calls box).trace
  pub second_trace : (played size second (played size first box).box).trace ≡ drop j (played size calls box).trace
  pub same_end : (played size second (played size first box).box).box ≡ (played size calls box).box
