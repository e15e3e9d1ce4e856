-- Demand 3: one claim about any list of calls. Its parts are in Fair.antt (a state and its book) and Order.antt (what
-- was carried out, and in what order); over which lists it is said, in Played.antt. The proof is in
-- proofs/Demand.antt.
use Rattle.std.specs.Prelude.{ℕ, ◌≤◌, List, length}
use Rattle.machine.specs.Book.{blank, book_of}
use Rattle.machine.specs.Calls.{Box, state_of}
use Rattle.machine.specs.Fair.{Fair}
use Rattle.machine.specs.Lists.{Each}
use Rattle.machine.specs.Order.{Cut, Exclusive, Ordered, Owners}
use Rattle.machine.specs.Played.{AfterCalls, Call, InPaperBox, NotDamaged, played}
use Rattle.machine.specs.Size.{full}

pub record Claim (size : ℕ) (card : List ℕ) (calls : List Call) (box : Box) : Type 0 where
  -- "each living thread is in exactly one place, and each mutex is held and awaited in the order in which lock was
  -- executed on it": of the state that the calls leave; "an owner is a live thread" (change request Two)
  pub fair : Fair size (state_of size (played size calls box).box) (book_of blank (played size calls box).trace)
  -- the first name left is the owner's
  pub owners : Owners size (state_of size (played size calls box).box).tables
      (book_of blank (played size calls box).trace)
  -- threads get a mutex in the order in which they executed lock on it
  pub in_order : Ordered size (played size calls box).trace
  -- "until the one who has it executes unlock or wait on it, no other thread's lock on it completes"; nobody else
  -- executes these on it
  pub exclusive : Exclusive (played size calls box).trace
  -- the state after any number of instructions is one that a list of calls leaves: so `fair` and `owners` speak of it
  -- too
  pub cut : (j : ℕ) → j ≤ length (played size calls box).trace → Cut size card calls box j
  -- "no call finds the tables damaged": none gets 7
  pub sound : Each NotDamaged (played size calls box).answers

-- in a box of any size
abbrev pub DemandFor : ℕ → Type 0
DemandFor size = AfterCalls size (Claim size)

-- and in the paper's
abbrev pub Demand3 : Type 0
Demand3 = InPaperBox (Claim full)
