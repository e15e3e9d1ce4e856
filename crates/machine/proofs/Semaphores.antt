-- Semaphores: their counts, who waits and who passes, as one claim about any list of calls. Assumes nothing.
use Prim.Native.Nat.{ℕ, ◌<◌, ◌≤◌}
use mathlib.Core.Path.{◌≡◌, ap, ◌∙◌}
use mathlib.Core.List.{List}
use native.Mathlib.Omega.{arith}
use lib.Dec.{lit≤}
use lib.ListN.{length}
use borrow.Author.Tests.{le-ltb, lt-ltb}
use Rattle.card.proofs.Header.{accepts}
use Rattle.card.specs.Image.{read_of}
use Rattle.card.specs.Result as result
use Rattle.machine.specs.Book.{Book, Entry}
use Rattle.machine.specs.Calls.{Box, set_up}
use Rattle.machine.specs.Lists.{Each}
use Rattle.machine.specs.Played.{Call, Fitting, played}
use Rattle.machine.specs.Order.{book_at}
use Rattle.machine.specs.Semaphores.{Levels, Semaphored, Semaphores4, SemaphoresFor}
use Rattle.machine.specs.Size.{full, semaphore_limit, shared, store_size, tables_size, values_size}
use Rattle.machine.specs.State.{State}
use Rattle.machine.proofs.Cuts.{cut}
use Rattle.machine.proofs.Played.{led_for}
use Rattle.machine.proofs.Held.{level}
use Rattle.machine.proofs.Lists.{less_or_not}
use Rattle.machine.proofs.Order.{to_the_end}
use Rattle.machine.proofs.Permitted.{Opened, passing_in_order}
use Rattle.machine.proofs.Steady.{Right}

-- a right machine's counts and queues are as its book says
levels : (size : ℕ) (s : State) (book : Book) → Right size s book → Levels size s book
levels size s book r =
    record {
      made_once = r.steady.counted.made_once;
      counted = r.steady.counted.count;
      waiting = level size s book r;
      in_order =
          λ k made.
          let limit : k < semaphore_limit size = omega (arith, r.steady.both.kempt.tidy.counts.semaphores_fit) in
          r.steady.both.passing.left k limit;
      unused = r.steady.counted.unused;
    }

-- so no number was made twice, and one on which down was begun was made
opened : (size : ℕ) (s : State) (book : Book) → Levels size s book → Opened book
opened size s book l =
    record {
      at_most_once =
          λ k.
          less_or_not k s.regs.semaphores
          (λ h. rw (l.made_once k, lt-ltb k s.regs.semaphores h) (omega arith))
          (λ h. rw (l.made_once k, le-ltb k s.regs.semaphores h) (omega arith));
      begun_made =
          λ k some.
          less_or_not k s.regs.semaphores
          (λ h. l.made_once k ∙ rw (lt-ltb k s.regs.semaphores h))
          (λ h. absurd (omega (arith, ap length (l.unused k h))));
    }

module _ (size : ℕ) (some : 1 ≤ size) (card : List ℕ) (cells : ℕ) (lent : Box) (calls : List Call)
    (e : read_of card ≡ result.gives cells)
    (fits : cells ≤ shared size) (store : length lent.store ≡ store_size size) (tables : length lent.tables ≡ tables_size size)
    (values : length lent.values ≡ values_size size) (all : Each (Fitting card) calls) where
  trace : List Entry
  trace = (played size calls (set_up size card lent).box).trace

  -- after any number of instructions
  opened_at : (j : ℕ) → Opened (book_at trace j)
  unfolding trace
  opened_at =
      to_the_end trace Opened
      (λ j h.
      let c = cut size card calls all (set_up size card lent).box j h in
      let led = led_for size some card cells lent c.first e fits store tables values c.first_fits in
      rw c.first_trace at (opened size _ _ (levels size _ _ led.box.right)))

  semaphored : Semaphored size card calls (set_up size card lent).box
  unfolding trace
  semaphored =
      record {
        levels = levels size _ _ (led_for size some card cells lent calls e fits store tables values all).box.right;
        passing = passing_in_order trace opened_at;
      }

pub semaphores_for : (size : ℕ) → 1 ≤ size → SemaphoresFor size
semaphores_for size some card cells lent calls e fits store tables values all = semaphored size some card cells lent calls e fits store tables values all

-- the paper's box
pub semaphores4 : Semaphores4
semaphores4 card cells lent calls e store tables values all =
    let a = accepts card cells e in
    let most : cells ≤ 4096 = rw a.globals at a.sized.cells.most in
    semaphores_for full (lit≤ tt) card cells lent calls e most store tables values all
