-- Threads get a mutex in the order in which they executed lock on it, and only the one who has it releases it: the laws of specs/Order.antt.
-- Assumes nothing.
use Prim.Native.Nat.{ℕ, zero, suc, ◌<◌, ◌≤◌}
use mathlib.Core.Path.{◌≡◌, refl, sym, ap, ◌∙◌}
use mathlib.Core.List.{List, [], ◌∷◌, ◌++◌}
use mathlib.Core.Logic.{◌≢◌}
use native.Mathlib.Omega.{arith}
use lib.ListN.{length, drop, get_or, length-drop, take}
use lib.Seq.{drop-cons, take_all, take-length}
use Rattle.card.specs.Image.{read_of}
use Rattle.card.specs.Result as result
use Rattle.machine.specs.Book.{Book, Entry, blank, book_of, fed, names_left}
use Rattle.machine.specs.Calls.{Box, set_up, state_of}
use Rattle.machine.specs.Fair.{Fair, holder_of}
use Rattle.machine.specs.Lists.{Each}
use Rattle.machine.specs.Played.{Call, Fitting, played}
use Rattle.machine.specs.Order.{Exclusive, FirstLeft, Ordered, Owners, Rightful, book_at, entry_at}
use Rattle.machine.specs.Size.{mutex_limit, shared, store_size, tables_size, values_size}
use Rattle.machine.specs.Tables.{Tables, at_mutex, owner_of, queue}
use Rattle.machine.proofs.Booked.{free, held}
use Rattle.machine.proofs.Cuts.{cut}
use Rattle.machine.proofs.Lists.{less_or_not, same_or_not}
use Rattle.machine.proofs.Played.{led_for}
use Rattle.machine.proofs.Releases.{Lawful}
use Rattle.machine.proofs.Traces.{executed, named, no_sooner, nobody_skipped, none_completes, numbered, once, ordered, still_has}

-- the first left is the owner's
module _ (size : ℕ) (box : Box) (book : Book) (fair : Fair size (state_of size box) book) where
  first_owns : (m k : ℕ) → m < mutex_limit size → FirstLeft book m k →
      holder_of size (state_of size box).tables m ≡ get_or (book.names m) k 0 ∷ []
  first_owns m k below f =
      let tables : Tables = (state_of size box).tables in
      let order : get_or (book.names m) k 0 ∷ drop (suc k) (book.names m) ≡ holder_of size tables m ++ queue tables (at_mutex m) =
      sym (drop-cons (book.names m) k 0 f.1) ∙ (rw f.0 at (fair.in_order m below)) in
      same_or_not (owner_of tables m) size
      (λ e.
      let none : get_or (book.names m) k 0 ∷ drop (suc k) (book.names m) ≡ [] =
      rw (free size tables m e, fair.unawaited m below e) at order in
      absurd (omega (arith, ap length none)))
      (λ e.
      let here = held size tables m (owner_of tables m) refl e in
      let line : get_or (book.names m) k 0 ∷ drop (suc k) (book.names m) ≡ owner_of tables m ∷ queue tables (at_mutex m) =
      order ∙ ap (λ (l : List ℕ). l ++ queue tables (at_mutex m)) here in
      here ∙ ap (λ (t : ℕ). t ∷ []) (cc line))

  owner_first : (m : ℕ) → m < mutex_limit size → owner_of (state_of size box).tables m ≢ size →
      FirstLeft book m (book.releases m)
  owner_first m below e =
      let tables : Tables = (state_of size box).tables in
      let line : names_left book m ≡ owner_of tables m ∷ queue tables (at_mutex m) =
      fair.in_order m below ∙ ap (λ (l : List ℕ). l ++ queue tables (at_mutex m)) (held size tables m (owner_of tables m) refl e) in
      (refl, omega (arith, ap length line, length-drop (book.releases m) (book.names m)))

  pub owners : Owners size (state_of size box).tables book
  owners = record { first_owns = first_owns; owner_first = owner_first }

-- a law of every point of a trace that holds up to its end
pub to_the_end : (trace : List Entry) (P : Book → Type 0) → ((j : ℕ) → j ≤ length trace → P (book_at trace j)) →
    (j : ℕ) → P (book_at trace j)
to_the_end trace P h j =
    less_or_not j (length trace)
    (λ k. h j (omega arith))
    (λ k. rw (take_all j trace k, ← take-length trace) (h (length trace) (omega arith)))

-- each release of a trace is rightful, by the book at its point
lawful_at : (trace : List Entry) (book : Book) → Lawful book trace → (j : ℕ) → j < length trace →
    Rightful (book_of book (take j trace)) (entry_at trace j)
unfolding Lawful book_of
lawful_at [] book l j h = absurd (omega arith)
lawful_at (e ∷ rest) book l zero h = l.0
lawful_at (e ∷ rest) book l (suc j) h = lawful_at rest (fed book e) l.1 j (omega arith)

module _ (size : ℕ) (some : 1 ≤ size) (card : List ℕ) (cells : ℕ) (lent : Box) (calls : List Call)
    (e : read_of card ≡ result.gives cells)
    (fits : cells ≤ shared size) (store : length lent.store ≡ store_size size) (tables : length lent.tables ≡ tables_size size)
    (values : length lent.values ≡ values_size size) (all : Each (Fitting card) calls) where
  trace : List Entry
  trace = (played size calls (set_up size card lent).box).trace

  -- the count is never over the list's length, after any number of instructions
  counted : (m : ℕ) → m < mutex_limit size → (j : ℕ) → (book_at trace j).releases m ≤ length ((book_at trace j).names m)
  unfolding trace
  counted m below =
      to_the_end trace (λ b. b.releases m ≤ length (b.names m))
      (λ j h.
      let c = cut size card calls all (set_up size card lent).box j h in
      let led = led_for size some card cells lent c.first e fits store tables values c.first_fits in
      rw c.first_trace at (led.box.right.steady.both.booked.counted m below))

  pub in_order : Ordered size (played size calls (set_up size card lent).box).trace
  unfolding trace
  in_order =
      record {
        executed = executed trace;
        numbered = numbered trace;
        named = named trace;
        once = once trace;
        no_sooner = no_sooner trace;
        ordered = ordered trace;
        nobody_skipped = λ m k j below. nobody_skipped trace m (counted m below) k j;
      }

  pub exclusive : Exclusive (played size calls (set_up size card lent).box).trace
  unfolding trace
  exclusive =
      let led = led_for size some card cells lent calls e fits store tables values all in
      let by_holder : (j : ℕ) → j < length trace → Rightful (book_at trace j) (entry_at trace j) = lawful_at trace blank led.lawful in
      record { by_holder = by_holder; still_has = still_has trace by_holder; none_completes = none_completes trace by_holder }
