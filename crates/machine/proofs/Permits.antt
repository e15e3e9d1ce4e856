-- The book agrees with the semaphores: those who wait began down without a permit, and the counts are what was permitted less the downs begun. Laws of
-- each change. Assumes nothing.
use Prim.Native.Nat.{ℕ, zero, suc, ◌+◌, ◌-◌, ◌<◌, ◌≤◌}
use mathlib.Core.Path.{◌≡◌, refl, sym, ap, ◌∙◌}
use mathlib.Core.Bool.{cond}
use mathlib.Core.List.{List, [], ◌∷◌, ◌++◌}
use mathlib.Core.Logic.{◌≢◌}
use native.Mathlib.Omega.{arith}
use lib.Dec.{leb, ltb}
use lib.IntN.{ℤ, pos, negsuc, neg_ℤ, sub_ℕ, ◌+ℤ◌, ◌-ℤ◌, +ℤ_one, -ℤ_one, +ℤ-pred_ℤ, neg_ℤ-suc_ℤ, suc_ℤ-+ℤ}
use lib.ListN.{length, drop, set, length-append, length-drop, drop_of_length-le}
use lib.Seq.{drop-append-le, drop-drop, drop-nil, get_or-set_other, get_or-set_same}
use lib.Signed.{le_z, lt_z}
use borrow.Author.Tests.{eq-eqb, ne_eqb, le-leb, le-ltb, lt-leb, lt-ltb}
use Rattle.machine.specs.Book.{Book, Permits, creates, downed, downs, ends, fed, locks, opened, opens, unlocks, upped, ups, with_permits}
use Rattle.machine.specs.Lists.{count}
use Rattle.machine.specs.Size.{semaphore_limit, values_size}
use Rattle.machine.specs.State.{semaphore_count}
use Rattle.machine.specs.Tables.{Tables, at_semaphore, place_of, queue, ready, sent}
use Rattle.machine.specs.WellFormed.{shortfall}
use Rattle.machine.proofs.Booked.{entry}
use Rattle.machine.proofs.Lists.{less_or_not, same_or_not}
use Rattle.machine.proofs.Queues.{queue_joined, queue_kept, queue_left}

-- ---- the difference of two numbers

minus : (a c : ℕ) → pos a -ℤ pos c ≡ sub_ℕ a c
minus a zero = rw (le-ltb a 0 (omega arith)) (ap pos (omega arith))
minus a (suc c) = refl

-- "the larger of 0 and minus the count"
pub short : (a c : ℕ) → shortfall (pos a -ℤ pos c) ≡ c - a
short a c =
    rw (minus a c)
    (less_or_not a c (λ h. rw (lt-ltb a c h) (omega arith)) (λ h. rw (le-ltb a c h) (omega arith)))

pub negative : (a c : ℕ) → lt_z (pos a -ℤ pos c) (pos 0) ≡ ltb a c
negative a c = rw (minus a c) (less_or_not a c (λ h. rw (lt-ltb a c h)) (λ h. rw (le-ltb a c h) (le-ltb (a - c) 0 (omega arith))))

pub not_positive : (a c : ℕ) → le_z (pos a -ℤ pos c) (pos 0) ≡ leb a c
not_positive a c =
    rw (minus a c)
    (less_or_not a c
    (λ h. rw (lt-ltb a c h, le-leb a c (omega arith)))
    (λ h.
    rw (le-ltb a c h)
    (less_or_not c a
    (λ k. rw (lt-leb (a - c) 0 (omega arith), lt-leb a c k))
    (λ k. rw (le-leb (a - c) 0 (omega arith), le-leb a c k)))))

one_more : (a c : ℕ) → pos a -ℤ pos c +ℤ pos 1 ≡ pos (a + 1) -ℤ pos c
one_more a c = let one : a + 1 ≡ suc a = omega arith in rw one (+ℤ_one (pos a -ℤ pos c) ∙ sym (suc_ℤ-+ℤ (pos a) (neg_ℤ (pos c))))

one_less : (a c : ℕ) → pos a -ℤ pos c -ℤ pos 1 ≡ pos a -ℤ pos (c + 1)
one_less a c =
    let one : c + 1 ≡ suc c = omega arith in
    rw one (-ℤ_one (pos a -ℤ pos c) ∙ sym (+ℤ-pred_ℤ (pos a) (neg_ℤ (pos c))) ∙ ap (λ (z : ℤ). pos a +ℤ z) (sym (neg_ℤ-suc_ℤ (pos c))))

-- ---- what the book is told

module _ (book : Book) (t : ℕ) where
  pub fed_locks : (m : ℕ) → (fed book (entry t (locks m))).permits ≡ book.permits
  unfolding fed
  fed_locks m = refl

  pub fed_unlocks : (m : ℕ) → (fed book (entry t (unlocks m))).permits ≡ book.permits
  unfolding fed
  fed_unlocks m = refl

  pub fed_creates : (v : ℤ) → (fed book (entry t (creates v))).permits ≡ book.permits
  unfolding fed
  fed_creates v = refl

  pub fed_ends : (v : ℤ) → (fed book (entry t (ends v))).permits ≡ book.permits
  unfolding fed
  fed_ends v = refl

  pub fed_opens : (n k : ℕ) → fed book (entry t (opens n (pos k))) ≡ with_permits book (opened book.permits n (pos k))
  unfolding fed
  fed_opens n k = refl

  pub fed_ups : (k : ℕ) → fed book (entry t (ups k)) ≡ with_permits book (upped book.permits k)
  unfolding fed
  fed_ups k = refl

  pub fed_downs : (k : ℕ) → fed book (entry t (downs k)) ≡ with_permits book (downed book.permits t k)
  unfolding fed
  fed_downs k = refl

-- ---- who waits

-- those who wait for a semaphore are those who began down without a permit
pub record Passing (size : ℕ) (tables : Tables) (permits : Permits) : Type 0 where
  pub left : (k : ℕ) → k < semaphore_limit size →
      queue tables (at_semaphore size k) ≡ drop (permits.starting k + permits.ups k) (permits.downs k)

all_dropped : (a : ℕ) (l : List ℕ) → length l ≤ a → drop a l ≡ []
all_dropped a l h = drop_of_length-le l {i = a} h

-- a list of which nothing is left has nothing left if more is dropped
none_left : (a b : ℕ) (l : List ℕ) → drop a l ≡ [] → a ≤ b → drop b l ≡ []
none_left a b l e h = all_dropped b l (omega (arith, length-drop a l, ap length e))

module _ {size : ℕ} {tables : Tables} {permits : Permits} (p : Passing size tables permits) where
  -- tables with the same queues
  pub passing_same : (next : Tables) → ((q : ℕ) → queue next q ≡ queue tables q) → Passing size next permits
  passing_same next same = record { left = λ k h. same (at_semaphore size k) ∙ p.left k h }

  -- a thread goes from a place that is no semaphore's to another
  pub passing_sent : (t q : ℕ) → t < length tables.places →
      ((k : ℕ) → k < semaphore_limit size → q ≢ at_semaphore size k) →
      ((k : ℕ) → k < semaphore_limit size → place_of tables t ≢ at_semaphore size k) → Passing size (sent tables t q) permits
  passing_sent t q below to from =
      record { left = λ k h. queue_kept tables t q (at_semaphore size k) below (λ e. to k h (sym e)) (from k h) ∙ p.left k h }

  -- with a permit for every down nobody waits
  pub nobody_left : (k : ℕ) → k < semaphore_limit size →
      length (permits.downs k) ≤ permits.starting k + permits.ups k → queue tables (at_semaphore size k) ≡ []
  nobody_left k h enough = p.left k h ∙ all_dropped (permits.starting k + permits.ups k) (permits.downs k) enough

  -- a semaphore is made, for which nobody waits
  pub passing_opened : (k n : ℕ) → k < semaphore_limit size → queue tables (at_semaphore size k) ≡ [] →
      Passing size tables (opened permits n (pos k))
  passing_opened k n h none =
      record {
        left =
            λ j hj.
            same_or_not j k
            (λ e.
            rw (e, eq-eqb k k refl)
            (none ∙ sym (none_left (permits.starting k + permits.ups k) (permits.starting k + n + permits.ups k) (permits.downs k) (sym (p.left k h) ∙ none) (omega arith))))
            (λ e. rw (ne_eqb j k e) (p.left j hj));
      }

  -- up, where nobody waits
  pub passing_up : (k : ℕ) → k < semaphore_limit size → queue tables (at_semaphore size k) ≡ [] →
      Passing size tables (upped permits k)
  passing_up k h none =
      record {
        left =
            λ j hj.
            same_or_not j k
            (λ e.
            rw (e, eq-eqb k k refl)
            (none ∙ sym (none_left (permits.starting k + permits.ups k) (permits.starting k + (permits.ups k + 1)) (permits.downs k) (sym (p.left k h) ∙ none) (omega arith))))
            (λ e. rw (ne_eqb j k e) (p.left j hj));
      }

  -- up, where the first waiter becomes ready
  pub passing_woken : (k w : ℕ) (rest : List ℕ) → k < semaphore_limit size →
      queue tables (at_semaphore size k) ≡ w ∷ rest → place_of tables w ≡ at_semaphore size k →
      w < length tables.places → count w tables.line ≡ 1 → Passing size (sent tables w ready) (upped permits k)
  passing_woken k w rest h waits at below once =
      record {
        left =
            λ j hj.
            same_or_not j k
            (λ e.
            let more : permits.starting k + (permits.ups k + 1) ≡ permits.starting k + permits.ups k + 1 = omega arith in
            rw (e, eq-eqb k k refl, more, ← (drop-drop 1 (permits.starting k + permits.ups k) (permits.downs k)))
            (queue_left tables w ready (at_semaphore size k) rest below once (λ i. omega (arith, i)) waits
            ∙ ap (drop 1) (sym waits ∙ p.left k h)))
            (λ e.
            rw (ne_eqb j k e)
            (queue_kept tables w ready (at_semaphore size j) below (λ i. omega (arith, i)) (λ i. e (omega (arith, at, i))) ∙ p.left j hj));
      }

  -- down, where there is a permit
  pub passing_down : (k t : ℕ) → k < semaphore_limit size →
      length (permits.downs k) < permits.starting k + permits.ups k →
      Passing size tables (downed permits t k)
  passing_down k t h room =
      record {
        left =
            λ j hj.
            same_or_not j k
            (λ e.
            rw (e, eq-eqb k k refl)
            (p.left k h
            ∙ all_dropped (permits.starting k + permits.ups k) (permits.downs k) (omega arith)
            ∙ sym (all_dropped (permits.starting k + permits.ups k) (permits.downs k ++ t ∷ []) (omega (arith, length-append (permits.downs k) (t ∷ []))))))
            (λ e. rw (ne_eqb j k e) (p.left j hj));
      }

  -- down, where there is none: the thread waits
  pub passing_waits : (k t : ℕ) → k < semaphore_limit size →
      permits.starting k + permits.ups k ≤ length (permits.downs k) → t < length tables.places →
      count t tables.line ≡ 1 → ((j : ℕ) → j < semaphore_limit size → place_of tables t ≢ at_semaphore size j) →
      Passing size (sent tables t (at_semaphore size k)) (downed permits t k)
  passing_waits k t h full below once from =
      record {
        left =
            λ j hj.
            same_or_not j k
            (λ e.
            rw (e, eq-eqb k k refl, drop-append-le (permits.starting k + permits.ups k) (permits.downs k) (t ∷ []) full, ← (p.left k h))
            (queue_joined tables t (at_semaphore size k) below once (from k h)))
            (λ e.
            rw (ne_eqb j k e)
            (queue_kept tables t (at_semaphore size k) (at_semaphore size j) below (λ i. e (omega (arith, i))) (from j hj) ∙ p.left j hj));
      }

-- ---- the counts

-- each semaphore made has what was permitted less the downs begun, and nothing was done on one not made
pub record Counted (size : ℕ) (values : List ℤ) (semaphores : ℕ) (permits : Permits) : Type 0 where
  pub made_once : (k : ℕ) → permits.made k ≡ cond (ltb k semaphores) 1 0
  pub count : (k : ℕ) → k < semaphores →
      semaphore_count size values k ≡ pos (permits.starting k + permits.ups k) -ℤ pos (length (permits.downs k))
  pub unstarted : (k : ℕ) → semaphores ≤ k → permits.starting k ≡ 0
  pub not_upped : (k : ℕ) → semaphores ≤ k → permits.ups k ≡ 0
  pub unused : (k : ℕ) → semaphores ≤ k → permits.downs k ≡ []

module _ {size : ℕ} {values : List ℤ} {semaphores : ℕ} {permits : Permits}
    (c : Counted size values semaphores permits) where
  -- a thread's result is kept
  pub counted_result : (t : ℕ) (v : ℤ) → t < size → Counted size (set values t v) semaphores permits
  counted_result t v below =
      record {
        made_once = c.made_once;
        count = λ k h. get_or-set_other values t (size + k) v (pos 0) (λ e. omega (arith, e)) ∙ c.count k h;
        unstarted = c.unstarted;
        not_upped = c.not_upped;
        unused = c.unused;
      }

  -- another count of one semaphore
  elsewhere : (k j : ℕ) (v : ℤ) → j ≢ k → semaphore_count size (set values (size + k) v) j ≡ semaphore_count size values j
  elsewhere k j v far = get_or-set_other values (size + k) (size + j) v (pos 0) (λ e. far (omega (arith, e)))

  here : (k : ℕ) (v : ℤ) → k < semaphore_limit size → length values ≡ values_size size →
      semaphore_count size (set values (size + k) v) k ≡ v
  here k v limit valued = get_or-set_same values (size + k) v (pos 0) (omega (arith, valued))

  -- a semaphore is made
  pub counted_opened : (n : ℕ) → semaphores < semaphore_limit size → length values ≡ values_size size →
      Counted size (set values (size + semaphores) (pos n)) (semaphores + 1) (opened permits n (pos semaphores))
  counted_opened n limit valued =
      record {
        made_once =
            λ j.
            same_or_not j semaphores
            (λ e. rw (e, eq-eqb semaphores semaphores refl, c.made_once semaphores, le-ltb semaphores semaphores (omega arith), lt-ltb semaphores (semaphores + 1) (omega arith)))
            (λ e.
            rw (ne_eqb j semaphores e, c.made_once j)
            (less_or_not j semaphores
            (λ h. rw (lt-ltb j semaphores h, lt-ltb j (semaphores + 1) (omega arith)))
            (λ h. rw (le-ltb j semaphores h, le-ltb j (semaphores + 1) (omega (arith, e))))));
        count =
            λ j h.
            same_or_not j semaphores
            (λ e.
            rw (e, here semaphores (pos n) limit valued, eq-eqb semaphores semaphores refl, c.unstarted semaphores (omega arith), c.not_upped semaphores (omega arith), c.unused semaphores (omega arith))
            (ap pos (omega arith)))
            (λ e. rw (elsewhere semaphores j (pos n) e, ne_eqb j semaphores e) (c.count j (omega (arith, e))));
        unstarted = λ j h. rw (ne_eqb j semaphores (λ e. omega (arith, e))) (c.unstarted j (omega arith));
        not_upped = λ j h. c.not_upped j (omega arith);
        unused = λ j h. c.unused j (omega arith);
      }

  -- up
  pub counted_upped : (k : ℕ) → k < semaphores → k < semaphore_limit size → length values ≡ values_size size →
      Counted size (set values (size + k) (semaphore_count size values k +ℤ pos 1)) semaphores (upped permits k)
  counted_upped k made limit valued =
      record {
        made_once = c.made_once;
        count =
            λ j h.
            same_or_not j k
            (λ e.
            let more : permits.starting k + (permits.ups k + 1) ≡ permits.starting k + permits.ups k + 1 = omega arith in
            rw (e, here k (semaphore_count size values k +ℤ pos 1) limit valued, eq-eqb k k refl, more, c.count k made)
            (one_more (permits.starting k + permits.ups k) (length (permits.downs k))))
            (λ e. rw (elsewhere k j (semaphore_count size values k +ℤ pos 1) e, ne_eqb j k e) (c.count j h));
        unstarted = c.unstarted;
        not_upped = λ j h. rw (ne_eqb j k (λ e. omega (arith, e))) (c.not_upped j h);
        unused = c.unused;
      }

  -- down
  pub counted_downed : (k t : ℕ) → k < semaphores → k < semaphore_limit size → length values ≡ values_size size →
      Counted size (set values (size + k) (semaphore_count size values k -ℤ pos 1)) semaphores (downed permits t k)
  counted_downed k t made limit valued =
      record {
        made_once = c.made_once;
        count =
            λ j h.
            same_or_not j k
            (λ e.
            rw (e, here k (semaphore_count size values k -ℤ pos 1) limit valued, eq-eqb k k refl, length-append (permits.downs k) (t ∷ []), c.count k made)
            (one_less (permits.starting k + permits.ups k) (length (permits.downs k))))
            (λ e. rw (elsewhere k j (semaphore_count size values k -ℤ pos 1) e, ne_eqb j k e) (c.count j h));
        unstarted = c.unstarted;
        not_upped = c.not_upped;
        unused = λ j h. rw (ne_eqb j k (λ e. omega (arith, e))) (c.unused j h);
      }

  -- the tests of up and down
  pub up_sign : (k : ℕ) → k < semaphores →
      le_z (semaphore_count size values k +ℤ pos 1) (pos 0) ≡ leb (permits.starting k + permits.ups k + 1) (length (permits.downs k))
  up_sign k made = rw (c.count k made, one_more (permits.starting k + permits.ups k) (length (permits.downs k)))
      (not_positive (permits.starting k + permits.ups k + 1) (length (permits.downs k)))

  pub down_sign : (k : ℕ) → k < semaphores →
      lt_z (semaphore_count size values k -ℤ pos 1) (pos 0) ≡ ltb (permits.starting k + permits.ups k) (length (permits.downs k) + 1)
  down_sign k made = rw (c.count k made, one_less (permits.starting k + permits.ups k) (length (permits.downs k)))
      (negative (permits.starting k + permits.ups k) (length (permits.downs k) + 1))

-- ---- permits for any box

-- what is there beyond the downs begun
abbrev pub surplus : ℤ → ℕ
surplus (pos a) = a
surplus (negsuc a) = 0

balance : (v : ℤ) → v ≡ pos (surplus v + 0) -ℤ pos (shortfall v)
balance (pos a) = ap pos (omega arith)
balance (negsuc a) = rw (lt-ltb (0 + 0) (suc a) (omega arith)) (ap negsuc (omega arith))

remains : (v : ℤ) (l : List ℕ) → length l ≡ shortfall v → l ≡ drop (surplus v + 0) l
remains (pos a) [] e = sym (drop-nil (a + 0))
remains (pos a) (x ∷ l) e = absurd (omega (arith, e))
remains (negsuc a) l e = refl

-- the permits that tables and values could have: who waits began down, and a positive count was the starting count
abbrev pub permits_for : ℕ → ℕ → Tables → List ℤ → Permits
permits_for size semaphores tables values =
    record {
      made = λ k. cond (ltb k semaphores) 1 0;
      starting = λ k. cond (ltb k semaphores) (surplus (semaphore_count size values k)) 0;
      ups = λ k. 0;
      downs = λ k. cond (ltb k semaphores) (queue tables (at_semaphore size k)) [];
    }

module _ (size semaphores : ℕ) (tables : Tables) (values : List ℤ)
    (levels : (k : ℕ) → k < semaphores → length (queue tables (at_semaphore size k)) ≡ shortfall (semaphore_count size values k)) where
  pub permits_passing : ((k : ℕ) → k < semaphore_limit size → semaphores ≤ k → queue tables (at_semaphore size k) ≡ []) →
      Passing size tables (permits_for size semaphores tables values)
  permits_passing none =
      record {
        left =
            λ k h.
            less_or_not k semaphores
            (λ made. rw (lt-ltb k semaphores made) (remains (semaphore_count size values k) (queue tables (at_semaphore size k)) (levels k made)))
            (λ past. rw (le-ltb k semaphores past) (none k h past));
      }

  pub permits_counted : Counted size values semaphores (permits_for size semaphores tables values)
  permits_counted =
      record {
        made_once = λ k. refl;
        count = λ k made. rw (lt-ltb k semaphores made, levels k made) (balance (semaphore_count size values k));
        unstarted = λ k past. rw (le-ltb k semaphores past);
        not_upped = λ k past. refl;
        unused = λ k past. rw (le-ltb k semaphores past);
      }
