-- The permits of a book along a trace: what one instruction changes of them, and who passes a semaphore when. Of books alone, for any trace in which
-- no number is pushed by newsema twice. Assumes nothing.
use Prim.Native.Nat.{ℕ, zero, suc, ◌+◌, ◌<◌, ◌≤◌}
use mathlib.Core.Path.{◌≡◌, refl, sym, ap, ◌∙◌}
use mathlib.Core.List.{List, [], ◌∷◌, ◌++◌}
use mathlib.Core.Logic.{◌≢◌}
use native.Mathlib.Omega.{arith}
use lib.IntN.{pos, negsuc}
use lib.ListN.{get_or, length, length-append, get_or-append}
use lib.Seq.{get_or_at}
use borrow.Author.Tests.{eq-eqb, ne_eqb}
use Rattle.machine.specs.Book.{Book, Entry, Event, fed, permitted}
use Rattle.machine.specs.Book as event
use Rattle.machine.specs.Order.{book_at, entry_at}
use Rattle.machine.specs.Semaphores.{PassingInOrder, Passes, Waits}
use Rattle.machine.proofs.Booked.{entry}
use Rattle.machine.proofs.Lists.{less_or_not, same_or_not}
use Rattle.machine.proofs.Traces.{book_next, book_past}

-- ---- one instruction

-- what an instruction does to a semaphore's permits and downs
data Grants (k : ℕ) (now next : Book) (thread : ℕ) (happens : Event) : Type 0 where
  opens : happens ≢ event.downs k → next.permits.made k ≡ now.permits.made k + 1 →
      permitted now k ≤ permitted next k → next.permits.downs k ≡ now.permits.downs k →
      Grants k now next thread happens
  raises : happens ≡ event.ups k → permitted next k ≡ permitted now k + 1 →
      next.permits.downs k ≡ now.permits.downs k →
      Grants k now next thread happens
  lowers : happens ≡ event.downs k → permitted next k ≡ permitted now k →
      next.permits.downs k ≡ now.permits.downs k ++ thread ∷ [] →
      Grants k now next thread happens
  neither : happens ≢ event.downs k → permitted next k ≡ permitted now k →
      next.permits.downs k ≡ now.permits.downs k → Grants k now next thread happens

down_differs : (a b : ℕ) → a ≢ b → event.downs a ≢ event.downs b
down_differs a b h e = h (let same : event.downs a ≡ event.downs b = e in cc)

grants : (k : ℕ) (now : Book) (thread : ℕ) (happens : Event) →
    Grants k now (fed now (entry thread happens)) thread happens
unfolding fed
grants k now thread (event.opens n (pos j)) =
    same_or_not k j
    (λ e. opens (λ q. absurd (let z : ◌≡◌ {A = ℕ} 0 1 = cc in omega arith)) (rw (eq-eqb k j e)) (rw (eq-eqb k j e) (omega arith)) refl)
    (λ e. neither (λ q. absurd (let z : ◌≡◌ {A = ℕ} 0 1 = cc in omega arith)) (rw (ne_eqb k j e)) refl)
grants k now thread (event.opens n (negsuc j)) = neither (λ q. absurd (let z : ◌≡◌ {A = ℕ} 0 1 = cc in omega arith)) refl refl
grants k now thread (event.ups j) =
    same_or_not k j
    (λ e. raises (ap event.ups (sym e)) (rw (eq-eqb k j e) (omega arith)) refl)
    (λ e. neither (λ q. absurd (let z : ◌≡◌ {A = ℕ} 0 1 = cc in omega arith)) (rw (ne_eqb k j e)) refl)
grants k now thread (event.downs j) =
    same_or_not k j
    (λ e. lowers (ap event.downs (sym e)) refl (rw (eq-eqb k j e)))
    (λ e. neither (down_differs j k (λ q. e (sym q))) refl (rw (ne_eqb k j e)))
grants k now thread (event.locks m) = neither (λ q. absurd (let z : ◌≡◌ {A = ℕ} 0 1 = cc in omega arith)) refl refl
grants k now thread (event.unlocks m) = neither (λ q. absurd (let z : ◌≡◌ {A = ℕ} 0 1 = cc in omega arith)) refl refl
grants k now thread (event.creates v) = neither (λ q. absurd (let z : ◌≡◌ {A = ℕ} 0 1 = cc in omega arith)) refl refl
grants k now thread (event.joins u) = neither (λ q. absurd (let z : ◌≡◌ {A = ℕ} 0 1 = cc in omega arith)) refl refl
grants k now thread (event.ends v) = neither (λ q. absurd (let z : ◌≡◌ {A = ℕ} 0 1 = cc in omega arith)) refl refl
grants k now thread event.other = neither (λ q. absurd (let z : ◌≡◌ {A = ℕ} 0 1 = cc in omega arith)) refl refl

-- what is asked of the book at each point: no number was made twice, and one on which down was begun was made
pub record Opened (book : Book) : Type 0 where
  pub at_most_once : (k : ℕ) → book.permits.made k ≤ 1
  pub begun_made : (k : ℕ) → 0 < length (book.permits.downs k) → book.permits.made k ≡ 1

-- ---- along a trace

module _ (trace : List Entry) (opened : (j : ℕ) → Opened (book_at trace j)) where
  abbrev granted : ℕ → ℕ → ℕ
  granted j k = permitted (book_at trace j) k

  abbrev begun : ℕ → ℕ → ℕ
  begun j k = length ((book_at trace j).permits.downs k)

  next : (k j : ℕ) → j < length trace →
      Grants k (book_at trace j) (book_at trace (suc j)) (entry_at trace j).thread (entry_at trace j).event
  next k j h = rw (book_next trace j h) (grants k (book_at trace j) (entry_at trace j).thread (entry_at trace j).event)

  -- permits and downs never become fewer
  grows_next : (k j : ℕ) → (granted j k ≤ granted (suc j) k) × (begun j k ≤ begun (suc j) k)
  grows_next k j = less_or_not j (length trace) (λ h. by_event (next k j h)) (λ h. rw (book_past trace j h) (omega arith, omega arith))
    where
      by_event : Grants k (book_at trace j) (book_at trace (suc j)) (entry_at trace j).thread (entry_at trace j).event →
          (granted j k ≤ granted (suc j) k) × (begun j k ≤ begun (suc j) k)
      by_event (opens e m p d) = (p, omega (arith, ap length d))
      by_event (raises e p d) = (omega (arith, p), omega (arith, ap length d))
      by_event (lowers e p d) = (omega (arith, p), omega (arith, ap length d, length-append ((book_at trace j).permits.downs k) ((entry_at trace j).thread ∷ [])))
      by_event (neither e p d) = (omega (arith, p), omega (arith, ap length d))

  grows : (k i j : ℕ) → i ≤ j → (granted i k ≤ granted j k) × (begun i k ≤ begun j k)
  grows k i zero h = let e : i ≡ 0 = omega arith in rw e (omega arith, omega arith)
  grows k i (suc j) h =
      same_or_not i (suc j)
      (λ e. rw e (omega arith, omega arith))
      (λ e.
      let a = grows k i j (omega arith) in
      let b = grows_next k j in
      (omega (arith, a.0, b.0), omega (arith, a.1, b.1)))

  -- after a down the list has one name more, the thread's
  added : (k j i : ℕ) → Waits trace k j i →
      (book_at trace (suc i)).permits.downs k ≡ (book_at trace i).permits.downs k ++ (entry_at trace i).thread ∷ []
  added k j i w = by_event (next k i w.carried)
    where
      by_event : Grants k (book_at trace i) (book_at trace (suc i)) (entry_at trace i).thread (entry_at trace i).event →
          (book_at trace (suc i)).permits.downs k ≡ (book_at trace i).permits.downs k ++ (entry_at trace i).thread ∷ []
      by_event (opens e m p d) = absurd (e w.down)
      by_event (raises e p d) = absurd (let is = w.down in let z : ◌≡◌ {A = ℕ} 0 1 = cc in omega arith)
      by_event (lowers e p d) = d
      by_event (neither e p d) = absurd (e w.down)

  after_down : (k j i : ℕ) → Waits trace k j i → begun (suc i) k ≡ suc j
  after_down k j i w =
      omega (arith, ap length (added k j i w), length-append ((book_at trace i).permits.downs k) ((entry_at trace i).thread ∷ []), w.number)

  -- a name stays where it is
  stays_next : (k n j : ℕ) → n < begun j k →
      get_or ((book_at trace (suc j)).permits.downs k) n 0 ≡ get_or ((book_at trace j).permits.downs k) n 0
  stays_next k n j less = less_or_not j (length trace) (λ h. by_event (next k j h)) (λ h. rw (book_past trace j h))
    where
      by_event : Grants k (book_at trace j) (book_at trace (suc j)) (entry_at trace j).thread (entry_at trace j).event →
          get_or ((book_at trace (suc j)).permits.downs k) n 0 ≡ get_or ((book_at trace j).permits.downs k) n 0
      by_event (opens e m p d) = rw d
      by_event (raises e p d) = rw d
      by_event (lowers e p d) = rw d (get_or-append ((book_at trace j).permits.downs k) ((entry_at trace j).thread ∷ []) 0 n less)
      by_event (neither e p d) = rw d

  stays : (k n i l : ℕ) → i ≤ l → n < begun i k →
      get_or ((book_at trace l).permits.downs k) n 0 ≡ get_or ((book_at trace i).permits.downs k) n 0
  stays k n i zero h less = let e : i ≡ 0 = omega arith in rw e
  stays k n i (suc l) h less =
      same_or_not i (suc l)
      (λ e. rw e)
      (λ e. stays_next k n l (omega (arith, less, (grows k i l (omega arith)).1)) ∙ stays k n i l (omega arith) less)

  named : (k j i l : ℕ) → Waits trace k j i → i < l →
      get_or ((book_at trace l).permits.downs k) j 0 ≡ (entry_at trace i).thread
  named k j i l w h =
      stays k j (suc i) l h (omega (arith, after_down k j i w))
      ∙ rw (added k j i w) (get_or_at ((book_at trace i).permits.downs k) (entry_at trace i).thread [] 0 j w.number)

  -- once a down was begun, permits come one by one, each by an up
  record Rises (k l : ℕ) : Type 0 where
    one : granted (suc l) k ≤ granted l k + 1
    by : granted l k < granted (suc l) k → (entry_at trace l).event ≡ event.ups k

  rises : (k l : ℕ) → l < length trace → 0 < begun l k → Rises k l
  rises k l h some = by_event (next k l h)
    where
      by_event : Grants k (book_at trace l) (book_at trace (suc l)) (entry_at trace l).thread (entry_at trace l).event →
          Rises k l
      by_event (opens e m p d) = absurd (omega (arith, m, (opened l).begun_made k some, (opened (suc l)).at_most_once k))
      by_event (raises e p d) = record { one = omega (arith, p); by = λ more. e }
      by_event (lowers e p d) = record { one = omega (arith, p); by = λ more. absurd (omega (arith, p)) }
      by_event (neither e p d) = record { one = omega (arith, p); by = λ more. absurd (omega (arith, p)) }

  -- who waits passes later, when its down's list isn't empty
  later : (k j i l : ℕ) → Waits trace k j i → Passes trace k j l → i < l
  later k j i l w p = less_or_not i l (λ h. h) (λ h. absurd (omega (arith, p.after, w.without, (grows k (suc l) (suc i) (omega arith)).0)))

  step_of : (k j i l : ℕ) → Waits trace k j i → Passes trace k j l → Rises k l
  step_of k j i l w p =
      rises k l p.carried (omega (arith, after_down k j i w, (grows k (suc i) l (later k j i l w p)).1))

  by_up : (k j i l : ℕ) → Waits trace k j i → Passes trace k j l → (i < l) × ((entry_at trace l).event ≡ event.ups k)
  by_up k j i l w p = (later k j i l w p, (step_of k j i l w p).by (omega (arith, p.before, p.after)))

  -- the down that passes is the first without a permit
  first_left : (k j i l : ℕ) → Waits trace k j i → Passes trace k j l → granted l k ≡ j
  first_left k j i l w p = omega (arith, p.before, p.after, (step_of k j i l w p).one)

  one_by_one : (k j i h g l : ℕ) → Waits trace k j i → Waits trace k h g → Passes trace k j l → Passes trace k h l →
      j ≡ h
  one_by_one k j i h g l w v p q = sym (first_left k j i l w p) ∙ first_left k h g l v q

  -- a down without a permit, and with one later, passes in between
  crossing : (k j a l : ℕ) → a ≤ l → l ≤ length trace → granted a k ≤ j → j < granted l k →
      (e : ℕ) × (e < l) × Passes trace k j e
  crossing k j a zero h long before after = absurd (let same : a ≡ 0 = omega arith in let none : granted 0 k ≤ j = rw same at before in omega arith)
  crossing k j a (suc l) h long before after =
      less_or_not j (granted l k)
      (λ sooner.
      same_or_not a (suc l)
      (λ e. let none : granted (suc l) k ≤ j = rw e at before in absurd (omega arith))
      (λ e. let x = crossing k j a l (omega arith) (omega arith) before sooner in (x.0, omega (arith, x.1), x.2)))
      (λ now. (l, omega arith, record { carried = omega arith; before = now; after = after }))

  ordered : (k j i h g l : ℕ) → Waits trace k j i → Waits trace k h g → i < g → Passes trace k h l →
      (e : ℕ) × (e < l) × Passes trace k j e
  ordered k j i h g l w v sooner p =
      let less : j < h = omega (arith, after_down k j i w, (grows k (suc i) g sooner).1, v.number) in
      crossing k j (suc i) l (omega (arith, later k h g l v p)) (omega (arith, p.carried)) w.without (omega (arith, first_left k h g l v p))

  pub passing_in_order : PassingInOrder trace
  passing_in_order = record { named = named; by_up = by_up; one_by_one = one_by_one; ordered = ordered }
