-- The book along a trace: what one instruction changes of it, and what stays. Of books alone, for any trace. Assumes nothing.
use Prim.Native.Nat.{ℕ, zero, suc, ◌<◌, ◌≤◌}
use mathlib.Core.Path.{◌≡◌, refl, sym, ap, ◌∙◌}
use mathlib.Core.List.{List, [], ◌∷◌, ◌++◌}
use mathlib.Core.Logic.{◌≢◌}
use native.Mathlib.Omega.{arith}
use lib.ListN.{length, get_or, take, length-append, length-drop, get_or-append}
use lib.Seq.{drop-append-le, get_or_at, take_all, take-suc}
use borrow.Author.Tests.{eq-eqb, ne_eqb}
use Rattle.machine.specs.Book.{Book, Entry, Event, blank, book_of, fed}
use Rattle.machine.specs.Book as event
use Rattle.machine.specs.Order.{Completes, Executes, FirstLeft, Has, Rightful, Unreleased, book_at, entry_at}
use Rattle.machine.proofs.Booked.{entry}
use Rattle.machine.proofs.Lists.{less_or_not, same_or_not}
use Rattle.machine.proofs.Steps.{book_append}

-- ---- one instruction

-- what an instruction does to a mutex's list and count
pub data Feeds (m : ℕ) (now next : Book) (thread : ℕ) (happens : Event) : Type 0 where
  locked : happens ≡ event.locks m → next.releases m ≡ now.releases m → next.names m ≡ now.names m ++ thread ∷ [] →
      Feeds m now next thread happens
  released : happens ≡ event.unlocks m → next.releases m ≡ suc (now.releases m) → next.names m ≡ now.names m →
      Feeds m now next thread happens
  neither : happens ≢ event.locks m → happens ≢ event.unlocks m → next.releases m ≡ now.releases m →
      next.names m ≡ now.names m →
      Feeds m now next thread happens

lock_differs : (a b : ℕ) → a ≢ b → event.locks a ≢ event.locks b
lock_differs a b h e = h (let same : event.locks a ≡ event.locks b = e in cc)

unlock_differs : (a b : ℕ) → a ≢ b → event.unlocks a ≢ event.unlocks b
unlock_differs a b h e = h (let same : event.unlocks a ≡ event.unlocks b = e in cc)

feeds : (m : ℕ) (now : Book) (thread : ℕ) (happens : Event) →
    Feeds m now (fed now (entry thread happens)) thread happens
unfolding fed
feeds m now thread (event.locks k) =
    same_or_not m k
    (λ e. locked (ap event.locks (sym e)) refl (rw (eq-eqb m k e)))
    (λ e. neither (lock_differs k m (λ q. e (sym q))) (λ q. absurd (let z : ◌≡◌ {A = ℕ} 0 1 = cc in omega arith)) refl (rw (ne_eqb m k e)))
feeds m now thread (event.unlocks k) =
    same_or_not m k
    (λ e. released (ap event.unlocks (sym e)) (rw (eq-eqb m k e) (omega arith)) refl)
    (λ e. neither (λ q. absurd (let z : ◌≡◌ {A = ℕ} 0 1 = cc in omega arith)) (unlock_differs k m (λ q. e (sym q))) (rw (ne_eqb m k e)) refl)
feeds m now thread (event.creates v) =
    neither (λ q. absurd (let z : ◌≡◌ {A = ℕ} 0 1 = cc in omega arith)) (λ q. absurd (let z : ◌≡◌ {A = ℕ} 0 1 = cc in omega arith)) refl refl
feeds m now thread (event.ends v) =
    neither (λ q. absurd (let z : ◌≡◌ {A = ℕ} 0 1 = cc in omega arith)) (λ q. absurd (let z : ◌≡◌ {A = ℕ} 0 1 = cc in omega arith)) refl refl
feeds m now thread (event.opens n v) =
    neither (λ q. absurd (let z : ◌≡◌ {A = ℕ} 0 1 = cc in omega arith)) (λ q. absurd (let z : ◌≡◌ {A = ℕ} 0 1 = cc in omega arith)) refl refl
feeds m now thread (event.ups k) =
    neither (λ q. absurd (let z : ◌≡◌ {A = ℕ} 0 1 = cc in omega arith)) (λ q. absurd (let z : ◌≡◌ {A = ℕ} 0 1 = cc in omega arith)) refl refl
feeds m now thread (event.downs k) =
    neither (λ q. absurd (let z : ◌≡◌ {A = ℕ} 0 1 = cc in omega arith)) (λ q. absurd (let z : ◌≡◌ {A = ℕ} 0 1 = cc in omega arith)) refl refl
feeds m now thread (event.joins u) =
    neither (λ q. absurd (let z : ◌≡◌ {A = ℕ} 0 1 = cc in omega arith)) (λ q. absurd (let z : ◌≡◌ {A = ℕ} 0 1 = cc in omega arith)) refl refl
feeds m now thread event.other =
    neither (λ q. absurd (let z : ◌≡◌ {A = ℕ} 0 1 = cc in omega arith)) (λ q. absurd (let z : ◌≡◌ {A = ℕ} 0 1 = cc in omega arith)) refl refl

-- ---- along a trace

module _ (trace : List Entry) where
  pub book_next : (j : ℕ) → j < length trace → book_at trace (suc j) ≡ fed (book_at trace j) (entry_at trace j)
  unfolding book_of
  book_next j h =
      rw (take-suc trace j (record { thread = 0; event = event.other }) h, book_append blank (take j trace) (entry_at trace j ∷ []))

  pub book_past : (j : ℕ) → length trace ≤ j → book_at trace (suc j) ≡ book_at trace j
  book_past j h = rw (take_all (suc j) trace (omega arith), take_all j trace h)

  -- what the next instruction does to a mutex
  next : (m j : ℕ) → j < length trace →
      Feeds m (book_at trace j) (book_at trace (suc j)) (entry_at trace j).thread (entry_at trace j).event
  next m j h = rw (book_next j h) (feeds m (book_at trace j) (entry_at trace j).thread (entry_at trace j).event)

  -- a later book: the count no smaller, the list no shorter, and its first names the same
  record Later (m : ℕ) (now later : Book) : Type 0 where
    count : now.releases m ≤ later.releases m
    longer : length (now.names m) ≤ length (later.names m)
    same : (k : ℕ) → k < length (now.names m) → get_or (later.names m) k 0 ≡ get_or (now.names m) k 0

  later_same : (m : ℕ) (now next : Book) → next.releases m ≡ now.releases m → next.names m ≡ now.names m →
      Later m now next
  later_same m now next r n = record { count = omega (arith, r); longer = rw n (omega arith); same = λ k h. rw n }

  later_next : (m j : ℕ) → Later m (book_at trace j) (book_at trace (suc j))
  later_next m j = less_or_not j (length trace) (λ h. by_event (next m j h)) (λ h. rw (book_past j h) (later_same m _ _ refl refl))
    where
      by_event : Feeds m (book_at trace j) (book_at trace (suc j)) (entry_at trace j).thread (entry_at trace j).event →
          Later m (book_at trace j) (book_at trace (suc j))
      by_event (locked e r n) =
          record {
            count = omega (arith, r);
            longer = rw (n, length-append ((book_at trace j).names m) ((entry_at trace j).thread ∷ [])) (omega arith);
            same = λ k h. rw n (get_or-append ((book_at trace j).names m) ((entry_at trace j).thread ∷ []) 0 k h);
          }
      by_event (released e r n) = record { count = omega (arith, r); longer = rw n (omega arith); same = λ k h. rw n }
      by_event (neither a b r n) = later_same m _ _ r n

  later : (m i j : ℕ) → i ≤ j → Later m (book_at trace i) (book_at trace j)
  later m i zero h = let e : i ≡ 0 = omega arith in rw e (later_same m _ _ refl refl)
  later m i (suc j) h =
      same_or_not i (suc j)
      (λ e. rw e (later_same m _ _ refl refl))
      (λ e.
      let a = later m i j (omega arith) in
      let b = later_next m j in
      record {
        count = omega (arith, a.count, b.count);
        longer = omega (arith, a.longer, b.longer);
        same = λ k less. b.same k (omega (arith, a.longer)) ∙ a.same k less;
      })

  -- ---- locks executed and completed

  -- after a lock its mutex's list has one name more, the thread's
  after_lock : (m k i : ℕ) → Executes trace m k i →
      (book_at trace (suc i)).names m ≡ (book_at trace i).names m ++ (entry_at trace i).thread ∷ []
  after_lock m k i x = by_event (next m i x.carried)
    where
      by_event : Feeds m (book_at trace i) (book_at trace (suc i)) (entry_at trace i).thread (entry_at trace i).event →
          (book_at trace (suc i)).names m ≡ (book_at trace i).names m ++ (entry_at trace i).thread ∷ []
      by_event (locked e r n) = n
      by_event (released e r n) = absurd (let is = x.lock in let z : ◌≡◌ {A = ℕ} 0 1 = cc in omega arith)
      by_event (neither a b r n) = absurd (a x.lock)

  after_length : (m k i : ℕ) → Executes trace m k i → length ((book_at trace (suc i)).names m) ≡ suc k
  after_length m k i x =
      rw (after_lock m k i x, length-append ((book_at trace i).names m) ((entry_at trace i).thread ∷ [])) (omega (arith, x.number))

  pub executed : (m k j : ℕ) → k < length ((book_at trace j).names m) → (i : ℕ) × (i < j) × Executes trace m k i
  unfolding book_of
  executed m k zero h = absurd (omega arith)
  executed m k (suc j) h =
      less_or_not k (length ((book_at trace j).names m))
      (λ g. let x = executed m k j g in (x.0, omega (arith, x.1), x.2))
      (λ g. less_or_not j (length trace) (λ b. by_event g b (next m j b)) (λ b. absurd (omega (arith, ap (λ (x : Book). length (x.names m)) (book_past j b)))))
    where
      by_event : length ((book_at trace j).names m) ≤ k → j < length trace →
          Feeds m (book_at trace j) (book_at trace (suc j)) (entry_at trace j).thread (entry_at trace j).event →
          (i : ℕ) × (i < suc j) × Executes trace m k i
      by_event g b (locked e r n) =
          let one = ap length n ∙ length-append ((book_at trace j).names m) ((entry_at trace j).thread ∷ []) in
          (j, omega arith, record { carried = b; lock = e; number = omega (arith, one) })
      by_event g b (released e r n) = absurd (omega (arith, ap length n))
      by_event g b (neither a c r n) = absurd (omega (arith, ap length n))

  pub numbered : (m k l i j : ℕ) → Executes trace m k i → Executes trace m l j → i < j → k < l
  numbered m k l i j x y h = omega (arith, after_length m k i x, (later m (suc i) j h).longer, y.number)

  pub named : (m k i j : ℕ) → Executes trace m k i → i < j →
      get_or ((book_at trace j).names m) k 0 ≡ (entry_at trace i).thread
  named m k i j x h =
      (later m (suc i) j h).same k (omega (arith, after_length m k i x))
      ∙ rw (after_lock m k i x) (get_or_at ((book_at trace i).names m) (entry_at trace i).thread [] 0 k x.number)

  -- a lock that was first left, and is so again later, was so in between
  between : (m k i j l : ℕ) → FirstLeft (book_at trace i) m k → FirstLeft (book_at trace l) m k → i ≤ j → j ≤ l →
      FirstLeft (book_at trace j) m k
  between m k i j l a b h g =
      let x = later m i j h in
      let y = later m j l g in
      (omega (arith, x.count, y.count, a.0, b.0), omega (arith, x.longer, a.1))

  once_only : (m k i j : ℕ) → Completes trace m k i → Completes trace m k j → i < j → ⊥
  once_only m k i j a b h = b.before (between m k (suc i) j (suc j) a.after b.after h (omega arith))

  pub once : (m k i j : ℕ) → Completes trace m k i → Completes trace m k j → i ≡ j
  once m k i j a b =
      less_or_not i j (λ h. absurd (once_only m k i j a b h))
      (λ h. same_or_not i j (λ e. e) (λ e. absurd (once_only m k j i b a (omega arith))))

  pub no_sooner : (m k i j : ℕ) → Executes trace m k i → Completes trace m k j → i ≤ j
  no_sooner m k i j x c =
      less_or_not j i (λ h. absurd (omega (arith, (later m (suc j) i h).longer, x.number, c.after.1))) (λ h. h)

  pub ordered : (m k l i j : ℕ) → Completes trace m k i → Completes trace m l j → k < l → i < j
  ordered m k l i j a b h =
      less_or_not i j (λ g. g) (λ g. absurd (omega (arith, (later m (suc j) (suc i) (omega arith)).count, a.after.0, b.after.0)))

  -- a lock is first left or not
  left_or_not : {X : Type 0} (book : Book) (m k : ℕ) → (FirstLeft book m k → X) → (¬ FirstLeft book m k → X) → X
  left_or_not book m k is not =
      same_or_not (book.releases m) k
      (λ e. less_or_not k (length (book.names m)) (λ h. is (e, h)) (λ h. not (λ f. omega (arith, f.1))))
      (λ e. not (λ f. e f.0))

  -- a lock that is first left has completed
  began : (m k j : ℕ) → FirstLeft (book_at trace j) m k → (i : ℕ) × (i < j) × Completes trace m k i
  unfolding book_of
  began m k zero f = absurd (omega (arith, f.1))
  began m k (suc j) f =
      left_or_not (book_at trace j) m k
      (λ g. let x = began m k j g in (x.0, omega (arith, x.1), x.2))
      (λ g. (
        j,
        omega arith,
        record {
          carried = less_or_not j (length trace) (λ h. h) (λ h. absurd (g (rw (book_past j h) at f)));
          after = f;
          before = g;
        },
      ))

  -- ---- nobody is passed over

  module _ (m : ℕ) (counted : (j : ℕ) → (book_at trace j).releases m ≤ length ((book_at trace j).names m)) where
    -- a lock that was released was first left before
    was_left : (k j : ℕ) → k < (book_at trace j).releases m → (i : ℕ) × (i < j) × FirstLeft (book_at trace i) m k
    unfolding book_of
    was_left k zero h = absurd (omega arith)
    was_left k (suc j) h =
        less_or_not k ((book_at trace j).releases m)
        (λ g. let x = was_left k j g in (x.0, omega (arith, x.1), x.2))
        (λ g. less_or_not j (length trace) (λ b. by_event g (next m j b)) (λ b. absurd (omega (arith, ap (λ (x : Book). x.releases m) (book_past j b)))))
      where
        by_event : (book_at trace j).releases m ≤ k →
            Feeds m (book_at trace j) (book_at trace (suc j)) (entry_at trace j).thread (entry_at trace j).event →
            (i : ℕ) × (i < suc j) × FirstLeft (book_at trace i) m k
        by_event g (locked e r n) = absurd (omega (arith, r))
        by_event g (released e r n) = (j, omega arith, (omega (arith, r), omega (arith, r, counted (suc j), ap length n)))
        by_event g (neither a b r n) = absurd (omega (arith, r))

    pub nobody_skipped : (k j : ℕ) → k < (book_at trace j).releases m → (i : ℕ) × (i < j) × Completes trace m k i
    nobody_skipped k j h =
        let x = was_left k j h in
        let y = began m k x.0 x.2 in
        (y.0, omega (arith, x.1, y.1), y.2)

  -- ---- the one who has a mutex

  -- who has a mutex is the name of a lock that is first left
  first_left : (book : Book) (m t : ℕ) → Has book m t → FirstLeft book m (book.releases m)
  first_left book m t h = (refl, omega (arith, ap length h.1, length-drop (book.releases m) (book.names m)))

  -- each release is by the one who has the mutex
  module _ (by_holder : (j : ℕ) → j < length trace → Rightful (book_at trace j) (entry_at trace j)) where
    -- until it executes unlock or wait, it has the mutex, and nothing is released
    still : (m t a b : ℕ) → Has (book_at trace a) m t → Unreleased trace m t a b → (j : ℕ) → a ≤ j → j ≤ b →
        Has (book_at trace j) m t × ((book_at trace j).releases m ≡ (book_at trace a).releases m)
    still m t a b has quiet zero h g = let e : a ≡ 0 = omega arith in (rw e at has, rw e)
    still m t a b has quiet (suc j) h g =
        same_or_not a (suc j)
        (λ e. (rw e at has, rw e))
        (λ e.
        let before = still m t a b has quiet j (omega arith) (omega arith) in
        less_or_not j (length trace)
        (λ c. by_event (omega arith) before.0 before.1 c (next m j c))
        (λ c. rw (book_past j c) before))
      where
        by_event : a ≤ j → Has (book_at trace j) m t → (book_at trace j).releases m ≡ (book_at trace a).releases m →
            j < length trace →
            Feeds m (book_at trace j) (book_at trace (suc j)) (entry_at trace j).thread (entry_at trace j).event →
            Has (book_at trace (suc j)) m t × ((book_at trace (suc j)).releases m ≡ (book_at trace a).releases m)
        by_event from mine same c (locked e r n) =
            let there : (book_at trace j).releases m ≤ length ((book_at trace j).names m) = omega (arith, (first_left (book_at trace j) m t mine).1) in (
              (
                mine.0 ++ (entry_at trace j).thread ∷ [],
                rw (r, n, drop-append-le ((book_at trace j).releases m) ((book_at trace j).names m) ((entry_at trace j).thread ∷ []) there, mine.1),
              ),
              r ∙ same,
            )
        by_event from mine same c (released e r n) =
            let his = by_holder j c m e in
            let both : (entry_at trace j).thread ∷ his.0 ≡ t ∷ mine.0 = sym his.1 ∙ mine.1 in
            let me : (entry_at trace j).thread ≡ t = cc in
            absurd (quiet j (omega arith) g (λ i. record { thread = me i; event = e i }))
        by_event from mine same c (neither l u r n) = ((mine.0, rw (r, n) mine.1), r ∙ same)

    pub still_has : (m t a b : ℕ) → Has (book_at trace a) m t → Unreleased trace m t a b → (j : ℕ) → a ≤ j → j ≤ b →
        Has (book_at trace j) m t
    still_has m t a b has quiet j h g = (still m t a b has quiet j h g).0

    pub none_completes : (m t a b : ℕ) → Has (book_at trace a) m t → Unreleased trace m t a b → (k j : ℕ) → a ≤ j →
        j < b → ¬ Completes trace m k j
    none_completes m t a b has quiet k j h g c =
        let now = still m t a b has quiet j h (omega arith) in
        let then = still m t a b has quiet (suc j) (omega arith) g in
        let same : (book_at trace j).releases m ≡ k = now.1 ∙ sym then.1 ∙ c.after.0 in
        c.before (same, omega (arith, same, (first_left (book_at trace j) m t now.0).1))
