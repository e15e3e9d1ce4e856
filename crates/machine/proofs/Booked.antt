-- The book agrees with the tables: who lives, and for each mutex the names left are the owner and those waiting. Laws of each change.
-- Assumes nothing.
use Prim.Native.Nat.{ℕ, ◌+◌, ◌<◌, ◌≤◌}
use mathlib.Core.Path.{◌≡◌, refl, sym, ap, subst, ◌∙◌}
use mathlib.Core.Bool.{true, cond}
use mathlib.Core.List.{List, [], ◌∷◌, ◌++◌, append_assoc}
use mathlib.Core.Logic.{◌≢◌}
use native.Mathlib.Omega.{arith}
use lib.Dec.{eqb, ltb}
use lib.IntN.{ℤ, pos}
use lib.ListN.{length, drop, length-append, length-drop}
use lib.Seq.{drop-append-le, drop-drop}
use borrow.Author.Tests.{eq-eqb, ne_eqb, lt-ltb}
use Rattle.machine.specs.Book.{Book, Entry, Event, Permits, fed, names_left, locks, unlocks, creates, ends, with_permits}
use Rattle.machine.specs.Fair.{holder_of}
use Rattle.machine.specs.Lists.{count}
use Rattle.machine.specs.Size.{mutex_limit}
use Rattle.machine.specs.Tables.{Tables, at_mutex, ended, lives, owned, owner_of, place_of, queue, ready, sent}
use Rattle.machine.proofs.Lists.{same_or_not}
use Rattle.machine.proofs.Queues.{owned_here, owned_line, owned_places, owned_queue, owned_there, queue_joined, queue_kept, queue_left, sent_here, sent_owner, sent_there}

pub record Booked (size : ℕ) (tables : Tables) (book : Book) : Type 0 where
  pub alive : (t : ℕ) → book.living t ≡ lives tables t
  pub counted : (m : ℕ) → m < mutex_limit size → book.releases m ≤ length (book.names m)
  pub ordered : (m : ℕ) → m < mutex_limit size → names_left book m ≡ holder_of size tables m ++ queue tables (at_mutex m)

-- the entry of an event
abbrev pub entry : ℕ → Event → Entry
entry t e = record { thread = t; event = e }

-- a mutex's owner as a list
pub held : (size : ℕ) (tables : Tables) (m o : ℕ) → owner_of tables m ≡ o → o ≢ size → holder_of size tables m ≡ o ∷ []
held size tables m o e h = rw (e, ne_eqb o size h)

pub free : (size : ℕ) (tables : Tables) (m : ℕ) → owner_of tables m ≡ size → holder_of size tables m ≡ []
free size tables m e = rw (e, eq-eqb size size refl)

pub same_holder : (size : ℕ) (a b : Tables) (m : ℕ) → owner_of a m ≡ owner_of b m → holder_of size a m ≡ holder_of size b m
same_holder size a b m e = ap (λ (o : ℕ). cond (eqb o size) [] (o ∷ [])) e

module _ (size : ℕ) (tables : Tables) (book : Book) (b : Booked size tables book) where
  -- a thread goes from a place that is no mutex's to another, and stays alive or not
  pub booked_sent : (t p : ℕ) → t < length tables.places →
      ((m : ℕ) → m < mutex_limit size → p ≢ at_mutex m) → ((m : ℕ) → m < mutex_limit size → place_of tables t ≢ at_mutex m) → ltb ended p ≡ lives tables t →
      Booked size (sent tables t p) book
  booked_sent t p below to from life =
      record {
        alive =
            λ s.
            b.alive s
            ∙ same_or_not s t
            (λ e. rw e (sym life ∙ ap (ltb ended) (sym (sent_here tables t p below))))
            (λ e. ap (ltb ended) (sym (sent_there tables t p s e)));
        counted = b.counted;
        ordered =
            λ m h.
            b.ordered m h
            ∙ rw (
              same_holder size (sent tables t p) tables m (sent_owner tables t p m),
              queue_kept tables t p (at_mutex m) below (λ e. to m h (sym e)) (from m h),
            );
      }

  -- what the book holds of semaphores is another matter
  pub booked_permits : (permits : Permits) → Booked size tables (with_permits book permits)
  booked_permits permits = record { alive = b.alive; counted = b.counted; ordered = b.ordered }

  -- tables with the same places, owners and queues
  pub booked_same : (next : Tables) → next.places ≡ tables.places → next.owners ≡ tables.owners →
      ((q : ℕ) → queue next q ≡ queue tables q) → Booked size next book
  booked_same next places owners queues =
      record {
        alive = λ t. rw places (b.alive t);
        counted = b.counted;
        ordered = λ m h. rw (queues (at_mutex m), owners) (b.ordered m h);
      }

  -- a thread that wasn't alive is made
  pub booked_made : (t p : ℕ) → t < length tables.places →
      ((m : ℕ) → m < mutex_limit size → p ≢ at_mutex m) → ((m : ℕ) → m < mutex_limit size → place_of tables t ≢ at_mutex m) → ended < p →
      (thread : ℕ) → Booked size (sent tables t p) (fed book (entry thread (creates (pos t))))
  unfolding fed
  booked_made t p below to from life thread =
      record {
        alive =
            λ s.
            same_or_not s t
            (λ e. rw (eq-eqb s t e, e, sent_here tables t p below, lt-ltb ended p life))
            (λ e. rw (ne_eqb s t e, sent_there tables t p s e) (b.alive s));
        counted = b.counted;
        ordered =
            λ m h.
            b.ordered m h
            ∙ rw (
              same_holder size (sent tables t p) tables m (sent_owner tables t p m),
              queue_kept tables t p (at_mutex m) below (λ e. to m h (sym e)) (from m h),
            );
      }

  -- a thread ends
  pub booked_ended : (t : ℕ) (v : ℤ) → t < length tables.places →
      ((m : ℕ) → m < mutex_limit size → place_of tables t ≢ at_mutex m) →
      Booked size (sent tables t ended) (fed book (entry t (ends v)))
  unfolding fed
  booked_ended t v below from =
      record {
        alive =
            λ s.
            same_or_not s t
            (λ e. rw (eq-eqb s t e, e, sent_here tables t ended below))
            (λ e. rw (ne_eqb s t e, sent_there tables t ended s e) (b.alive s));
        counted = b.counted;
        ordered =
            λ m h.
            b.ordered m h
            ∙ rw (
              same_holder size (sent tables t ended) tables m (sent_owner tables t ended m),
              queue_kept tables t ended (at_mutex m) below (λ e. omega arith) (from m h),
            );
      }

  -- a name is added
  named : (m k : ℕ) → m ≢ k → (t : ℕ) → (fed book (entry t (locks m))).names k ≡ book.names k
  unfolding fed
  named m k h t = rw (ne_eqb k m (λ e. h (sym e)))

  added : (m t : ℕ) → (fed book (entry t (locks m))).names m ≡ book.names m ++ t ∷ []
  unfolding fed
  added m t = rw (eq-eqb m m refl)

  locks_rest : (m t : ℕ) → ((fed book (entry t (locks m))).living ≡ book.living)
      × ((fed book (entry t (locks m))).releases ≡ book.releases)
  unfolding fed
  locks_rest m t = (refl, refl)

  longer : (m t : ℕ) → m < mutex_limit size → names_left (fed book (entry t (locks m))) m ≡ names_left book m ++ t ∷ []
  longer m t h = rw (added m t, (locks_rest m t).1, drop-append-le (book.releases m) (book.names m) (t ∷ []) (b.counted m h))

  counted_lock : (m t : ℕ) (k : ℕ) → k < mutex_limit size →
      (fed book (entry t (locks m))).releases k ≤ length ((fed book (entry t (locks m))).names k)
  counted_lock m t k h =
      same_or_not m k
      (λ e. rw ((locks_rest m t).1, ← e, added m t, length-append (book.names m) (t ∷ [])) (omega (arith, rw (← e) at (b.counted k h))))
      (λ e. rw ((locks_rest m t).1, named m k e t) (b.counted k h))

  -- a free mutex is taken: nobody waits for it
  pub booked_taken : (m t : ℕ) → m < mutex_limit size → m < length tables.owners → owner_of tables m ≡ size →
      queue tables (at_mutex m) ≡ [] → t ≢ size →
      Booked size (owned tables m t) (fed book (entry t (locks m)))
  booked_taken m t h below none empty some =
      record {
        alive = λ s. rw ((locks_rest m t).0, owned_places tables m t) (b.alive s);
        counted = counted_lock m t;
        ordered =
            λ k hk.
            rw (owned_queue tables m t (at_mutex k))
            (same_or_not m k
            (λ e.
            subst
            (λ (j : ℕ). names_left (fed book (entry t (locks m))) j ≡ holder_of size (owned tables m t) j ++ queue tables (at_mutex j))
            e
            (longer m t h
            ∙ rw (b.ordered m h, free size tables m none, empty, held size (owned tables m t) m t (owned_here tables m t below) some)))
            (λ e.
            rw (
              named m k e t,
              (locks_rest m t).1,
              same_holder size (owned tables m t) tables k (owned_there tables m t k (λ i. e (sym i))),
            )
            (b.ordered k hk)));
      }

  -- a thread waits for a mutex
  pub booked_waits : (m t : ℕ) → m < mutex_limit size → t < length tables.places → count t tables.line ≡ 1 →
      ((k : ℕ) → k < mutex_limit size → place_of tables t ≢ at_mutex k) → lives tables t ≡ true →
      Booked size (sent tables t (at_mutex m)) (fed book (entry t (locks m)))
  booked_waits m t h below once from life =
      record {
        alive =
            λ s.
            rw (locks_rest m t).0
            (b.alive s
            ∙ same_or_not s t
            (λ e. rw (e, life, sent_here tables t (at_mutex m) below) (sym (lt-ltb ended (at_mutex m) (omega arith))))
            (λ e. ap (ltb ended) (sym (sent_there tables t (at_mutex m) s e))));
        counted = counted_lock m t;
        ordered =
            λ k hk.
            same_or_not m k
            (λ e.
            subst
            (λ (j : ℕ). names_left (fed book (entry t (locks m))) j ≡ holder_of size (sent tables t (at_mutex m)) j ++ queue (sent tables t (at_mutex m)) (at_mutex j))
            e
            (longer m t h
            ∙ rw (
              b.ordered m h,
              same_holder size (sent tables t (at_mutex m)) tables m (sent_owner tables t (at_mutex m) m),
              queue_joined tables t (at_mutex m) below once (from m h),
            )
            (append_assoc (holder_of size tables m) (queue tables (at_mutex m)) (t ∷ []))))
            (λ e.
            rw (
              named m k e t,
              (locks_rest m t).1,
              same_holder size (sent tables t (at_mutex m)) tables k (sent_owner tables t (at_mutex m) k),
              queue_kept tables t (at_mutex m) (at_mutex k) below (λ i. e (omega (arith, i))) (from k hk),
            )
            (b.ordered k hk));
      }

  -- a count goes up by one
  unlocks_rest : (m t : ℕ) → ((fed book (entry t (unlocks m))).living ≡ book.living)
      × ((fed book (entry t (unlocks m))).names ≡ book.names)
  unfolding fed
  unlocks_rest m t = (refl, refl)

  raised : (m t : ℕ) → (fed book (entry t (unlocks m))).releases m ≡ book.releases m + 1
  unfolding fed
  raised m t = rw (eq-eqb m m refl)

  unraised : (m t k : ℕ) → m ≢ k → (fed book (entry t (unlocks m))).releases k ≡ book.releases k
  unfolding fed
  unraised m t k h = rw (ne_eqb k m (λ e. h (sym e)))

  -- the first name left goes
  shorter : (m t o : ℕ) (rest : List ℕ) → names_left book m ≡ o ∷ rest →
      names_left (fed book (entry t (unlocks m))) m ≡ rest
  shorter m t o rest e =
      rw (raised m t, (unlocks_rest m t).1, ← (drop-drop 1 (book.releases m) (book.names m)))
      (ap (drop 1) e)

  counted_unlock : (m t o : ℕ) (rest : List ℕ) → names_left book m ≡ o ∷ rest → (k : ℕ) → k < mutex_limit size →
      (fed book (entry t (unlocks m))).releases k ≤ length ((fed book (entry t (unlocks m))).names k)
  counted_unlock m t o rest e k h =
      same_or_not m k
      (λ i.
      subst (λ (j : ℕ). (fed book (entry t (unlocks m))).releases j ≤ length ((fed book (entry t (unlocks m))).names j)) i
      (rw (raised m t, (unlocks_rest m t).1) (omega (arith, length-drop (book.releases m) (book.names m), ap length e))))
      (λ i. rw (unraised m t k i, (unlocks_rest m t).1) (b.counted k h))

  -- a mutex that nobody waits for becomes free
  pub booked_freed : (m t o : ℕ) → m < mutex_limit size → m < length tables.owners → owner_of tables m ≡ o → o ≢ size →
      queue tables (at_mutex m) ≡ [] →
      Booked size (owned tables m size) (fed book (entry t (unlocks m)))
  booked_freed m t o h below owner some empty =
      let left : names_left book m ≡ o ∷ [] = b.ordered m h ∙ rw (held size tables m o owner some, empty) in
      record {
        alive = λ s. rw ((unlocks_rest m t).0, owned_places tables m size) (b.alive s);
        counted = counted_unlock m t o [] left;
        ordered =
            λ k hk.
            rw (owned_queue tables m size (at_mutex k))
            (same_or_not m k
            (λ e.
            subst
            (λ (j : ℕ). names_left (fed book (entry t (unlocks m))) j ≡ holder_of size (owned tables m size) j ++ queue tables (at_mutex j))
            e
            (shorter m t o [] left ∙ rw (free size (owned tables m size) m (owned_here tables m size below), empty)))
            (λ e.
            rw (
              unraised m t k e,
              (unlocks_rest m t).1,
              same_holder size (owned tables m size) tables k (owned_there tables m size k (λ i. e (sym i))),
            )
            (b.ordered k hk)));
      }

  -- a mutex goes to its first waiter, who becomes ready
  pub booked_given : (m t o w : ℕ) (rest : List ℕ) → m < mutex_limit size → m < length tables.owners →
      owner_of tables m ≡ o → o ≢ size →
      queue tables (at_mutex m) ≡ w ∷ rest → place_of tables w ≡ at_mutex m → w < length tables.places → count w tables.line ≡ 1 → w ≢ size →
      Booked size (sent (owned tables m w) w ready) (fed book (entry t (unlocks m)))
  booked_given m t o w rest h below owner some waits at inside once real =
      let left : names_left book m ≡ o ∷ w ∷ rest = b.ordered m h ∙ rw (held size tables m o owner some, waits) in
      let next : Tables = owned tables m w in
      let in_next : w < length next.places = rw (owned_places tables m w) inside in
      let once_next : count w next.line ≡ 1 = rw (owned_line tables m w) once in
      let at_next : place_of next w ≡ at_mutex m = rw (owned_places tables m w) at in
      record {
        alive =
            λ s.
            rw (unlocks_rest m t).0
            (b.alive s
            ∙ same_or_not s w
            (λ e. rw (e, at, sent_here next w ready in_next) (lt-ltb ended (at_mutex m) (omega arith)))
            (λ e. rw (sent_there next w ready s e, owned_places tables m w)));
        counted = counted_unlock m t o (w ∷ rest) left;
        ordered =
            λ k hk.
            same_or_not m k
            (λ e.
            subst
            (λ (j : ℕ). names_left (fed book (entry t (unlocks m))) j ≡ holder_of size (sent next w ready) j ++ queue (sent next w ready) (at_mutex j))
            e
            (shorter m t o (w ∷ rest) left
            ∙ rw (
              held size (sent next w ready) m w (sent_owner next w ready m ∙ owned_here tables m w below) real,
              queue_left next w ready (at_mutex m) rest in_next once_next (λ i. omega (arith, i)) (owned_queue tables m w (at_mutex m) ∙ waits),
            )))
            (λ e.
            rw (
              unraised m t k e,
              (unlocks_rest m t).1,
              same_holder size (sent next w ready) tables k (sent_owner next w ready k ∙ owned_there tables m w k (λ i. e (sym i))),
              queue_kept next w ready (at_mutex k) in_next (λ i. omega (arith, i)) (λ i. e (omega (arith, at_next, i))),
              owned_queue tables m w (at_mutex k),
            )
            (b.ordered k hk));
      }
