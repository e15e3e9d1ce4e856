-- The tables stay tidy over each move of a thread, a mutex's new owner, and more counts. Assumes nothing.
use Prim.Native.Nat.{ℕ, ◌<◌, ◌≤◌}
use mathlib.Core.Path.{◌≡◌, refl, sym, ap, subst, ◌∙◌}
use mathlib.Core.List.{List}
use mathlib.Core.Logic.{◌⊎◌, ◌≢◌, inl, inr, ⊎_elim}
use native.Mathlib.Omega.{arith}
use lib.ListN.{length, get_or}
use Rattle.machine.specs.Plain.{Awaited, Counts, Placed, SavedFrame, Tidy}
use Rattle.machine.specs.Size.{condition_limit, mutex_limit, semaphore_limit}
use Rattle.machine.specs.Tables.{Tables, active, at_condition, at_end, at_mutex, at_semaphore, ended, owned, owner_of, place_of, ready, sent}
use Rattle.machine.proofs.Lists.{same_or_not}
use Rattle.machine.proofs.Queues.{Sizes, owned_here, owned_line, owned_places, owned_saved, owned_sizes, owned_there, sent_count, sent_here, sent_owner, sent_saved, sent_sizes, sent_there}

-- ---- what the places ask where a thread waits there

module _ {size threads mutexes conditions semaphores : ℕ} {tables : Tables} where
  -- at the places up to the ready queue's nobody waits for anything
  pub awaited_low : (p : ℕ) → p ≤ ready → Awaited size threads mutexes conditions semaphores tables p
  awaited_low p low =
      record {
        for_mutex = λ m h e. absurd (omega (arith, e));
        for_condition = λ c h e. absurd (omega (arith, e));
        for_semaphore = λ k h e. absurd (omega (arith, e));
        for_end = λ u e. absurd (omega (arith, e));
      }

  pub awaited_mutex : (m : ℕ) → m < mutex_limit size → m < mutexes → owner_of tables m ≢ size →
      Awaited size threads mutexes conditions semaphores tables (at_mutex m)
  awaited_mutex m limit made held =
      record {
        for_mutex = λ k h e. let same : m ≡ k = omega (arith, e) in (rw (← same) made, rw (← same) held);
        for_condition = λ c h e. absurd (omega (arith, e, limit));
        for_semaphore = λ k h e. absurd (omega (arith, e, limit));
        for_end = λ u e. absurd (omega (arith, e, limit));
      }

  pub awaited_condition : (c : ℕ) → c < condition_limit size → c < conditions →
      Awaited size threads mutexes conditions semaphores tables (at_condition size c)
  awaited_condition c limit made =
      record {
        for_mutex = λ m h e. absurd (omega (arith, e));
        for_condition = λ k h e. let same : c ≡ k = omega (arith, e) in rw (← same) made;
        for_semaphore = λ k h e. absurd (omega (arith, e, limit));
        for_end = λ u e. absurd (omega (arith, e, limit));
      }

  pub awaited_semaphore : (k : ℕ) → k < semaphore_limit size → k < semaphores →
      Awaited size threads mutexes conditions semaphores tables (at_semaphore size k)
  awaited_semaphore k limit made =
      record {
        for_mutex = λ m h e. absurd (omega (arith, e));
        for_condition = λ c h e. absurd (omega (arith, e));
        for_semaphore = λ j h e. let same : k ≡ j = omega (arith, e) in rw (← same) made;
        for_end = λ u e. absurd (omega (arith, e, limit));
      }

  pub awaited_end : (t : ℕ) → t < threads → place_of tables t ≢ ended →
      Awaited size threads mutexes conditions semaphores tables (at_end size t)
  awaited_end t made lives =
      record {
        for_mutex = λ m h e. absurd (omega (arith, e));
        for_condition = λ c h e. absurd (omega (arith, e));
        for_semaphore = λ k h e. absurd (omega (arith, e));
        for_end = λ u e. let same : t ≡ u = omega (arith, e) in (rw (← same) made, rw (← same) lives);
      }

  module _ {p : ℕ} (w : Awaited size threads mutexes conditions semaphores tables p) where
    -- more is made
    pub awaited_more : (threads' mutexes' conditions' semaphores' : ℕ) → threads ≤ threads' → mutexes ≤ mutexes' →
        conditions ≤ conditions' → semaphores ≤ semaphores' →
        Awaited size threads' mutexes' conditions' semaphores' tables p
    awaited_more threads' mutexes' conditions' semaphores' more more_m more_c more_s =
        record {
          for_mutex = λ m h e. let was = w.for_mutex m h e in (omega (arith, was.0), was.1);
          for_condition = λ c h e. omega (arith, w.for_condition c h e);
          for_semaphore = λ k h e. omega (arith, w.for_semaphore k h e);
          for_end = λ u e. let was = w.for_end u e in (omega (arith, was.0), was.1);
        }

    -- a thread goes elsewhere, and doesn't end where its end is waited for
    pub awaited_sent : (t q : ℕ) → t < length tables.places → (q ≡ ended → p ≢ at_end size t) →
        Awaited size threads mutexes conditions semaphores (sent tables t q) p
    awaited_sent t q below lives =
        record {
          for_mutex = λ m h e. rw (sent_owner tables t q m) (w.for_mutex m h e);
          for_condition = w.for_condition;
          for_semaphore = w.for_semaphore;
          for_end =
              λ u e.
              let was = w.for_end u e in (
                was.0,
                same_or_not u t
                    (λ is stop. lives (sym (sent_here tables t q below) ∙ ap (place_of (sent tables t q)) (sym is) ∙ stop) (e ∙ ap (at_end size) is))
                    (λ far stop. was.1 (sym (sent_there tables t q u far) ∙ stop)),
              );
        }

    -- tables with the same places and owners
    pub awaited_same : (next : Tables) → next.places ≡ tables.places → next.owners ≡ tables.owners →
        Awaited size threads mutexes conditions semaphores next p
    awaited_same next places owners =
        record { for_mutex = rw owners w.for_mutex; for_condition = w.for_condition; for_semaphore = w.for_semaphore; for_end = rw places w.for_end }

    -- a mutex gets another owner, or none where nobody waits for it
    pub awaited_owned : (m o : ℕ) → m < length tables.owners → (o ≡ size → p ≢ at_mutex m) →
        Awaited size threads mutexes conditions semaphores (owned tables m o) p
    awaited_owned m o below wanted =
        record {
          for_mutex =
              λ j h e.
              let was = w.for_mutex j h e in (
                was.0,
                same_or_not j m
                    (λ is none. wanted (sym (owned_here tables m o below) ∙ ap (owner_of (owned tables m o)) (sym is) ∙ none) (e ∙ ap at_mutex is))
                    (λ far. rw (owned_there tables m o j far) was.1),
              );
          for_condition = w.for_condition;
          for_semaphore = w.for_semaphore;
          for_end = λ u e. rw (owned_places tables m o) (w.for_end u e);
        }

-- ---- the moves of a thread

-- who runs when thread t goes to place p: run before, and run' afterwards
pub record Turn (size run t p run' : ℕ) : Type 0 where
  pub to_run : p ≡ active → t ≡ run'
  pub others : (s : ℕ) → s < size → s ≢ t → s ≡ run → s ≡ run'
  pub runner : run' ≢ size → ((run' ≡ t) × (p ≡ active)) ⊎ ((run' ≡ run) × (run ≢ t))

-- the running thread leaves, and none runs
pub turn_left : {size run p : ℕ} → p ≢ active → Turn size run run p size
turn_left away = record { to_run = λ e. absurd (away e); others = λ s h far e. absurd (far e); runner = λ h. absurd (h refl) }

-- where none ran, the thread does
pub turn_started : {size run t : ℕ} → run ≡ size → Turn size run t active t
turn_started none = record { to_run = λ e. refl; others = λ s h far e. absurd (omega (arith, e, none)); runner = λ h. inl (refl, refl) }

-- a thread that doesn't run goes elsewhere
pub turn_kept : {size run t p : ℕ} → run ≢ t → p ≢ active → Turn size run t p run
turn_kept idle away = record { to_run = λ e. absurd (away e); others = λ s h far e. e; runner = λ h. inr (refl, idle) }

-- thread t may go to place p
pub record May (size threads mutexes conditions semaphores : ℕ) (tables : Tables) (t p : ℕ) : Type 0 where
  pub somewhere : 0 < p
  pub awaited : Awaited size threads mutexes conditions semaphores tables p
  -- it ends only where nobody waits for that and it owns nothing
  pub to_ended : p ≡ ended → ((s : ℕ) → s < size → place_of tables s ≢ at_end size t)
      × ((m : ℕ) → m < mutex_limit size → owner_of tables m ≢ t)
  pub has_frame : ready ≤ p → SavedFrame tables t
  -- it waits for another's end only with a cell on its stack
  pub has_cell : (u : ℕ) → p ≡ at_end size u → 1 ≤ get_or tables.depths t 0

module _ {size threads mutexes conditions semaphores : ℕ} {tables : Tables} {t : ℕ} where
  -- to the ready queue or another, its registers saved
  pub may_wait_lem : {p : ℕ} → ready ≤ p → Awaited size threads mutexes conditions semaphores tables p →
      SavedFrame tables t → ((u : ℕ) → p ≡ at_end size u → 1 ≤ get_or tables.depths t 0) →
      May size threads mutexes conditions semaphores tables t p
  may_wait_lem high w f cell = record { somewhere = omega arith; awaited = w; to_ended = λ e. absurd (omega (arith, e)); has_frame = λ h. f; has_cell = cell }

  pub may_ready : SavedFrame tables t → May size threads mutexes conditions semaphores tables t ready
  may_ready f = may_wait_lem (omega arith) (awaited_low ready (omega arith)) f (λ u e. absurd (omega (arith, e)))

  pub may_run : May size threads mutexes conditions semaphores tables t active
  may_run =
      record {
        somewhere = omega arith;
        awaited = awaited_low active (omega arith);
        to_ended = λ e. absurd (omega (arith, e));
        has_frame = λ h. absurd (omega (arith, h));
        has_cell = λ u e. absurd (omega (arith, e));
      }

  pub may_end : ((s : ℕ) → s < size → place_of tables s ≢ at_end size t) →
      ((m : ℕ) → m < mutex_limit size → owner_of tables m ≢ t) →
      May size threads mutexes conditions semaphores tables t ended
  may_end unawaited free =
      record {
        somewhere = omega arith;
        awaited = awaited_low ended (omega arith);
        to_ended = λ e. (unawaited, free);
        has_frame = λ h. absurd (omega (arith, h));
        has_cell = λ u e. absurd (omega (arith, e));
      }

-- so many threads are made afterwards: t, and no other that wasn't
pub record Makes (size threads t threads' : ℕ) : Type 0 where
  pub more : threads ≤ threads'
  pub most : threads' ≤ size
  pub only_new : (s : ℕ) → s < threads' → s ≢ t → s < threads
  pub is_made : t < threads'

-- tables of the box's sizes, and tidy
pub record Kempt (size threads mutexes conditions semaphores run : ℕ) (tables : Tables) : Type 0 where
  pub sizes : Sizes size tables
  pub tidy : Tidy size threads mutexes conditions semaphores run tables

module _ {size threads mutexes conditions semaphores run : ℕ} {tables : Tables}
    (k : Kempt size threads mutexes conditions semaphores run tables) where
  module _ (t p threads' run' : ℕ) (made : Makes size threads t threads') (turn : Turn size run t p run')
      (may : May size threads mutexes conditions semaphores tables t p) where
    inside : t < length tables.places
    inside = rw k.sizes.places (omega (arith, made.is_made, made.most))

    here : place_of (sent tables t p) t ≡ p
    here = sent_here tables t p inside

    there : (s : ℕ) → s ≢ t → place_of (sent tables t p) s ≡ place_of tables s
    there = sent_there tables t p

    -- what is waited for at a place, and what is saved of a thread, is so afterwards
    waits : {q : ℕ} → Awaited size threads mutexes conditions semaphores tables q → (p ≡ ended → q ≢ at_end size t) →
        Awaited size threads' mutexes conditions semaphores (sent tables t p) q
    waits w lives = awaited_sent (awaited_more w threads' mutexes conditions semaphores made.more (omega arith) (omega arith) (omega arith)) t p inside lives

    frames : (s : ℕ) → SavedFrame tables s → SavedFrame (sent tables t p) s
    frames s f = let same = sent_saved tables t p in rw (same.0, same.1, same.2) f

    itself : Placed size threads' mutexes conditions semaphores run' (sent tables t p) t
    itself =
        record {
          not_made = λ h. absurd (omega (arith, made.is_made));
          is_made = λ h. rw here may.somewhere;
          only_run = λ e. turn.to_run (sym here ∙ e);
          awaited = rw here (waits may.awaited (λ stop e. omega (arith, stop, e)));
          kept = λ h. frames t (may.has_frame (rw here at h));
          has_cell = λ u e. rw (sent_saved tables t p).1 (may.has_cell u (sym here ∙ e));
        }

    other : (s : ℕ) → s < size → s ≢ t → Placed size threads' mutexes conditions semaphores run' (sent tables t p) s
    other s below away =
        let old = k.tidy.placed s below in
        let stays = there s away in
        record {
          not_made = λ h. stays ∙ old.not_made (omega (arith, made.more));
          is_made = λ h. rw stays (old.is_made (made.only_new s h away));
          only_run = λ e. turn.others s below away (old.only_run (sym stays ∙ e));
          awaited = rw stays (waits old.awaited (λ stop. (may.to_ended stop).0 s below));
          kept = λ h. frames s (old.kept (rw stays at h));
          has_cell = λ u e. rw (sent_saved tables t p).1 (old.has_cell u (sym stays ∙ e));
        }

    pub moved : Kempt size threads' mutexes conditions semaphores run' (sent tables t p)
    moved =
        record {
          sizes = sent_sizes tables t p size k.sizes;
          tidy =
              record {
                counts =
                    record {
                      some_thread = omega (arith, k.tidy.counts.some_thread, made.more);
                      threads_fit = made.most;
                      mutexes_fit = k.tidy.counts.mutexes_fit;
                      conditions_fit = k.tidy.counts.conditions_fit;
                      semaphores_fit = k.tidy.counts.semaphores_fit;
                    };
                line =
                    record {
                      once = λ s h. sent_count tables t p s ∙ k.tidy.line.once s h;
                      no_other = λ s h. sent_count tables t p s ∙ k.tidy.line.no_other s h;
                    };
                placed = λ s h. same_or_not s t (λ e. subst (Placed size threads' mutexes conditions semaphores run' (sent tables t p)) (sym e) itself) (other s h);
                runner =
                    λ h.
                    ⊎_elim
                    (λ now. let at : place_of (sent tables t p) run' ≡ active = ap (place_of (sent tables t p)) now.0 ∙ here ∙ now.1 in (omega (arith, now.0, made.is_made), at))
                    (λ old.
                    let was = k.tidy.runner (λ e. h (old.0 ∙ e)) in
                    let at : place_of (sent tables t p) run' ≡ active = ap (place_of (sent tables t p)) old.0 ∙ there run old.1 ∙ was.1 in
                    (omega (arith, old.0, was.0, made.more), at))
                    (turn.runner h);
                holders =
                    λ m h e.
                    let was = k.tidy.holders m h (λ free. e (sent_owner tables t p m ∙ free)) in
                    (was.0, rw (sent_owner tables t p m) (omega (arith, was.1, made.more)));
                owners_live =
                    λ m h e.
                    rw (sent_owner tables t p m)
                    (same_or_not (owner_of tables m) t
                    (λ is. rw (is, here) (same_or_not p ended (λ stop. absurd ((may.to_ended stop).1 m h is)) (λ goes. omega (arith, may.somewhere))))
                    (λ away. rw (there (owner_of tables m) away) (k.tidy.owners_live m h (λ free. e (sent_owner tables t p m ∙ free)))));
              };
        }

  -- a thread that was made goes to a place
  pub goes : (t p run' : ℕ) → t < threads → Turn size run t p run' →
      May size threads mutexes conditions semaphores tables t p →
      Kempt size threads mutexes conditions semaphores run' (sent tables t p)
  goes t p run' made = moved t p threads run' (record { more = omega arith; most = k.tidy.counts.threads_fit; only_new = λ s h away. h; is_made = made })

-- a mutex that was made gets a live thread as its owner; or none, where nobody waits for it
pub owner_set : {size threads mutexes conditions semaphores run : ℕ} {tables : Tables} →
    Kempt size threads mutexes conditions semaphores run tables →
    (m o : ℕ) → m < mutexes → (o ≢ size → (o < threads) × (ended < place_of tables o)) → (o ≡ size → (t : ℕ) → t < size → place_of tables t ≢ at_mutex m) →
    Kempt size threads mutexes conditions semaphores run (owned tables m o)
owner_set {size} {threads} {mutexes} {conditions} {semaphores} {run} {tables} k m o made real unwanted =
    let y = k.tidy in
    let next : Tables = owned tables m o in
    let limit : m < mutex_limit size = omega (arith, y.counts.mutexes_fit) in
    let here : owner_of next m ≡ o = owned_here tables m o (rw k.sizes.owners limit) in
    let same : next.places ≡ tables.places = owned_places tables m o in
    let saves = owned_saved tables m o in
    record {
      sizes = owned_sizes tables m o size k.sizes;
      tidy =
          record {
            counts = y.counts;
            line = rw (owned_line tables m o) y.line;
            placed =
                λ t h.
                let old = y.placed t h in
                let at : place_of next t ≡ place_of tables t = ap (λ (l : List ℕ). get_or l t 0) same in
                record {
                  not_made = rw same old.not_made;
                  is_made = rw same old.is_made;
                  only_run = rw same old.only_run;
                  awaited = rw at (awaited_owned old.awaited m o (rw k.sizes.owners limit) (λ none. unwanted none t h));
                  kept = rw (same, saves.0, saves.1, saves.2) old.kept;
                  has_cell = rw (same, saves.1) old.has_cell;
                };
            runner = rw same y.runner;
            holders =
                λ j hj e.
                same_or_not j m
                (λ i.
                let who : owner_of next j ≡ o = ap (owner_of next) i ∙ here in
                (rw i made, rw who (real (λ none. e (who ∙ none))).0))
                (λ i.
                let stays = owned_there tables m o j i in
                let was = y.holders j hj (λ none. e (stays ∙ none)) in
                (was.0, rw stays was.1));
            owners_live =
                λ j hj e.
                same_or_not j m
                (λ i. let who : owner_of next j ≡ o = ap (owner_of next) i ∙ here in rw (who, same) (real (λ none. e (who ∙ none))).1)
                (λ i. let stays = owned_there tables m o j i in rw (stays, same) (y.owners_live j hj (λ none. e (stays ∙ none))));
          };
    }

-- more mutexes, conditions or semaphores were made
pub counts_grow : {size threads mutexes conditions semaphores run : ℕ} {tables : Tables} →
    Kempt size threads mutexes conditions semaphores run tables →
    (mutexes' conditions' semaphores' : ℕ) → mutexes ≤ mutexes' → conditions ≤ conditions' → semaphores ≤ semaphores' →
    Counts size threads mutexes' conditions' semaphores' → Kempt size threads mutexes' conditions' semaphores' run tables
counts_grow {threads = threads} k mutexes' conditions' semaphores' more more_c more_s counts =
    let y = k.tidy in
    record {
      sizes = k.sizes;
      tidy =
          record {
            counts = counts;
            line = y.line;
            placed =
                λ t h.
                let old = y.placed t h in
                record {
                  not_made = old.not_made;
                  is_made = old.is_made;
                  only_run = old.only_run;
                  awaited = awaited_more old.awaited threads mutexes' conditions' semaphores' (omega arith) more more_c more_s;
                  kept = old.kept;
                  has_cell = old.has_cell;
                };
            runner = y.runner;
            holders = λ m hm e. let was = y.holders m hm e in (omega (arith, was.0), was.1);
            owners_live = y.owners_live;
          };
    }
