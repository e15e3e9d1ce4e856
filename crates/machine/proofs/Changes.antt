-- Each change of the tables that instructions are made of keeps them tidy and the book right. Assumes nothing.
use Prim.Native.Nat.{ℕ, ◌+◌, ◌<◌, ◌≤◌}
use mathlib.Core.Path.{◌≡◌, refl, sym, ap, subst, ◌∙◌}
use mathlib.Core.List.{List, [], ◌∷◌}
use mathlib.Core.Logic.{◌≢◌}
use native.Mathlib.Omega.{arith}
use lib.IntN.{ℤ, pos}
use lib.ListN.{length, get_or}
use borrow.Author.Tests.{lt-ltb}
use Rattle.machine.specs.Book.{Book, fed, locks, permitted, unlocks, creates}
use Rattle.machine.specs.Book as event
use Rattle.machine.specs.Lists.{count}
use Rattle.machine.specs.Plain.{Awaited, Frame, SavedFrame, Tidy}
use Rattle.machine.specs.Size.{condition_limit, mutex_limit, semaphore_limit}
use Rattle.machine.specs.Tables.{Tables, active, all_ready, at_condition, at_end, at_mutex, at_semaphore, ended, owned, owner_of, place_of, queue, ready, saved, sent, unlocked, unmade, wake_all, wake_first}
use Rattle.machine.proofs.Booked.{Booked, booked_ended, booked_freed, booked_given, booked_made, booked_permits, booked_same, booked_sent, booked_taken, booked_waits, entry}
use Rattle.machine.proofs.Lists.{less_or_not, same_or_not}
use Rattle.machine.proofs.Moves.{Kempt, awaited_mutex, awaited_same, awaited_semaphore, counts_grow, goes, may_end, may_ready, may_run, may_wait_lem, moved, owner_set, turn_kept, turn_left, turn_started}
use Rattle.machine.proofs.Permits.{Passing, fed_creates, fed_downs, fed_ends, fed_locks, fed_opens, fed_unlocks, fed_ups, passing_down, passing_opened, passing_same, passing_sent, passing_up, passing_waits, passing_woken}
use Rattle.machine.proofs.Queues.{empty_queue, first_at, first_in_line, first_nobody, first_waiter, no_queue, owned_places, owned_queue, queue_left, saved_depth, saved_frame, saved_line, saved_other, saved_owners, saved_pc, saved_places, saved_queue, saved_sizes}

-- a place that is no mutex's and no semaphore's
pub record Aside (size p : ℕ) : Type 0 where
  pub no_mutex : (m : ℕ) → m < mutex_limit size → p ≢ at_mutex m
  pub no_semaphore : (k : ℕ) → k < semaphore_limit size → p ≢ at_semaphore size k

pub aside_ready : {size : ℕ} → Aside size ready
aside_ready = record { no_mutex = λ m h e. omega (arith, e); no_semaphore = λ k h e. omega (arith, e) }

pub aside_condition : {size : ℕ} (c : ℕ) → c < condition_limit size → Aside size (at_condition size c)
aside_condition c limit = record { no_mutex = λ m h e. omega (arith, e); no_semaphore = λ k h e. omega (arith, e) }

pub aside_end : {size : ℕ} (t : ℕ) → Aside size (at_end size t)
aside_end t = record { no_mutex = λ m h e. omega (arith, e); no_semaphore = λ k h e. omega (arith, e) }

-- tables that are kept right, and the book beside them
pub record Both (size threads mutexes conditions semaphores run : ℕ) (tables : Tables) (book : Book) : Type 0 where
  pub kempt : Kempt size threads mutexes conditions semaphores run tables
  pub booked : Booked size tables book
  pub passing : Passing size tables book.permits

module _ {size threads mutexes conditions semaphores run : ℕ} {tables : Tables} {book : Book}
    (b : Both size threads mutexes conditions semaphores run tables book) where
  pub inside : (t : ℕ) → t < size → t < length tables.places
  inside t h = rw b.kempt.sizes.places h

  pub once : (t : ℕ) → t < size → count t tables.line ≡ 1
  once = b.kempt.tidy.line.once

  -- who occurs in the line is a thread of the box
  pub in_line : (t : ℕ) → 0 < count t tables.line → t < size
  in_line t h = less_or_not t size (λ k. k) (λ k. absurd (omega (arith, b.kempt.tidy.line.no_other t k)))

  -- registers are saved of a thread that is in no queue
  pub saves : (t pc cells fp : ℕ) → t < size → place_of tables t < ready → Frame pc cells fp →
      Both size threads mutexes conditions semaphores run (saved tables t pc cells fp) book
  saves t pc cells fp below away f =
      let next : Tables = saved tables t pc cells fp in
      let s = b.kempt.sizes in
      let y = b.kempt.tidy in
      record {
        kempt =
            record {
              sizes = saved_sizes tables t pc cells fp size s;
              tidy =
                  record {
                    counts = y.counts;
                    line = rw (saved_line tables t pc cells fp) y.line;
                    placed =
                        λ u h.
                        let old = y.placed u h in
                        let at : place_of next u ≡ place_of tables u = ap (λ (l : List ℕ). get_or l u 0) (saved_places tables t pc cells fp) in
                        record {
                          not_made = rw (saved_places tables t pc cells fp) old.not_made;
                          is_made = rw (saved_places tables t pc cells fp) old.is_made;
                          only_run = rw (saved_places tables t pc cells fp) old.only_run;
                          awaited = rw at (awaited_same old.awaited next (saved_places tables t pc cells fp) (saved_owners tables t pc cells fp));
                          kept =
                              λ waits.
                              same_or_not u t
                              (λ e.
                              subst (SavedFrame next) (sym e)
                              (rw (
                                saved_pc tables t pc cells fp (rw s.pcs below),
                                saved_depth tables t pc cells fp (rw s.depths below),
                                saved_frame tables t pc cells fp (rw s.frames below),
                              )
                              f))
                              (λ e.
                              let same = saved_other tables t pc cells fp u e in
                              rw (same.0, same.1, same.2) (old.kept (rw (saved_places tables t pc cells fp) at waits)));
                          has_cell =
                              λ w e.
                              same_or_not u t
                              (λ is. absurd (omega (arith, sym at ∙ e, ap (place_of tables) is)))
                              (λ far. rw (saved_other tables t pc cells fp u far).1 (old.has_cell w (sym at ∙ e)));
                        };
                    runner = rw (saved_places tables t pc cells fp) y.runner;
                    holders = rw (saved_owners tables t pc cells fp) y.holders;
                    owners_live = rw (saved_owners tables t pc cells fp, saved_places tables t pc cells fp) y.owners_live;
                  };
            };
        booked = booked_same size tables book b.booked next (saved_places tables t pc cells fp) (saved_owners tables t pc cells fp) (saved_queue tables t pc cells fp);
        passing = passing_same b.passing next (saved_queue tables t pc cells fp);
      }

  -- the thread at the head of a queue
  pub head_below : (q t : ℕ) (rest : List ℕ) → queue tables q ≡ t ∷ rest → t < size
  head_below q t rest e = in_line t (first_in_line tables q t rest e)

  -- nobody is at the place of an empty queue
  pub nobody_at : (q : ℕ) → queue tables q ≡ [] → (s : ℕ) → s < size → place_of tables s ≢ q
  nobody_at q e s h = empty_queue tables q e s (rw (once s h) (omega arith))

  -- a thread at a place past its making has been made
  pub made_at : (t : ℕ) → t < size → unmade < place_of tables t → t < threads
  made_at t h p = less_or_not t threads (λ k. k) (λ k. absurd (omega (arith, (b.kempt.tidy.placed t h).not_made k)))

  -- the running thread leaves for ready, a condition's queue, or another's end
  pub leaves : (p : ℕ) → run ≢ size → ready ≤ p → Aside size p →
      Awaited size threads mutexes conditions semaphores tables p →
      SavedFrame tables run → ((u : ℕ) → p ≡ at_end size u → 1 ≤ get_or tables.depths run 0) →
      Both size threads mutexes conditions semaphores size (sent tables run p) book
  leaves p some high aside w f cell =
      let y = b.kempt.tidy in
      let r = y.runner some in
      let below : run < size = omega (arith, r.0, y.counts.threads_fit) in
      record {
        kempt = goes b.kempt run p size r.0 (turn_left (λ e. omega (arith, e))) (may_wait_lem high w f cell);
        booked =
            booked_sent size tables book b.booked run p (inside run below) aside.no_mutex (λ m h e. omega (arith, r.1, e))
            (rw r.1 (lt-ltb ended p (omega arith)));
        passing = passing_sent b.passing run p (inside run below) aside.no_semaphore (λ k h e. omega (arith, r.1, e));
      }

  -- the running thread waits for a mutex that is owned
  pub waits : (m : ℕ) → run ≢ size → m < mutexes → owner_of tables m ≢ size → SavedFrame tables run →
      Both size threads mutexes conditions semaphores size (sent tables run (at_mutex m)) (fed book (entry run (locks m)))
  waits m some made held f =
      let y = b.kempt.tidy in
      let r = y.runner some in
      let below : run < size = omega (arith, r.0, y.counts.threads_fit) in
      let limit : m < mutex_limit size = omega (arith, y.counts.mutexes_fit) in
      record {
        kempt = goes b.kempt run (at_mutex m) size r.0 (turn_left (λ e. omega (arith, e))) (may_wait_lem (omega arith) (awaited_mutex m limit made held) f (λ u e. absurd (omega (arith, e, limit))));
        booked =
            booked_waits size tables book b.booked m run limit (inside run below) (once run below) (λ k h e. omega (arith, r.1, e))
            (rw r.1);
        passing = rw (fed_locks book run m) (passing_sent b.passing run (at_mutex m) (inside run below) (λ k h e. omega (arith, e)) (λ k h e. omega (arith, r.1, e)));
      }

  -- the first of the ready queue starts, where none runs
  pub starts : (t : ℕ) (rest : List ℕ) → run ≡ size → queue tables ready ≡ t ∷ rest →
      Both size threads mutexes conditions semaphores t (sent tables t active) book
  starts t rest none e =
      let below : t < size = head_below ready t rest e in
      let at : place_of tables t ≡ ready = first_at tables ready t rest e in
      record {
        kempt = goes b.kempt t active t (made_at t below (omega arith)) (turn_started none) may_run;
        booked =
            booked_sent size tables book b.booked t active (inside t below) (λ m h e. omega (arith, e)) (λ m h e. omega (arith, at, e))
            (rw at);
        passing = passing_sent b.passing t active (inside t below) (λ k h e. omega (arith, e)) (λ k h e. omega (arith, at, e));
      }

  -- a thread in a queue doesn't run
  idle_at : (t : ℕ) → t < size → ready ≤ place_of tables t → run ≢ t
  idle_at t below high e = let r = b.kempt.tidy.runner (λ none. omega (arith, e, none)) in let active_too : place_of tables t ≡ active = rw e at r.1 in omega arith

  -- a thread in the queue of a condition, or of a thread's end, becomes ready
  pub wakes : (t q : ℕ) → t < size → place_of tables t ≡ q → ready < q → Aside size q →
      Both size threads mutexes conditions semaphores run (sent tables t ready) book
  wakes t q below at high aside =
      record {
        kempt =
            goes b.kempt t ready run (made_at t below (omega arith)) (turn_kept (idle_at t below (omega arith)) (λ e. omega (arith, e)))
            (may_ready ((b.kempt.tidy.placed t below).kept (omega arith)));
        booked =
            booked_sent size tables book b.booked t ready (inside t below) aside_ready.no_mutex (λ m h e. aside.no_mutex m h (sym at ∙ e))
            (rw at (sym (lt-ltb ended q (omega arith))));
        passing = passing_sent b.passing t ready (inside t below) aside_ready.no_semaphore (λ k h e. aside.no_semaphore k h (sym at ∙ e));
      }

  -- a free mutex is taken by the running thread
  pub takes : (m : ℕ) → run ≢ size → m < mutexes → owner_of tables m ≡ size →
      Both size threads mutexes conditions semaphores run (owned tables m run) (fed book (entry run (locks m)))
  takes m some made none =
      let y = b.kempt.tidy in
      let r = y.runner some in
      let limit : m < mutex_limit size = omega (arith, y.counts.mutexes_fit) in
      let idle : queue tables (at_mutex m) ≡ [] = no_queue tables (at_mutex m) (λ t h e. ((y.placed t (in_line t h)).awaited.for_mutex m limit e).1 none) in
      record {
        kempt = owner_set b.kempt m run made (λ h. (r.0, omega (arith, r.1))) (λ e. absurd (some e));
        booked = booked_taken size tables book b.booked m run limit (rw b.kempt.sizes.owners limit) none idle some;
        passing = rw (fed_locks book run m) (passing_same b.passing (owned tables m run) (owned_queue tables m run));
      }

  -- a mutex that is owned becomes free, or goes to its first waiter
  pub gives : (m t : ℕ) → m < mutexes → owner_of tables m ≢ size →
      Both size threads mutexes conditions semaphores run (unlocked size tables m) (fed book (entry t (unlocks m)))
  gives m t made held = by_queue (queue tables (at_mutex m)) refl
    where
      y : Tidy size threads mutexes conditions semaphores run tables
      y = b.kempt.tidy

      limit : m < mutex_limit size
      limit = omega (arith, y.counts.mutexes_fit, made)

      stored : m < length tables.owners
      stored = rw b.kempt.sizes.owners limit

      by_queue : (l : List ℕ) → queue tables (at_mutex m) ≡ l →
          Both size threads mutexes conditions semaphores run (unlocked size tables m) (fed book (entry t (unlocks m)))
      by_queue [] e =
          rw (first_nobody tables (at_mutex m) e)
          (record {
            kempt = owner_set b.kempt m size made (λ h. absurd (h refl)) (λ same s h. nobody_at (at_mutex m) e s h);
            booked = booked_freed size tables book b.booked m t (owner_of tables m) limit stored refl held e;
            passing = rw (fed_unlocks book t m) (passing_same b.passing (owned tables m size) (owned_queue tables m size));
          })
      by_queue (w ∷ rest) e =
          let below : w < size = head_below (at_mutex m) w rest e in
          let at : place_of tables w ≡ at_mutex m = first_at tables (at_mutex m) w rest e in
          let real : w ≢ size = λ same. omega arith in
          let mine : w < threads = made_at w below (omega arith) in
          let next = owner_set b.kempt m w made (λ h. (mine, omega (arith, at))) (λ same. absurd (real same)) in
          rw (first_waiter tables (at_mutex m) w rest e)
          (record {
            kempt =
                goes next w ready run mine (turn_kept (idle_at w below (omega arith)) (λ k. omega (arith, k)))
                (may_ready ((next.tidy.placed w below).kept (rw (owned_places tables m w, at) (omega arith))));
            booked = booked_given size tables book b.booked m t (owner_of tables m) w rest limit stored refl held e at (inside w below) (once w below) real;
            passing =
                rw (fed_unlocks book t m)
                (passing_sent (passing_same b.passing (owned tables m w) (owned_queue tables m w)) w ready (rw (owned_places tables m w) (inside w below)) aside_ready.no_semaphore
                (λ k h i. omega (arith, ap (λ (l : List ℕ). get_or l w 0) (owned_places tables m w), at, i)));
          })

  -- a thread is made, and is ready
  pub makes : (t : ℕ) → threads < size → SavedFrame tables threads →
      Both size (threads + 1) mutexes conditions semaphores run (sent tables threads ready) (fed book (entry t (creates (pos threads))))
  makes t room f =
      let y = b.kempt.tidy in
      let none : place_of tables threads ≡ unmade = (y.placed threads room).not_made (omega arith) in
      let idle : run ≢ threads = λ same. let r = y.runner (λ out. omega (arith, same, out)) in omega (arith, r.0, same) in
      record {
        kempt =
            moved b.kempt threads ready (threads + 1) run
            (record {
              more = omega arith;
              most = omega arith;
              only_new = λ s h away. less_or_not s threads (λ k. k) (λ k. absurd (away (omega arith)));
              is_made = omega arith;
            })
            (turn_kept idle (λ e. omega (arith, e)))
            (may_ready f);
        booked = booked_made size tables book b.booked threads ready (inside threads room) (λ m h e. omega (arith, e)) (λ m h e. omega (arith, none, e)) (omega arith) t;
        passing = rw (fed_creates book t (pos threads)) (passing_sent b.passing threads ready (inside threads room) aside_ready.no_semaphore (λ k h e. omega (arith, none, e)));
      }

  -- the running thread ends, where nobody waits for it and it owns no mutex
  pub stops : (v : ℤ) → run ≢ size → queue tables (at_end size run) ≡ [] →
      ((m : ℕ) → m < mutex_limit size → owner_of tables m ≢ run) →
      Both size threads mutexes conditions semaphores size (sent tables run ended) (fed book (entry run (event.ends v)))
  stops v some e free =
      let y = b.kempt.tidy in
      let r = y.runner some in
      record {
        kempt = goes b.kempt run ended size r.0 (turn_left (λ k. omega (arith, k))) (may_end (nobody_at (at_end size run) e) free);
        booked = booked_ended size tables book b.booked run v (inside run (omega (arith, r.0, y.counts.threads_fit))) (λ m h k. omega (arith, r.1, k));
        passing =
            rw (fed_ends book run v)
            (passing_sent b.passing run ended (inside run (omega (arith, r.0, y.counts.threads_fit))) (λ k h i. omega (arith, i)) (λ k h i. omega (arith, r.1, i)));
      }

  -- a semaphore is made: nobody waits for it
  pub opens_next : (t n : ℕ) → semaphores < semaphore_limit size →
      Both size threads mutexes conditions (semaphores + 1) run tables (fed book (entry t (event.opens n (pos semaphores))))
  opens_next t n limit =
      let y = b.kempt.tidy in
      let fit = y.counts in
      let idle : queue tables (at_semaphore size semaphores) ≡ [] =
      no_queue tables (at_semaphore size semaphores) (λ u h e. let below = (y.placed u (in_line u h)).awaited.for_semaphore semaphores limit e in omega arith) in
      rw (fed_opens book t n semaphores)
      (record {
        kempt =
            counts_grow b.kempt mutexes conditions (semaphores + 1) (omega arith) (omega arith) (omega arith)
            (record {
              some_thread = fit.some_thread;
              threads_fit = fit.threads_fit;
              mutexes_fit = fit.mutexes_fit;
              conditions_fit = fit.conditions_fit;
              semaphores_fit = omega arith;
            });
        booked = booked_permits size tables book b.booked _;
        passing = passing_opened b.passing semaphores n limit idle;
      })

  module _ (k : ℕ) (made : k < semaphores) where
    limited : k < semaphore_limit size
    limited = omega (arith, b.kempt.tidy.counts.semaphores_fit, made)

    -- up on a semaphore that nobody waits for
    pub raises : (t : ℕ) → queue tables (at_semaphore size k) ≡ [] →
        Both size threads mutexes conditions semaphores run tables (fed book (entry t (event.ups k)))
    raises t none =
        rw (fed_ups book t k)
        (record {
          kempt = b.kempt;
          booked = booked_permits size tables book b.booked _;
          passing = passing_up b.passing k limited none;
        })

    -- up, with the first waiter sent to the ready tail, if there is one
    pub raises_first : (t : ℕ) → Both size threads mutexes conditions semaphores run (wake_first tables (at_semaphore size k)) (fed book (entry t (event.ups k)))
    raises_first t = by_queue (queue tables (at_semaphore size k)) refl
      where
        by_queue : (l : List ℕ) → queue tables (at_semaphore size k) ≡ l →
            Both size threads mutexes conditions semaphores run (wake_first tables (at_semaphore size k)) (fed book (entry t (event.ups k)))
        by_queue [] e = rw (first_nobody tables (at_semaphore size k) e) (raises t e)
        by_queue (w ∷ rest) e =
            let below : w < size = head_below (at_semaphore size k) w rest e in
            let at : place_of tables w ≡ at_semaphore size k = first_at tables (at_semaphore size k) w rest e in
            rw (first_waiter tables (at_semaphore size k) w rest e, fed_ups book t k)
            (record {
              kempt =
                  goes b.kempt w ready run (made_at w below (omega arith)) (turn_kept (idle_at w below (omega arith)) (λ i. omega (arith, i)))
                  (may_ready ((b.kempt.tidy.placed w below).kept (omega arith)));
              booked =
                  booked_permits size _ book
                  (booked_sent size tables book b.booked w ready (inside w below) aside_ready.no_mutex (λ m h i. omega (arith, at, i))
                  (rw at (sym (lt-ltb ended (at_semaphore size k) (omega arith)))))
                  _;
              passing = passing_woken b.passing k w rest limited e at (inside w below) (once w below);
            })

    -- down with a permit
    pub lowers : (t : ℕ) → length (book.permits.downs k) < permitted book k →
        Both size threads mutexes conditions semaphores run tables (fed book (entry t (event.downs k)))
    lowers t room =
        rw (fed_downs book t k)
        (record {
          kempt = b.kempt;
          booked = booked_permits size tables book b.booked _;
          passing = passing_down b.passing k t limited room;
        })

    -- and without: the running thread waits
    pub lowers_waits : run ≢ size → permitted book k ≤ length (book.permits.downs k) → SavedFrame tables run →
        Both size threads mutexes conditions semaphores size (sent tables run (at_semaphore size k)) (fed book (entry run (event.downs k)))
    lowers_waits some full f =
        let y = b.kempt.tidy in
        let r = y.runner some in
        let below : run < size = omega (arith, r.0, y.counts.threads_fit) in
        rw (fed_downs book run k)
        (record {
          kempt = goes b.kempt run (at_semaphore size k) size r.0 (turn_left (λ e. omega (arith, e))) (may_wait_lem (omega arith) (awaited_semaphore k limited made) f (λ u e. absurd (omega (arith, e, limited))));
          booked =
              booked_permits size _ book
              (booked_sent size tables book b.booked run (at_semaphore size k) (inside run below) (λ m h e. omega (arith, e)) (λ m h e. omega (arith, r.1, e))
              (rw r.1 (lt-ltb ended (at_semaphore size k) (omega arith))))
              _;
          passing = passing_waits b.passing k run limited full (inside run below) (once run below) (λ j h e. omega (arith, r.1, e));
        })

-- the first of a queue that is no mutex's and no semaphore's becomes ready, if there is one
pub wakes_first : {size threads mutexes conditions semaphores run : ℕ} {tables : Tables} {book : Book} →
    Both size threads mutexes conditions semaphores run tables book →
    (q : ℕ) → ready < q → Aside size q → Both size threads mutexes conditions semaphores run (wake_first tables q) book
wakes_first {size} {threads} {mutexes} {conditions} {semaphores} {run} {tables} {book} b q high aside = by_queue (queue tables q) refl
  where
    by_queue : (l : List ℕ) → queue tables q ≡ l →
        Both size threads mutexes conditions semaphores run (wake_first tables q) book
    by_queue [] e = rw (first_nobody tables q e) b
    by_queue (t ∷ rest) e = rw (first_waiter tables q t rest e) (wakes b t q (head_below b q t rest e) (first_at tables q t rest e) high aside)

-- all of such a queue become ready, and it is empty
wake_list : {size threads mutexes conditions semaphores run : ℕ} {book : Book} (l : List ℕ) (tables : Tables) →
    Both size threads mutexes conditions semaphores run tables book →
    (q : ℕ) → ready < q → Aside size q → queue tables q ≡ l →
    Both size threads mutexes conditions semaphores run (all_ready l tables) book × (queue (all_ready l tables) q ≡ [])
unfolding all_ready
wake_list [] tables b q high aside e = (b, e)
wake_list (t ∷ rest) tables b q high aside e =
    let below = head_below b q t rest e in
    wake_list rest (sent tables t ready) (wakes b t q below (first_at tables q t rest e) high aside) q high aside
    (queue_left tables t ready q rest (inside b t below) (once b t below) (λ k. omega (arith, k)) e)

pub wakes_all : {size threads mutexes conditions semaphores run : ℕ} {tables : Tables} {book : Book} →
    Both size threads mutexes conditions semaphores run tables book →
    (q : ℕ) → ready < q → Aside size q →
    Both size threads mutexes conditions semaphores run (wake_all tables q) book × (queue (wake_all tables q) q ≡ [])
wakes_all {tables = tables} b q high aside = wake_list (queue tables q) tables b q high aside refl
