-- What holds of a machine between instructions, beside its book; and that Next, blocking and ending keep it. Assumes nothing.
use Prim.Native.Nat.{ℕ, ◌+◌, ◌<◌, ◌≤◌}
use mathlib.Core.Path.{◌≡◌, refl, subst, ◌∙◌}
use mathlib.Core.Bool.{Bool, true, false, cond}
use mathlib.Core.List.{List, [], ◌∷◌}
use mathlib.Core.Logic.{◌≢◌}
use native.Mathlib.Omega.{arith}
use lib.IntN.{ℤ, pos, ◌-ℤ◌}
use lib.ListN.{get_or, length, set, length-set}
use borrow.Author.Tests.{eqb-false, ltb-true, ltb-false}
use Rattle.machine.specs.Book.{Book, fed, permitted}
use Rattle.machine.specs.Book as event
use Rattle.machine.specs.Plain.{Awaited, Fault, Frame, Mode, SavedFrame}
use Rattle.machine.specs.Registers.{halted, nobody, running, stuck, with_state}
use Rattle.machine.specs.Size.{condition_limit, mutex_limit, semaphore_limit, shared, store_size, values_size}
use Rattle.machine.specs.State.{State, blocked, delivered, ends, finished, left, next, next_of, saved_top, semaphore_count, with_count, with_regs, with_tables}
use Rattle.machine.specs.Tables.{Tables, any_live, at_condition, at_end, at_mutex, at_semaphore, first, lives, owner_of, owns_any, place_of, queue, ready, saved, sent, unlocked}
use Rattle.machine.proofs.Booked.{entry}
use Rattle.machine.proofs.Changes.{Aside, Both, aside_condition, aside_end, gives, head_below, leaves, lowers_waits, nobody_at, saves, starts, stops, waits, wakes_all}
use Rattle.machine.proofs.Every.{some_false, some_true}
use Rattle.machine.proofs.Moves.{awaited_condition, awaited_same}
use Rattle.machine.proofs.Permits.{Counted, counted_downed, counted_result, fed_downs, fed_ends, fed_locks, fed_unlocks}
use Rattle.machine.proofs.Queues.{first_at, first_nobody, first_waiter, saved_depth, saved_frame, saved_owners, saved_pc, saved_places, sent_owner, woken_owner}

-- the tables and the book, the registers' ranges, and the sizes of what is lent
pub record Steady (size : ℕ) (s : State) (book : Book) : Type 0 where
  pub both : Both size s.regs.threads s.regs.mutexes s.regs.conditions s.regs.semaphores s.regs.thread s.tables book
  pub frame : Frame s.regs.pc s.regs.cells s.regs.fp
  pub free_least : 1 ≤ s.regs.free
  pub free_most : s.regs.free ≤ shared size
  pub stored : length s.store ≡ store_size size
  pub valued : length s.values ≡ values_size size
  pub counted : Counted size s.values s.regs.semaphores book.permits

-- and the machine's state
pub record Right (size : ℕ) (s : State) (book : Book) : Type 0 where
  pub steady : Steady size s book
  pub mode : Mode size s.regs.state s.regs.thread s.tables
  pub number : Fault s.regs.state s.regs.fault

-- a machine whose state says running, with no fault: also while a thread has left and none runs yet
pub record Marked (s : State) : Type 0 where
  pub runs : s.regs.state ≡ running
  pub sound : s.regs.fault ≡ 0

-- with a running thread, such a machine is right
pub active_right : (size : ℕ) (s : State) (book : Book) → Steady size s book → Marked s → s.regs.thread ≢ size →
    Right size s book
active_right size s book y m some =
    record {
      steady = y;
      mode =
          record {
            known = omega (arith, m.runs);
            has_thread = λ e. some;
            fault_thread = λ e. some;
            stuck_none = λ e. absurd (omega (arith, e, m.runs));
            stuck_unready = λ e. absurd (omega (arith, e, m.runs));
            stuck_lives = λ e. absurd (omega (arith, e, m.runs));
            halted_empty = λ e. absurd (omega (arith, e, m.runs));
          };
      number =
          record {
            listed = λ e. absurd (omega (arith, e, m.runs));
            none = λ e. m.sound;
          };
    }

-- an instruction that was carried out leaves a right machine with no fault
pub record Landed (size : ℕ) (s : State) (book : Book) : Type 0 where
  pub right : Right size s book
  pub sound : s.regs.fault ≡ 0

pub active_landed : (size : ℕ) (s : State) (book : Book) → Steady size s book → Marked s → s.regs.thread ≢ size →
    Landed size s book
active_landed size s book y m some = record { right = active_right size s book y m some; sound = m.sound }

-- Next, where a thread has left
pub next_right : (size : ℕ) (s : State) (book : Book) → Steady size s book → Marked s → s.regs.thread ≡ size →
    Landed size (next size s) book
unfolding next any_live
next_right size s book y m none = by_queue (queue s.tables ready) refl
  where
    after : Bool → State
    after b = with_regs s (with_state s.regs (cond b stuck halted) (nobody size))

    still_steady : (b : Bool) → Steady size (after b) book
    still_steady b =
        record {
          both = subst (λ (r : ℕ). Both size s.regs.threads s.regs.mutexes s.regs.conditions s.regs.semaphores r s.tables book) none y.both;
          frame = y.frame;
          free_least = y.free_least;
          free_most = y.free_most;
          stored = y.stored;
          valued = y.valued;
          counted = y.counted;
        }

    by_life : queue s.tables ready ≡ [] → (b : Bool) → any_live size s.tables ≡ b → Landed size (after b) book
    by_life e true l =
        let who = some_true size (lives s.tables) l in
        record {
          sound = m.sound;
          right = record {
            steady = still_steady true;
            mode =
                record {
                  known = omega arith;
                  has_thread = λ k. absurd (omega (arith, k));
                  fault_thread = λ k. absurd (omega (arith, k));
                  stuck_none = λ k. refl;
                  stuck_unready = λ k t h. nobody_at y.both ready e t h;
                  stuck_lives = λ k. record { who = who.which; there = who.less; alive = ltb-true _ _ who.passes };
                  halted_empty = λ k. absurd (omega (arith, k));
                };
            number = record { listed = λ k. absurd (omega (arith, k)); none = λ k. m.sound };
          };
        }
    by_life e false l =
        record {
          sound = m.sound;
          right = record {
            steady = still_steady false;
            mode =
                record {
                  known = omega arith;
                  has_thread = λ k. absurd (omega (arith, k));
                  fault_thread = λ k. absurd (omega (arith, k));
                  stuck_none = λ k. refl;
                  stuck_unready = λ k. absurd (omega (arith, k));
                  stuck_lives = λ k. absurd (omega (arith, k));
                  halted_empty = λ k h t below. ltb-false _ _ (some_false size (lives s.tables) l t below);
                };
            number = record { listed = λ k. absurd (omega (arith, k)); none = λ k. m.sound };
          };
        }

    by_queue : (l : List ℕ) → queue s.tables ready ≡ l → Landed size (next_of size (first s.tables ready) s) book
    by_queue [] e = rw (first_nobody s.tables ready e) (by_life e (any_live size s.tables) refl)
    by_queue (t ∷ rest) e =
        let b = starts y.both t rest none e in
        let below : t < size = head_below y.both ready t rest e in
        let at : place_of s.tables t ≡ ready = first_at s.tables ready t rest e in
        rw (first_waiter s.tables ready t rest e)
        (active_landed size _ book
        (record {
          both = b;
          frame = (y.both.kempt.tidy.placed t below).kept (omega arith);
          free_least = y.free_least;
          free_most = y.free_most;
          stored = y.stored;
          valued = y.valued;
          counted = y.counted;
        })
        (record { runs = m.runs; sound = m.sound })
        (λ k. omega arith))

-- delivery writes cells of the store, and adds none
pub delivered_length : (size : ℕ) (tables : Tables) (v : ℤ) (l : List ℕ) (store : List ℤ) →
    length (delivered size tables v l store) ≡ length store
unfolding delivered
delivered_length size tables v [] store = refl
delivered_length size tables v (t ∷ rest) store =
    delivered_length size tables v rest (set store (saved_top size tables t) v) ∙ length-set store (saved_top size tables t) v

-- a running machine: a thread runs, and the state says so
pub record Runs (size : ℕ) (s : State) (book : Book) : Type 0 where
  pub steady : Steady size s book
  pub marked : Marked s
  pub some : s.regs.thread ≢ size

module _ (size : ℕ) (s : State) (book : Book) (y : Runs size s book) where
  kept : Tables
  kept = saved s.tables s.regs.thread s.regs.pc s.regs.cells s.regs.fp

  below : s.regs.thread < size
  below = let t = y.steady.both.kempt.tidy in omega (arith, (t.runner y.some).0, t.counts.threads_fit)

  -- its registers are saved
  saved_both : Both size s.regs.threads s.regs.mutexes s.regs.conditions s.regs.semaphores s.regs.thread kept book
  unfolding kept
  saved_both = saves y.steady.both s.regs.thread s.regs.pc s.regs.cells s.regs.fp below (omega (arith, (y.steady.both.kempt.tidy.runner y.some).1)) y.steady.frame

  saved_here : SavedFrame kept s.regs.thread
  unfolding kept
  saved_here =
      let z = y.steady.both.kempt.sizes in
      rw (
        saved_pc s.tables s.regs.thread s.regs.pc s.regs.cells s.regs.fp (rw z.pcs below),
        saved_depth s.tables s.regs.thread s.regs.pc s.regs.cells s.regs.fp (rw z.depths below),
        saved_frame s.tables s.regs.thread s.regs.pc s.regs.cells s.regs.fp (rw z.frames below),
      )
      y.steady.frame

  same_depth : get_or kept.depths s.regs.thread 0 ≡ s.regs.cells
  unfolding kept
  same_depth = saved_depth s.tables s.regs.thread s.regs.pc s.regs.cells s.regs.fp (rw y.steady.both.kempt.sizes.depths below)

  same_places : kept.places ≡ s.tables.places
  unfolding kept
  same_places = saved_places s.tables s.regs.thread s.regs.pc s.regs.cells s.regs.fp

  same_owners : kept.owners ≡ s.tables.owners
  unfolding kept
  same_owners = saved_owners s.tables s.regs.thread s.regs.pc s.regs.cells s.regs.fp

  -- what stays of the machine when its thread has left, with the values that it leaves
  gone_on : (p : ℕ) (values : List ℤ) (book' : Book) → length values ≡ values_size size →
      Counted size values s.regs.semaphores book'.permits →
      Both size s.regs.threads s.regs.mutexes s.regs.conditions s.regs.semaphores size (sent kept s.regs.thread p) book' →
      Steady size (left size (record { store = s.store; tables = s.tables; values = values; regs = s.regs }) p) book'
  unfolding left kept
  gone_on p values book' valued counted b =
      record {
        both = b;
        frame = y.steady.frame;
        free_least = y.steady.free_least;
        free_most = y.steady.free_most;
        stored = y.steady.stored;
        valued = valued;
        counted = counted;
      }

  -- what a place asks where a thread waits there
  abbrev pub Waits : ℕ → Type 0
  Waits p = Awaited size s.regs.threads s.regs.mutexes s.regs.conditions s.regs.semaphores s.tables p

  -- the thread leaves for a place that is no mutex's and no semaphore's
  pub left_steady : (p : ℕ) → ready ≤ p → Aside size p → Waits p →
      ((u : ℕ) → p ≡ at_end size u → 1 ≤ s.regs.cells) → Steady size (left size s p) book
  left_steady p high aside w cell =
      gone_on p s.values book y.steady.valued y.steady.counted
      (leaves saved_both p y.some high aside (awaited_same w kept same_places same_owners) saved_here (λ u e. rw same_depth (cell u e)))

  pub left_marked : (p : ℕ) → Marked (left size s p)
  unfolding left
  left_marked p = record { runs = y.marked.runs; sound = y.marked.sound }

  pub left_none : (p : ℕ) → (left size s p).regs.thread ≡ size
  unfolding left
  left_none p = refl

  -- "wait in its queue, then Next", for ready, a condition or a thread's end
  pub blocked_right : (p : ℕ) → ready ≤ p → Aside size p → Waits p →
      ((u : ℕ) → p ≡ at_end size u → 1 ≤ s.regs.cells) → Landed size (blocked size s p) book
  blocked_right p high aside w cell = next_right size (left size s p) book (left_steady p high aside w cell) (left_marked p) (left_none p)

  -- for a mutex, which feeds the book
  pub lock_blocked : (m : ℕ) → m < s.regs.mutexes → owner_of s.tables m ≢ size →
      Landed size (blocked size s (at_mutex m)) (fed book (entry s.regs.thread (event.locks m)))
  lock_blocked m made held =
      next_right size (left size s (at_mutex m)) (fed book (entry s.regs.thread (event.locks m)))
      (gone_on (at_mutex m) s.values (fed book (entry s.regs.thread (event.locks m))) y.steady.valued (rw (fed_locks book s.regs.thread m) y.steady.counted)
      (waits saved_both m y.some made (rw same_owners held) saved_here))
      (left_marked (at_mutex m))
      (left_none (at_mutex m))

  -- for a semaphore, whose count is lowered, which feeds the book
  pub down_blocked : (k : ℕ) → k < s.regs.semaphores → permitted book k ≤ length (book.permits.downs k) →
      let after = with_count size s k (semaphore_count size s.values k -ℤ pos 1) in
      Landed size (blocked size after (at_semaphore size k)) (fed book (entry s.regs.thread (event.downs k)))
  down_blocked k made full =
      let limit : k < semaphore_limit size = omega (arith, y.steady.both.kempt.tidy.counts.semaphores_fit) in
      let count : ℤ = semaphore_count size s.values k -ℤ pos 1 in
      next_right size (left size (with_count size s k count) (at_semaphore size k)) (fed book (entry s.regs.thread (event.downs k)))
      (gone_on (at_semaphore size k) (set s.values (size + k) count) (fed book (entry s.regs.thread (event.downs k)))
      (length-set s.values (size + k) count ∙ y.steady.valued)
      (rw (fed_downs book s.regs.thread k) (counted_downed y.steady.counted k s.regs.thread made limit y.steady.valued))
      (lowers_waits saved_both k made y.some full saved_here))
      (unfold left in record { runs = y.marked.runs; sound = y.marked.sound })
      (unfold left in refl)

  -- the thread ends, where it owns no mutex
  pub ends_right : owns_any size s.tables s.regs.thread ≡ false → (v : ℤ) →
      Landed size (ends size s v) (fed book (entry s.regs.thread (event.ends v)))
  unfolding finished owns_any
  ends_right free v =
      let b = y.steady.both in
      let woken = wakes_all b (at_end size s.regs.thread) (omega arith) (aside_end s.regs.thread) in
      next_right size (finished size s v) (fed book (entry s.regs.thread (event.ends v)))
      (record {
        both =
            stops woken.0 v y.some woken.1
            (λ m h. rw (woken_owner (queue s.tables (at_end size s.regs.thread)) s.tables m) (eqb-false _ _ (some_false (mutex_limit size) _ free m h)));
        frame = y.steady.frame;
        free_least = y.steady.free_least;
        free_most = y.steady.free_most;
        stored = delivered_length size _ _ _ _ ∙ y.steady.stored;
        valued = length-set s.values s.regs.thread v ∙ y.steady.valued;
        counted = rw (fed_ends book s.regs.thread v) (counted_result y.steady.counted s.regs.thread v below);
      })
      (record { runs = y.marked.runs; sound = y.marked.sound })
      refl

  -- the thread waits for a condition and a mutex that is owned is unlocked, then Next
  pub wait_right : (c m : ℕ) → c < s.regs.conditions → m < s.regs.mutexes → owner_of s.tables m ≢ size →
      Landed size (next size (with_tables (left size s (at_condition size c)) (unlocked size (left size s (at_condition size c)).tables m)))
      (fed book (entry s.regs.thread (event.unlocks m)))
  unfolding left kept
  wait_right c m made_c made_m held =
      let limit : c < condition_limit size = omega (arith, y.steady.both.kempt.tidy.counts.conditions_fit) in
      let u = left_steady (at_condition size c) (omega arith) (aside_condition c limit) (awaited_condition c limit made_c) (λ w e. absurd (omega (arith, e, limit))) in
      let owner = sent_owner kept s.regs.thread (at_condition size c) m in
      let still_held : owner_of (sent kept s.regs.thread (at_condition size c)) m ≢ size = rw (owner, same_owners) held in
      next_right size _ (fed book (entry s.regs.thread (event.unlocks m)))
      (record {
        both = gives u.both m s.regs.thread made_m still_held;
        frame = u.frame;
        free_least = u.free_least;
        free_most = u.free_most;
        stored = u.stored;
        valued = u.valued;
        counted = rw (fed_unlocks book s.regs.thread m) u.counted;
      })
      (record { runs = y.marked.runs; sound = y.marked.sound })
      refl
