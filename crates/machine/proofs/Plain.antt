-- The test of a well-formed state passes exactly where the plain reading holds. Assumes nothing.
use Prim.Native.Nat.{ℕ, ◌+◌, ◌-◌, ◌*◌, ◌<◌, ◌≤◌}
use mathlib.Core.Path.{◌≡◌, refl}
use mathlib.Core.Bool.{Bool, true, not as negate, ◌&&◌, ◌||◌}
use mathlib.Core.List.{List}
use mathlib.Core.Logic.{◌≢◌}
use native.Mathlib.Omega.{arith}
use lib.Dec.{eqb, leb, ltb}
use lib.IntN.{ℤ}
use borrow.Author.Tests.{eq-eqb, ne_eqb, eqb-true, eqb-false, ltb-true, ltb-false, leb-true, leb-false, lt-ltb, le-ltb, le-leb, lt-leb, not-true}
use Rattle.machine.specs.Lists.{count, every}
use Rattle.machine.specs.Plain.{Counts, Fault, Formed, Frame, Line, Mode, Placed, Tidy}
use Rattle.machine.specs.Registers.{faulted, halted, running, stuck}
use Rattle.machine.specs.Size.{mutex_limit, shared}
use Rattle.machine.specs.Tables.{Tables, active, any_live, ended, is_at, lives, owner_of, place_of, ready, unmade}
use Rattle.machine.specs.WellFormed.{all_below, any_ready, counts_fit, fault_fits, formed, frame_fits, in_range, joiner_fits, level_fits, line_fits, owner_fits, registers_fit, saved_fits, state_fits, thread_fits, wait_fits}
use Rattle.machine.specs.declared.registers.Registers.{Registers}
use Rattle.machine.proofs.Every.{and_first, and_second, and_true, below_none, every_true, false_some, never, none_below, or_true, some_false, some_true, tests, true_and, true_cond, true_every, true_not, true_or, true_some}
use Rattle.machine.proofs.Lists.{cases}

-- PC, SP and FP in range
plain_frame : (pc cells fp : ℕ) → frame_fits pc cells fp ≡ true → Frame pc cells fp
plain_frame pc cells fp e = search (and_first, and_second, leb-true)

test_frame : (pc cells fp : ℕ) → Frame pc cells fp → frame_fits pc cells fp ≡ true
test_frame pc cells fp f = search (true_and, le-leb)

-- the line
plain_line : (size : ℕ) (line : List ℕ) → line_fits size line ≡ true → Line size line
plain_line size line e =
    let b = and_true (all_below size line) _ e in
    record {
      once = λ t h. eqb-true _ _ (every_true size (λ u. eqb (count u line) 1) b.1 t h);
      no_other = below_none size line b.0;
    }

test_line : (size : ℕ) (line : List ℕ) → Line size line → line_fits size line ≡ true
test_line size line l = true_and _ _ (none_below size line l.no_other) (true_every size _ (λ t h. eq-eqb _ _ (l.once t h)))

-- the fault's number
plain_fault : (r : Registers) → fault_fits r ≡ true → Fault r.state r.fault
plain_fault r e =
    record {
      listed = λ h. rw (eq-eqb r.state 3 h) at e;
      none = λ h. eqb-true r.fault 0 (rw (ne_eqb r.state 3 h) at e);
    }

test_fault : (r : Registers) → Fault r.state r.fault → fault_fits r ≡ true
test_fault r f =
    true_cond (eqb r.state 3) _ _
    (λ a. f.listed (eqb-true _ _ a))
    (λ a. eq-eqb _ _ (f.none (eqb-false _ _ a)))

module _ (size : ℕ) (r : Registers) (tables : Tables) (t : ℕ) where
  -- a thread's place
  abbrev place : ℕ
  place = place_of tables t

  -- the test's last case: registers saved, and ready or waiting for what is made
  abbrev queued : Bool
  queued =
      saved_fits tables t
      && (is_at tables ready t || (leb 4 place && (wait_fits size r tables place && joiner_fits size tables t)))

  -- the test's cases
  standing : {X : Type 0} → thread_fits size r tables t ≡ true → (r.threads ≤ t → place ≡ unmade → X) →
      (t ≡ r.thread → t < r.threads → place ≡ active → X) → (t < r.threads → place ≡ ended → X) →
      (t < r.threads → ready ≤ place → queued ≡ true → X) → X
  standing e none runs gone waits =
      cases (leb r.threads t)
      (λ a. none (leb-true _ _ a) (eqb-true _ _ (rw a at e)))
      (λ a. let made = leb-false r.threads t a in
      cases (eqb t r.thread)
      (λ b. runs (eqb-true _ _ b) made (eqb-true _ _ (rw (a, b) at e)))
      (λ b. cases (is_at tables ended t)
      (λ c. gone made (eqb-true _ _ c))
      (λ c. let q : queued ≡ true = rw (a, b, c) at e in
      waits made (cases (is_at tables ready t) (λ d. omega tests) (λ d. omega (tests, and_first (leb 4 place) _ (or_true (is_at tables ready t) _ (and_second (saved_fits tables t) _ q) d)))) q)))

  -- a thread that passes has its place as read plainly
  plain_place : thread_fits size r tables t ≡ true →
      Placed size r.threads r.mutexes r.conditions r.semaphores r.thread tables t
  plain_place e =
      record {
        not_made = λ h. standing e (λ a b. b) (λ a b c. omega arith) (λ a b. omega arith) (λ a b c. omega arith);
        is_made = λ h. standing e (λ a b. omega arith) (λ a b c. omega arith) (λ a b. omega arith) (λ a b c. omega arith);
        only_run = λ h. standing e (λ a b. omega arith) (λ a b c. a) (λ a b. omega arith) (λ a b c. omega arith);
        awaited =
            record {
              for_mutex = λ m h q.
                  let k : place - 4 ≡ m = omega arith in
                  let w = and_true (ltb m r.mutexes) _ (rw (lt-ltb place (4 + 2 * size) (omega arith), k) at (waiting (omega arith))) in
                  (ltb-true _ _ w.0, eqb-false _ _ (not-true _ w.1));
              for_condition = λ c h q.
                  let k : place - (4 + 2 * size) ≡ c = omega arith in
                  ltb-true c r.conditions (rw (le-ltb place (4 + 2 * size) (omega arith), lt-ltb place (4 + 4 * size) (omega arith), k) at (waiting (omega arith)));
              for_semaphore = λ j h q.
                  let k : place - (4 + 4 * size) ≡ j = omega arith in
                  ltb-true j r.semaphores (rw (le-ltb place (4 + 2 * size) (omega arith), le-ltb place (4 + 4 * size) (omega arith), lt-ltb place (4 + 5 * size) (omega arith), k) at (waiting (omega arith)));
              for_end = λ u q.
                  let k : place - (4 + 5 * size) ≡ u = omega arith in
                  let w = and_true (ltb u r.threads) _ (rw (le-ltb place (4 + 2 * size) (omega arith), le-ltb place (4 + 4 * size) (omega arith), le-ltb place (4 + 5 * size) (omega arith), k) at (waiting (omega arith))) in
                  (ltb-true _ _ w.0, eqb-false _ _ (not-true _ w.1));
            };
        kept = λ h. plain_frame _ _ _ (and_first (saved_fits tables t) _ (queues h));
        has_cell = λ u q. ltb-true 0 _ (or_true (ltb place (4 + 5 * size)) _ (and_second (wait_fits size r tables place) _ (waits (omega arith))) (le-ltb place (4 + 5 * size) (omega arith)));
      }
    where
      queues : ready ≤ place → queued ≡ true
      queues h = standing e (λ a b. absurd (omega arith)) (λ a b c. absurd (omega arith)) (λ a b. absurd (omega arith)) (λ a b c. c)

      waits : 4 ≤ place → (wait_fits size r tables place && joiner_fits size tables t) ≡ true
      waits h = and_second (leb 4 place) _ (or_true (is_at tables ready t) _ (and_second (saved_fits tables t) _ (queues (omega arith))) (ne_eqb place 3 (omega arith)))

      waiting : 4 ≤ place → wait_fits size r tables place ≡ true
      waiting h = and_first (wait_fits size r tables place) _ (waits h)

  -- what a thread waits for is made
  test_wait : Placed size r.threads r.mutexes r.conditions r.semaphores r.thread tables t → 4 ≤ place →
      wait_fits size r tables place ≡ true
  test_wait p h =
      true_cond (ltb place (4 + 2 * size)) _ _
      (λ a. let w = p.awaited.for_mutex (place - 4) (omega tests) (omega arith) in
      true_and _ _ (lt-ltb _ _ w.0) (true_not _ (ne_eqb _ _ w.1)))
      (λ a. true_cond (ltb place (4 + 4 * size)) _ _
      (λ b. lt-ltb _ _ (p.awaited.for_condition (place - (4 + 2 * size)) (omega tests) (omega tests)))
      (λ b. true_cond (ltb place (4 + 5 * size)) _ _
      (λ c. lt-ltb _ _ (p.awaited.for_semaphore (place - (4 + 4 * size)) (omega tests) (omega tests)))
      (λ c. let w = p.awaited.for_end (place - (4 + 5 * size)) (omega tests) in
      true_and _ _ (lt-ltb _ _ w.0) (true_not _ (ne_eqb _ _ w.1)))))

  -- a thread that waits for another's end has a cell
  test_joiner : Placed size r.threads r.mutexes r.conditions r.semaphores r.thread tables t →
      joiner_fits size tables t ≡ true
  test_joiner p =
      true_or (ltb place (4 + 5 * size)) _
      (λ a. lt-ltb 0 _ (p.has_cell (place - (4 + 5 * size)) (omega tests)))

  -- and a thread whose place reads plainly passes the test
  test_place : Tidy size r.threads r.mutexes r.conditions r.semaphores r.thread tables → t < size →
      thread_fits size r tables t ≡ true
  test_place y h =
      let p = y.placed t h in
      true_cond (leb r.threads t) _ _
      (λ a. eq-eqb _ _ (p.not_made (leb-true _ _ a)))
      (λ a. true_cond (eqb t r.thread) _ _
      (λ b. let q = eqb-true t r.thread b in rw q (eq-eqb _ _ (y.runner (omega arith)).1))
      (λ b. true_or (is_at tables ended t) _
      (λ c. let idle : place ≢ active = λ q. eqb-false t r.thread b (p.only_run q) in
      let h3 : 3 ≤ place = omega (arith, p.is_made (leb-false r.threads t a), eqb-false place 1 c) in
      true_and (saved_fits tables t) _ (test_frame _ _ _ (p.kept h3))
      (true_or (is_at tables ready t) _
      (λ d. let h4 : 4 ≤ place = omega (arith, eqb-false place 3 d) in
      true_and _ _ (le-leb 4 place h4) (true_and (wait_fits size r tables place) _ (test_wait p h4) (test_joiner p)))))))

module _ (size : ℕ) (r : Registers) (tables : Tables) where
  -- the state and the running thread
  plain_mode : state_fits size r tables ≡ true → Mode size r.state r.thread tables
  unfolding any_live
  plain_mode e =
      record {
        known =
            cases (leb r.state 3) (leb-true _ _)
            (λ a. cases (eqb r.thread size)
            (λ b. never (rw (b, ne_eqb r.state 2 (omega tests), ne_eqb r.state 0 (omega tests)) at e))
            (λ b. never (rw (b, ne_eqb r.state 1 (omega tests), ne_eqb r.state 3 (omega tests), ne_eqb r.state 0 (omega tests)) at e)));
        has_thread = λ s q. never (rw (eq-eqb r.thread size q, s) at e);
        fault_thread = λ s q. never (rw (eq-eqb r.thread size q, s) at e);
        stuck_none = idle;
        stuck_unready = λ s t h. eqb-false (place_of tables t) 3 (some_false size (is_at tables ready) (not-true _ (and_first _ _ (stays s))) t h);
        stuck_lives = λ s.
            let w = some_true size (lives tables) (and_second (negate (any_ready size tables)) _ (stays s)) in
            record { who = w.which; there = w.less; alive = ltb-true 1 _ w.passes };
        halted_empty = λ s q t h. ltb-false 1 (place_of tables t) (some_false size (lives tables) (not-true _ (rw (eq-eqb r.thread size q, s) at e)) t h);
      }
    where
      idle : r.state ≡ stuck → r.thread ≡ size
      idle s = cases (eqb r.thread size) (eqb-true _ _) (λ a. never (rw (a, s) at e))

      stays : r.state ≡ stuck → (negate (any_ready size tables) && any_live size tables) ≡ true
      stays s = rw (eq-eqb r.thread size (idle s), s) at e

  test_mode : Mode size r.state r.thread tables → state_fits size r tables ≡ true
  unfolding any_live
  test_mode m =
      true_cond (eqb r.thread size) _ _
      (λ a. true_cond (eqb r.state stuck) _ _
      (λ b. let l = m.stuck_lives (eqb-true _ _ b) in
      true_and _ _
      (true_not _ (false_some size (is_at tables ready) (λ t h. ne_eqb _ _ (m.stuck_unready (eqb-true _ _ b) t h))))
      (true_some size (lives tables) l.who l.there (lt-ltb _ _ l.alive)))
      (λ b. let runs : r.state ≢ running = λ s. m.has_thread s (eqb-true _ _ a) in
      let faults : r.state ≢ faulted = λ s. m.fault_thread s (eqb-true _ _ a) in
      let halts : r.state ≡ halted = omega (arith, m.known, eqb-false r.state 2 b) in
      true_and _ _ (eq-eqb _ _ halts)
      (true_not _ (false_some size (lives tables) (λ t h. le-ltb _ _ (m.halted_empty halts (eqb-true _ _ a) t h))))))
      (λ a. let moves : r.state ≢ stuck = λ s. eqb-false r.thread size a (m.stuck_none s) in
      true_or (eqb r.state running) _
      (λ b. true_or (eqb r.state faulted) _
      (λ c. eq-eqb r.state 0 (omega (arith, m.known, eqb-false r.state 1 b, eqb-false r.state 3 c)))))

  -- the registers, with a running thread that was made or nobody
  test_registers : (values : List ℤ) → Formed size r tables values → registers_fit size r ≡ true
  test_registers values f =
      let one : (ltb r.thread r.threads || eqb r.thread size) ≡ true =
      true_or (ltb r.thread r.threads) _ (λ a. cases (eqb r.thread size) (λ b. b) (λ b. absurd (omega (tests, (f.tidy.runner (eqb-false _ _ b)).0)))) in
      search (true_and, le-leb) depth 8

  -- the owners
  plain_owner : (m : ℕ) → owner_fits size r tables m ≡ true → owner_of tables m ≢ size →
      (m < r.mutexes) × (owner_of tables m < r.threads) × (ended < place_of tables (owner_of tables m))
  plain_owner m e held =
      let v = and_true (ltb m r.mutexes) _ (or_true (eqb (owner_of tables m) size) _ e (ne_eqb _ _ held)) in
      let w = and_true (ltb (owner_of tables m) r.threads) _ v.1 in
      (ltb-true _ _ v.0, ltb-true _ _ w.0, ltb-true _ _ w.1)

  test_owner : Tidy size r.threads r.mutexes r.conditions r.semaphores r.thread tables → (m : ℕ) →
      m < mutex_limit size → owner_fits size r tables m ≡ true
  test_owner y m h =
      true_or (eqb (owner_of tables m) size) _
      (λ a. let held = eqb-false _ _ a in
      let w = y.holders m h held in
      true_and _ _ (lt-ltb _ _ w.0) (true_and _ _ (lt-ltb _ _ w.1) (lt-ltb ended _ (y.owners_live m h held))))

-- the test of a well-formed state gives the plain reading
pub plain : (size : ℕ) (r : Registers) (tables : Tables) (values : List ℤ) → formed size r tables values ≡ true →
    Formed size r tables values
unfolding formed
plain size r tables values e =
    let a = and_true (registers_fit size r) _ e in
    let b = and_true (line_fits size tables.line) _ a.1 in
    let c = and_true (every size (thread_fits size r tables)) _ b.1 in
    let d = and_true (every (mutex_limit size) (owner_fits size r tables)) _ c.1 in
    let v = and_true (every r.semaphores (level_fits size tables values)) _ d.1 in
    let g = and_true (fault_fits r) _ v.1 in
    let h = and_true (counts_fit size r) _ a.0 in
    let k = and_true (frame_fits r.pc r.cells r.fp) _ h.1 in
    let l = and_true (in_range 1 (shared size) r.free) _ k.1 in
    let counts : Counts size r.threads r.mutexes r.conditions r.semaphores = search (and_first, and_second, leb-true) in
    record {
      tidy =
          record {
            counts = counts;
            line = plain_line _ _ b.0;
            placed = λ t i. plain_place size r tables t (every_true size _ c.0 t i);
            runner = λ n.
                let i : r.thread < r.threads =
                cases (ltb r.thread r.threads) (ltb-true _ _) (λ q. absurd (n (eqb-true _ _ (or_true (ltb r.thread r.threads) _ l.1 q)))) in
                (i, eqb-true _ _ (rw (lt-leb r.threads r.thread i, eq-eqb r.thread r.thread refl) at (every_true size _ c.0 r.thread (omega arith))));
            holders = λ m i n. let w = plain_owner size r tables m (every_true (mutex_limit size) _ d.0 m i) n in (w.0, w.1);
            owners_live = λ m i n. (plain_owner size r tables m (every_true (mutex_limit size) _ d.0 m i) n).2;
          };
      frame = plain_frame _ _ _ k.0;
      free_least = leb-true _ _ (and_first _ _ l.0);
      free_most = leb-true _ _ (and_second (leb 1 r.free) _ l.0);
      levels = λ j i. eqb-true _ _ (every_true r.semaphores _ v.0 j i);
      mode = plain_mode size r tables g.1;
      number = plain_fault r g.0;
    }

-- and the plain reading gives the test
pub tested : (size : ℕ) (r : Registers) (tables : Tables) (values : List ℤ) → Formed size r tables values →
    formed size r tables values ≡ true
unfolding formed
tested size r tables values f =
    true_and (registers_fit size r) _ (test_registers size r tables values f)
    (true_and (line_fits size tables.line) _ (test_line _ _ f.tidy.line)
    (true_and (every size (thread_fits size r tables)) _ (true_every size _ (λ t h. test_place size r tables t f.tidy h))
    (true_and (every (mutex_limit size) (owner_fits size r tables)) _ (true_every (mutex_limit size) _ (test_owner size r tables f.tidy))
    (true_and (every r.semaphores (level_fits size tables values)) _ (true_every r.semaphores _ (λ j h. eq-eqb _ _ (f.levels j h)))
    (true_and (fault_fits r) _ (test_fault r f.number) (test_mode size r tables f.mode))))))
