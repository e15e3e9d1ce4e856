-- A right machine is fair: each living thread is in exactly one place, and each mutex is held and awaited in order. Assumes nothing.
use Prim.Native.Nat.{ℕ, zero, suc, ◌+◌, ◌-◌, ◌*◌, ◌<◌, ◌≤◌}
use mathlib.Core.Path.{◌≡◌, refl, sym, ap, ◌∙◌}
use mathlib.Core.Bool.{cond}
use mathlib.Core.List.{List, [], ◌∷◌}
use mathlib.Core.Logic.{◌≢◌}
use native.Mathlib.Omega.{arith}
use lib.ListN.{get_or-eq_default}
use borrow.Author.Tests.{eq-eqb, ne_eqb, lt-ltb, le-ltb}
use Rattle.machine.specs.Book.{Book}
use Rattle.machine.specs.Fair.{Fair, places_of, runner_of, waits_in}
use Rattle.machine.specs.Lists.{count}
use Rattle.machine.specs.Size.{mutex_limit}
use Rattle.machine.specs.State.{State}
use Rattle.machine.specs.Tables.{Tables, active, at_mutex, ended, owner_of, place_of, queue, ready}
use Rattle.machine.proofs.Changes.{head_below}
use Rattle.machine.proofs.Lists.{count_cons, count_nil, less_or_not, one_if_other, one_if_same, same_or_not}
use Rattle.machine.proofs.Queues.{count_queue, count_queued, first_at}
use Rattle.machine.proofs.Steady.{Right}

-- a thread is in none of the queues of some places if its own place is none of them
waits_none : (tables : Tables) (t from k : ℕ) → ((q : ℕ) → from ≤ q → q < from + k → place_of tables t ≢ q) →
    waits_in tables t from k ≡ 0
unfolding waits_in
waits_none tables t from zero h = refl
waits_none tables t from (suc k) h =
    rw (count_queue tables from t (h from (omega arith) (omega arith)), waits_none tables t (suc from) k (λ q low high. h q (omega arith) (omega arith)))

-- and in exactly one if it is one of them
waits_one : (tables : Tables) (t from k : ℕ) → count t tables.line ≡ 1 → from ≤ place_of tables t →
    place_of tables t < from + k → waits_in tables t from k ≡ 1
unfolding waits_in
waits_one tables t from zero once low high = absurd (omega arith)
waits_one tables t from (suc k) once low high =
    same_or_not (place_of tables t) from
    (λ e. rw (count_queued tables from t e, once, waits_none tables t (suc from) k (λ q a b c. omega (arith, e, c))))
    (λ e. rw (count_queue tables from t e, waits_one tables t (suc from) k once (omega arith) (omega arith)))

module _ (size : ℕ) (s : State) (book : Book) (r : Right size s book) where
  -- a thread that isn't running
  idle : (t : ℕ) → t < size → t ≢ s.regs.thread → count t (runner_of size s) ≡ 0
  idle t below h =
      same_or_not s.regs.thread size
      (λ e. rw (eq-eqb _ _ e) (count_nil t))
      (λ e. rw (ne_eqb _ _ e, count_cons t s.regs.thread [], one_if_other s.regs.thread t (λ k. h (sym k)), count_nil t))

  -- a number that is no thread of the box
  outside : (t : ℕ) → size ≤ t → count t (runner_of size s) ≡ 0
  outside t h =
      let y = r.steady.both.kempt.tidy in
      same_or_not s.regs.thread size
      (λ e. rw (eq-eqb _ _ e) (count_nil t))
      (λ e.
      rw (
        ne_eqb _ _ e,
        count_cons t s.regs.thread [],
        one_if_other s.regs.thread t (λ k. omega (arith, (y.runner e).0, y.counts.threads_fit, k)),
        count_nil t,
      ))

  busy : (t : ℕ) → t ≡ s.regs.thread → t < size → count t (runner_of size s) ≡ 1
  busy t e below =
      rw (ne_eqb s.regs.thread size (λ k. omega (arith, e, k)), ← e, count_cons t t [], one_if_same t, count_nil t)

  -- a place is below the last
  bounded : (t : ℕ) → t < size → place_of s.tables t < 4 + 6 * size
  bounded t below =
      less_or_not (place_of s.tables t) (4 + 5 * size)
      (λ k. omega arith)
      (λ k.
      let y = r.steady.both.kempt.tidy in
      let end = (y.placed t below).awaited.for_end (place_of s.tables t - (4 + 5 * size)) (omega arith) in
      omega (arith, end.0, y.counts.threads_fit))

  one_place : (t : ℕ) → places_of size s t ≡ cond (book.living t) 1 0
  unfolding places_of
  one_place t =
      rw (r.steady.both.booked.alive t)
      (less_or_not t size
      (λ below.
      let y = r.steady.both.kempt.tidy in
      let p = y.placed t below in
      less_or_not (place_of s.tables t) active
      (λ low.
      let apart : t ≢ s.regs.thread = λ e. let q = y.runner (λ k. omega (arith, e, k)) in let mine : place_of s.tables t ≡ active = ap (place_of s.tables) e ∙ q.1 in omega arith in
      rw (idle t below apart, waits_none s.tables t ready (1 + 6 * size) (λ q a b c. omega (arith, c)), le-ltb ended (place_of s.tables t) (omega arith)))
      (λ high.
      same_or_not (place_of s.tables t) active
      (λ e. rw (busy t (p.only_run e) below, waits_none s.tables t ready (1 + 6 * size) (λ q a b c. omega (arith, c, e)), lt-ltb ended (place_of s.tables t) (omega arith)))
      (λ e.
      let apart : t ≢ s.regs.thread = λ k. let q = y.runner (λ j. omega (arith, k, j)) in e (ap (place_of s.tables) k ∙ q.1) in
      rw (
        idle t below apart,
        waits_one s.tables t ready (1 + 6 * size) (y.line.once t below) (omega arith) (omega (arith, bounded t below)),
        lt-ltb ended (place_of s.tables t) (omega arith),
      ))))
      (λ past.
      let none : place_of s.tables t ≡ 0 = get_or-eq_default s.tables.places 0 (rw r.steady.both.kempt.sizes.places past) in
      rw (outside t past, waits_none s.tables t ready (1 + 6 * size) (λ q a b c. omega (arith, c, none)), none)))

  -- nobody waits for a free mutex
  unawaited : (m : ℕ) → m < mutex_limit size → owner_of s.tables m ≡ size → queue s.tables (at_mutex m) ≡ []
  unawaited m below unowned = by_queue (queue s.tables (at_mutex m)) refl
    where
      by_queue : (l : List ℕ) → queue s.tables (at_mutex m) ≡ l → queue s.tables (at_mutex m) ≡ []
      by_queue [] e = e
      by_queue (t ∷ rest) e =
          let both = r.steady.both in
          let inside : t < size = head_below both (at_mutex m) t rest e in
          let at = first_at s.tables (at_mutex m) t rest e in
          absurd (((both.kempt.tidy.placed t inside).awaited.for_mutex m below at).1 unowned)

  pub fair : Fair size s book
  fair =
      record {
        one_place = one_place;
        counted = r.steady.both.booked.counted;
        in_order = r.steady.both.booked.ordered;
        unawaited = unawaited;
        owner_lives = λ m h e. rw (r.steady.both.booked.alive (owner_of s.tables m)) (lt-ltb ended _ (r.steady.both.kempt.tidy.owners_live m h e));
      }
