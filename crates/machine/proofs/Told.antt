-- What a trace tells of joins and ends is so in the machine, and each instruction keeps it. Assumes nothing.
use Prim.Native.Nat.{ℕ, ◌-◌, ◌<◌, ◌≤◌}
use mathlib.Core.Path.{◌≡◌, refl, sym, ap, subst, ◌∙◌}
use mathlib.Core.List.{List, [], ◌∷◌, ◌++◌, append_assoc, append-nil}
use mathlib.Core.Logic.{◌≢◌}
use native.Mathlib.Omega.{arith}
use lib.IntN.{ℤ, pos}
use lib.ListN.{length, get_or, length-set, set}
use lib.Seq.{get_or-set_other, get_or-set_same}
use borrow.Author.Tests.{eq-eqb, ne_eqb}
use Rattle.machine.specs.Book.{Book, Event, event_of}
use Rattle.machine.specs.Book as event
use Rattle.machine.specs.Delivery.{Ending, top_of}
use Rattle.machine.specs.Fair.{runner_of}
use Rattle.machine.specs.Instructions.{Instruction}
use Rattle.machine.specs.Lists.{count}
use Rattle.machine.specs.Size.{stack_at}
use Rattle.machine.specs.State.{State, blocked, delivered, ends, finished, left, next, next_of, saved_top, written}
use Rattle.machine.specs.Tables.{Tables, active, all_ready, at_end, ended, first, place_of, queue, ready, sent, wake_all}
use Rattle.machine.proofs.Apart.{Apart, Awake, Lined, Standing, apart_blocked, apart_cells, apart_next, left_there, lined_left, lined_sent, stacks_own, standing, woken_depths}
use Rattle.machine.proofs.Booked.{entry}
use Rattle.machine.proofs.Changes.{Aside, Both, aside_end, head_below, in_line, inside, once, wakes, wakes_all}
use Rattle.machine.proofs.Effects.{Effect, aside, late, stops, waits}
use Rattle.machine.proofs.Lists.{count_cons, count_nil, one_if_is, one_if_other, same_or_not}
use Rattle.machine.proofs.Queues.{count_queue, count_queued, first_at, first_in_line, first_nobody, first_waiter, queue_joined, queue_kept, queue_left, sent_count, sent_here, sent_saved, sent_there}
use Rattle.machine.proofs.Slates.{Slate, end_of, join_of, noted}
use Rattle.machine.proofs.Steady.{Runs, delivered_length}

-- a thread whose last was a join waits for that end, or is awake with the result on top
pub data Heard (size : ℕ) (s : State) (slate : Slate) (t u : ℕ) : Type 0 where
  waiting : place_of s.tables t ≡ at_end size u → Heard size s slate t u
  got : Awake (place_of s.tables t) → slate.results u ≡ top_of size s t ∷ [] → Heard size s slate t u

pub record Told (size : ℕ) (s : State) (slate : Slate) : Type 0 where
  pub outside : (t : ℕ) → size ≤ t → (slate.awaits t ≡ []) × (slate.results t ≡ [])
  pub heard : (t u : ℕ) → t < size → slate.awaits t ≡ u ∷ [] → Heard size s slate t u
  pub ended_with : (t : ℕ) → t < size → place_of s.tables t ≡ ended →
      slate.results t ≡ get_or s.values t (pos 0) ∷ []
  pub living : (t : ℕ) → t < size → place_of s.tables t ≢ ended → slate.results t ≡ []

-- a list of none is none of one
pub nothing : {A X : Type 0} {x : A} {l : List A} → l ≡ [] → l ≡ x ∷ [] → X
nothing none one = absurd (omega (arith, ap length (sym none ∙ one)))

-- ---- an instruction that is no end

module _ {size : ℕ} {s : State} {slate : Slate} (told : Told size s slate) where
  -- where other threads are left alone
  heard_still : {r : ℕ} {u : State} → Apart size r s u → (t w : ℕ) → t < size → t ≢ r → slate.awaits t ≡ w ∷ [] →
      Heard size u slate t w
  heard_still {r} {u} apart t w h far e = by_case (told.heard t w h e)
    where
      by_case : Heard size s slate t w → Heard size u slate t w
      by_case (waiting p) = waiting (apart.places.waits_too t w h far p)
      by_case (got awake is) = got (apart.places.awake_too t h far awake) (is ∙ ap (λ (v : ℤ). v ∷ []) (sym (apart.tops t h far awake)))

  -- nothing was carried out, or none of it concerns the slate
  pub told_kept : (u : State) → Apart size size s u → Told size u slate
  told_kept u apart =
      record {
        outside = told.outside;
        heard = λ t w h e. heard_still apart t w h (λ k. omega (arith, k)) e;
        ended_with =
            λ t h e.
            same_or_not (place_of s.tables t) ended
            (λ was. told.ended_with t h was ∙ ap (λ (v : ℤ). v ∷ []) (sym (apart.results t h)))
            (λ was. absurd (apart.places.living_too t h was e));
        living = λ t h e. told.living t h (λ was. e (apart.places.ended_too t h was));
      }

  pub told_noted : (r : ℕ) (u : State) → r < size → Apart size r s u → (happens : Event) → end_of happens ≡ [] →
      ((w : ℕ) → join_of happens ≡ w ∷ [] → Heard size u slate r w) → Told size u (noted slate (entry r happens))
  told_noted r u below apart happens quiet mine =
      record {
        outside =
            λ t h. let far : t ≢ r = λ e. omega (arith, e) in
            (rw (ne_eqb t r far) (told.outside t h).0, results t ∙ (told.outside t h).1);
        heard =
            λ t w h e. same_or_not t r (λ is. rw is (again r w (mine w (rw (eq-eqb t r is) at e))))
            (λ far. again t w (heard_still apart t w h far (rw (ne_eqb t r far) at e)));
        ended_with =
            λ t h e.
            results t
            ∙ same_or_not (place_of s.tables t) ended
            (λ was. told.ended_with t h was ∙ ap (λ (v : ℤ). v ∷ []) (sym (apart.results t h)))
            (λ was. absurd (apart.places.living_too t h was e));
        living = λ t h e. results t ∙ told.living t h (λ was. e (apart.places.ended_too t h was));
      }
    where
      results : (t : ℕ) → (noted slate (entry r happens)).results t ≡ slate.results t
      results t = same_or_not t r (λ is. rw (eq-eqb t r is, quiet) (append-nil (slate.results t))) (λ far. rw (ne_eqb t r far))

      again : (t w : ℕ) → Heard size u slate t w → Heard size u (noted slate (entry r happens)) t w
      again t w (waiting p) = waiting p
      again t w (got awake is) = got awake (results w ∙ is)

-- ---- delivery

module _ (size : ℕ) (tables : Tables) (v : ℤ) where
  -- a cell that is no waiter's top is as it was
  pub delivered_other : (l : List ℕ) (store : List ℤ) (a : ℕ) →
      ((w : ℕ) → 0 < count w l → a ≢ saved_top size tables w) →
      get_or (delivered size tables v l store) a (pos 0) ≡ get_or store a (pos 0)
  unfolding delivered
  delivered_other [] store a away = refl
  delivered_other (w ∷ rest) store a away =
      delivered_other rest (set store (saved_top size tables w) v) a (λ x h. away x (rw (count_cons x w rest) (omega arith)))
      ∙ get_or-set_other store (saved_top size tables w) a v (pos 0) (away w (rw (count_cons w w rest, one_if_is w w refl) (omega arith)))

  -- what has the result keeps it
  delivered_stays : (l : List ℕ) (store : List ℤ) (a : ℕ) → a < length store → get_or store a (pos 0) ≡ v →
      get_or (delivered size tables v l store) a (pos 0) ≡ v
  unfolding delivered
  delivered_stays [] store a below is = is
  delivered_stays (w ∷ rest) store a below is =
      delivered_stays rest (set store (saved_top size tables w) v) a (rw (length-set store (saved_top size tables w) v) below)
      (same_or_not a (saved_top size tables w)
      (λ e. rw e (get_or-set_same store (saved_top size tables w) v (pos 0) (rw e at below)))
      (λ far. get_or-set_other store (saved_top size tables w) a v (pos 0) far ∙ is))

  -- each waiter's top has the result
  pub delivered_here : (l : List ℕ) (store : List ℤ) (w : ℕ) → 0 < count w l → saved_top size tables w < length store →
      get_or (delivered size tables v l store) (saved_top size tables w) (pos 0) ≡ v
  unfolding delivered
  delivered_here [] store w h below = absurd (omega (arith, count_nil w))
  delivered_here (x ∷ rest) store w h below =
      let after : List ℤ = set store (saved_top size tables x) v in
      let still : saved_top size tables w < length after = rw (length-set store (saved_top size tables x) v) below in
      same_or_not x w
      (λ e.
      delivered_stays rest after (saved_top size tables w) still
      (rw e (get_or-set_same store (saved_top size tables w) v (pos 0) below)))
      (λ far. delivered_here rest after w (omega (arith, count_cons w x rest, one_if_other x w far)) still)

-- ---- those who are woken

woken_ready : (l : List ℕ) (a : Tables) (t : ℕ) → t < length a.places → place_of a t ≡ ready →
    place_of (all_ready l a) t ≡ ready
unfolding all_ready sent
woken_ready [] a t below e = e
woken_ready (x ∷ rest) a t below e =
    woken_ready rest (sent a x ready) t (rw (length-set a.places x ready) below)
    (same_or_not t x (λ is. rw is (sent_here a x ready (rw is at below))) (λ far. sent_there a x ready t far ∙ e))

pub woken_here : (l : List ℕ) (a : Tables) (t : ℕ) → t < length a.places → 0 < count t l →
    place_of (all_ready l a) t ≡ ready
unfolding all_ready sent
woken_here [] a t below h = absurd (omega (arith, count_nil t))
woken_here (x ∷ rest) a t below h =
    let still : t < length (sent a x ready).places = rw (length-set a.places x ready) below in
    same_or_not x t
    (λ e. woken_ready rest (sent a x ready) t still (rw e (sent_here a t ready below)))
    (λ far. woken_here rest (sent a x ready) t still (omega (arith, count_cons t x rest, one_if_other x t far)))

pub woken_there : (l : List ℕ) (a : Tables) (t : ℕ) → count t l ≡ 0 → place_of (all_ready l a) t ≡ place_of a t
unfolding all_ready
woken_there [] a t none = refl
woken_there (x ∷ rest) a t none =
    let far : t ≢ x = λ e. omega (arith, count_cons t x rest, one_if_is x t (sym e)) in
    woken_there rest (sent a x ready) t (omega (arith, count_cons t x rest)) ∙ sent_there a x ready t far

lined_woken : {size : ℕ} (l : List ℕ) (a : Tables) → Lined size a → Lined size (all_ready l a)
unfolding all_ready
lined_woken [] a lined = lined
lined_woken (t ∷ rest) a lined = lined_woken rest (sent a t ready) (lined_sent lined t ready)

-- ---- an end

-- all of a queue are at the ready tail, in their order
queue_woken : {size threads mutexes conditions semaphores run : ℕ} {book : Book} (l : List ℕ) (a : Tables) →
    Both size threads mutexes conditions semaphores run a book → (q : ℕ) → ready < q → Aside size q → queue a q ≡ l →
    queue (all_ready l a) ready ≡ queue a ready ++ l
unfolding all_ready
queue_woken [] a b q high apart e = sym (append-nil (queue a ready))
queue_woken (t ∷ rest) a b q high apart e =
    let below = head_below b q t rest e in
    let at = first_at a q t rest e in
    queue_woken rest (sent a t ready) (wakes b t q below at high apart) q high apart
    (queue_left a t ready q rest (inside b t below) (once b t below) (λ k. omega (arith, k)) e)
    ∙ ap (λ (x : List ℕ). x ++ rest) (queue_joined a t ready (inside b t below) (once b t below) (λ k. omega (arith, at, k)))
    ∙ append_assoc (queue a ready) (t ∷ []) rest

-- Next takes the first of those who are ready
next_takes : (size : ℕ) (s : State) → Lined size s.tables → ((t : ℕ) → t < size → count t s.tables.line ≡ 1) →
    runner_of size (next size s) ++ queue (next size s).tables ready ≡ queue s.tables ready
unfolding next
next_takes size s lined single = by_queue (queue s.tables ready) refl
  where
    by_queue : (l : List ℕ) → queue s.tables ready ≡ l →
        (let after = next_of size (first s.tables ready) s in runner_of size after ++ queue after.tables ready) ≡ queue
        s.tables ready
    by_queue [] e = rw (first_nobody s.tables ready e, eq-eqb size size refl)
    by_queue (t ∷ rest) e =
        let below : t < size = lined.within t (first_in_line s.tables ready t rest e) in
        rw (
          first_waiter s.tables ready t rest e,
          ne_eqb t size (λ k. omega (arith, k)),
          queue_left s.tables t active ready rest (rw lined.long below) (single t below) (λ k. omega (arith, k)) e,
        )
        (sym e)

-- Next changes no cell
pub next_store : (size : ℕ) (s : State) → (next size s).store ≡ s.store
unfolding next
next_store size s = by_queue (queue s.tables ready) refl
  where
    by_queue : (l : List ℕ) → queue s.tables ready ≡ l → (next_of size (first s.tables ready) s).store ≡ s.store
    by_queue [] e = rw (first_nobody s.tables ready e)
    by_queue (t ∷ rest) e = rw (first_waiter s.tables ready t rest e)

module _ (size : ℕ) (s : State) (book : Book) (y : Runs size s book) (v : ℤ) where
  abbrev runner : ℕ
  runner = s.regs.thread

  stands : Standing size s.tables runner
  stands = standing size s book y

  -- those who wait for the running thread's end
  abbrev waiters : List ℕ
  waiters = queue s.tables (at_end size runner)

  is_waiter : (t : ℕ) → t < size → place_of s.tables t ≡ at_end size runner → 0 < count t waiters
  is_waiter t h at = rw (count_queued s.tables (at_end size runner) t at, once y.steady.both t h) (omega arith)

  no_waiter : (t : ℕ) → place_of s.tables t ≢ at_end size runner → count t waiters ≡ 0
  no_waiter t away = count_queue s.tables (at_end size runner) t away

  -- a waiter is a thread at that place, with a cell on its stack
  record Waiter_of (t : ℕ) : Type 0 where
    below : t < size
    at : place_of s.tables t ≡ at_end size runner
    some : 1 ≤ get_or s.tables.depths t 0
    few : get_or s.tables.depths t 0 ≤ 128

  a_waiter : (t : ℕ) → 0 < count t waiters → Waiter_of t
  a_waiter t h =
      same_or_not (place_of s.tables t) (at_end size runner)
      (λ e.
      let below : t < size = in_line y.steady.both t (rw (count_queued s.tables (at_end size runner) t e) at h) in
      let p = y.steady.both.kempt.tidy.placed t below in
      record { below = below; at = e; some = p.has_cell runner e; few = (p.kept (omega (arith, e))).cells_fit })
      (λ far. absurd (omega (arith, no_waiter t far)))

  -- .. and doesn't run
  not_runner : (t : ℕ) → place_of s.tables t ≡ at_end size runner → t ≢ runner
  not_runner t at e = omega (arith, at, stands.runs, ap (place_of s.tables) e)

  -- its top is a cell of the store
  top_stored : (t : ℕ) → Waiter_of t → saved_top size s.tables t < length s.store
  top_stored t w = omega (arith, y.steady.stored, w.below, w.some, w.few)

  -- those who waited are ready behind the others
  finished_queue : queue (finished size s v).tables ready ≡ queue s.tables ready ++ waiters
  unfolding finished
  finished_queue =
      let b = y.steady.both in
      let q : ℕ = at_end size runner in
      let woken = (wakes_all b q (omega arith) (aside_end runner)).0 in
      queue_kept (wake_all s.tables q) runner ended ready (inside woken runner stands.below) (λ k. omega (arith, k))
      (λ k. omega (arith, (woken.kempt.tidy.runner y.some).1, k))
      ∙ queue_woken waiters s.tables b q (omega arith) (aside_end runner) refl

  finished_lined : Lined size (finished size s v).tables
  unfolding finished
  finished_lined = lined_sent (lined_woken waiters s.tables stands.lined) runner ended

  -- Next then leaves all others alone
  next_apart : Apart size size (finished size s v) (ends size s v)
  next_apart = apart_next size (finished size s v) finished_lined (unfold finished in refl)

  finished_once : (t : ℕ) → t < size → count t (finished size s v).tables.line ≡ 1
  unfolding finished
  finished_once t h =
      let q : ℕ = at_end size runner in
      sent_count (wake_all s.tables q) runner ended t ∙ once (wakes_all y.steady.both q (omega arith) (aside_end runner)).0 t h

  -- where the threads are afterwards
  at_end_lem : place_of (finished size s v).tables runner ≡ ended
  unfolding finished
  at_end_lem =
      sent_here (wake_all s.tables (at_end size runner)) runner ended
      (rw (lined_woken waiters s.tables stands.lined).long stands.below)

  at_waiter : (t : ℕ) → t < size → t ≢ runner → place_of s.tables t ≡ at_end size runner →
      place_of (finished size s v).tables t ≡ ready
  unfolding finished
  at_waiter t h far at =
      sent_there (wake_all s.tables (at_end size runner)) runner ended t far
      ∙ woken_here waiters s.tables t (rw stands.lined.long h) (is_waiter t h at)

  at_other : (t : ℕ) → t ≢ runner → place_of s.tables t ≢ at_end size runner →
      place_of (finished size s v).tables t ≡ place_of s.tables t
  unfolding finished
  at_other t far away =
      sent_there (wake_all s.tables (at_end size runner)) runner ended t far ∙ woken_there waiters s.tables t (no_waiter t away)

  -- the top of another thread's stack is where its saved registers say, before and after
  same_top : (t : ℕ) → t < size → t ≢ runner → top_of size (finished size s v) t
      ≡ get_or (delivered size s.tables v waiters s.store) (saved_top size s.tables t) (pos 0)
  unfolding finished
  same_top t h far =
      let gone : t ≢ size = λ e. omega (arith, e) in
      rw (ne_eqb t size gone, (sent_saved (wake_all s.tables (at_end size runner)) runner ended).1, woken_depths waiters s.tables)

  was_top : (t : ℕ) → t ≢ runner → top_of size s t ≡ get_or s.store (saved_top size s.tables t) (pos 0)
  was_top t far = rw (ne_eqb t runner far)

  -- a waiter has the result on top then
  result_there : (t : ℕ) → t < size → place_of s.tables t ≡ at_end size runner → top_of size (finished size s v) t ≡ v
  result_there t h at =
      let c = is_waiter t h at in
      same_top t h (not_runner t at) ∙ delivered_here size s.tables v waiters s.store t c (top_stored t (a_waiter t c))

  pub ends_ending : Ending size s (ends size s v) runner v
  ends_ending =
      let same = next_store size (finished size s v) in
      record {
        received =
            λ t h at.
            next_apart.tops t h (λ e. omega (arith, e))
            (rw (at_waiter t h (not_runner t at) at) (record { least = omega arith; most = omega arith }))
            ∙ result_there t h at;
        no_other =
            λ a away.
            rw (same, finished_store)
            (delivered_other size s.tables v waiters s.store a
            (λ w c. let who = a_waiter w c in rw (ne_eqb w runner (not_runner w who.at)) at (away w who.below who.at)));
        as_long = ap length (same ∙ finished_store) ∙ delivered_length size s.tables v waiters s.store;
        in_order = next_takes size (finished size s v) finished_lined finished_once ∙ finished_queue;
      }
    where
      finished_store : (finished size s v).store ≡ delivered size s.tables v waiters s.store
      finished_store = unfold finished in refl

  module _ (slate : Slate) (told : Told size s slate) where
    abbrev told_end : Slate
    told_end = noted slate (entry runner (event.ends v))

    -- the running thread has its result, and the others have what they had
    mine : told_end.results runner ≡ v ∷ []
    mine = rw (eq-eqb runner runner refl, told.living runner stands.below (λ e. omega (arith, stands.runs, e)))

    theirs : (t : ℕ) → t ≢ runner → told_end.results t ≡ slate.results t
    theirs t far = rw (ne_eqb t runner far)

    -- a joiner of this thread has the result, one of another thread what it had
    hears : (t w : ℕ) → t < size → t ≢ runner → Heard size s slate t w → Heard size (finished size s v) told_end t w
    hears t w h far (waiting p) =
        same_or_not w runner
        (λ is.
        let at : place_of s.tables t ≡ at_end size runner = rw is at p in
        got (rw (at_waiter t h far at) (record { least = omega arith; most = omega arith }))
        (rw is (mine ∙ ap (λ (x : ℤ). x ∷ []) (sym (result_there t h at)))))
        (λ other. waiting (at_other t far (λ e. other (omega (arith, e, p))) ∙ p))
    hears t w h far (got awake is) =
        let away : place_of s.tables t ≢ at_end size runner = λ e. omega (arith, awake.most, e) in
        let other : w ≢ runner =
        λ e. nothing (told.living w (omega (arith, e, stands.below))
        (λ k. omega (arith, stands.runs, ap (place_of s.tables) e, k))) is in
        let few = stands.few t h far awake in
        let beside = delivered_other size s.tables v waiters s.store (saved_top size s.tables t)
        (λ x c. let who = a_waiter x c in apart_tops t x few who (λ e. away (ap (place_of s.tables) e ∙ who.at))) in
        got (rw (at_other t far away) awake)
        (theirs w other ∙ is ∙ ap (λ (x : ℤ). x ∷ []) (was_top t far ∙ sym (same_top t h far ∙ beside)))
      where
        apart_tops : (t x : ℕ) → get_or s.tables.depths t 0 ≤ 128 → Waiter_of x → t ≢ x →
            saved_top size s.tables t ≢ saved_top size s.tables x
        apart_tops t x few who far e = omega (arith, few, who.some, who.few, e)

    pub told_finished : Told size (finished size s v) told_end
    told_finished =
        record {
          outside =
              λ t h. let far : t ≢ runner = λ e. omega (arith, e, stands.below) in
              (rw (ne_eqb t runner far) (told.outside t h).0, theirs t far ∙ (told.outside t h).1);
          heard =
              λ t w h e.
              same_or_not t runner
              (λ is. nothing (rw (eq-eqb t runner is)) e)
              (λ far. hears t w h far (told.heard t w h (rw (ne_eqb t runner far) at e)));
          ended_with =
              λ t h e.
              same_or_not t runner
              (λ is. rw is (mine ∙ ap (λ (x : ℤ). x ∷ []) (sym kept_here)))
              (λ far.
              same_or_not (place_of s.tables t) (at_end size runner)
              (λ at. absurd (omega (arith, at_waiter t h far at, e)))
              (λ away. theirs t far ∙ told.ended_with t h (sym (at_other t far away) ∙ e) ∙ ap (λ (x : ℤ). x ∷ [])
              (sym (kept_there t far))));
          living =
              λ t h e.
              same_or_not t runner
              (λ is. absurd (e (ap (place_of (finished size s v).tables) is ∙ at_end_lem)))
              (λ far.
              theirs t far
              ∙ told.living t h
              (λ was. e (at_other t far (λ at. omega (arith, was, at)) ∙ was)));
        }
      where
        kept_here : get_or (finished size s v).values runner (pos 0) ≡ v
        kept_here = unfold finished in get_or-set_same s.values runner v (pos 0) (omega (arith, stands.below, y.steady.valued))

        kept_there : (t : ℕ) → t ≢ runner → get_or (finished size s v).values t (pos 0) ≡ get_or s.values t (pos 0)
        kept_there t far = unfold finished in get_or-set_other s.values runner t v (pos 0) far

-- ---- every instruction

module _ (size : ℕ) (s : State) (book : Book) (y : Runs size s book) (slate : Slate) (told : Told size s slate) where
  -- the thread ends, and the next one runs
  told_ends : (v : ℤ) → Told size (ends size s v) (noted slate (entry s.regs.thread (event.ends v)))
  told_ends v =
      told_kept (told_finished size s book y v slate told) (ends size s v)
      (next_apart size s book y v)

  -- it joins a thread that has ended: the result is on top
  told_late : (w : ℕ) → w < size → 1 ≤ s.regs.cells → place_of s.tables w ≡ ended →
      Told size (written size s (s.regs.cells - 1) (get_or s.values w (pos 0))) (noted slate (entry s.regs.thread (event.joins w)))
  told_late w below some at =
      let stands = standing size s book y in
      let room = y.steady.frame.cells_fit in
      let v : ℤ = get_or s.values w (pos 0) in
      told_noted told s.regs.thread (written size s (s.regs.cells - 1) v) stands.below
      (apart_cells size s stands _ _ refl (stacks_own size s stands (s.regs.cells - 1) v (omega arith)))
      (event.joins w) refl
      (λ u e.
      let same : w ≡ u = cc in
      got (rw stands.runs (record { least = omega arith; most = omega arith }))
      (rw (← same, eq-eqb s.regs.thread s.regs.thread refl)
      (told.ended_with w below at
      ∙ ap (λ (x : ℤ). x ∷ []) (sym
      (get_or-set_same s.store (stack_at size s.regs.thread (s.regs.cells - 1)) v (pos 0)
      (omega (arith, stands.below, y.steady.stored)))))))

  -- it joins one that has not: it waits
  told_waits : (w : ℕ) → Told size (blocked size s (at_end size w)) (noted slate (entry s.regs.thread (event.joins w)))
  told_waits w =
      let stands = standing size s book y in
      let r : ℕ = s.regs.thread in
      told_noted told r (blocked size s (at_end size w)) stands.below (apart_blocked size s stands (at_end size w) (λ e. omega (arith, e)))
      (event.joins w) refl
      (λ u e.
      let same : w ≡ u = cc in
      waiting
      ((apart_next size (left size s (at_end size w)) (lined_left size s stands (at_end size w))
      (unfold left in refl)).places.waits_too r u stands.below
      (λ k. omega (arith, stands.below, k)) (rw (← same) (left_there size s stands (at_end size w)))))

  -- whatever the instruction
  pub told_effect : (i : Instruction) (u : State) → Effect size s i u →
      Told size u (noted slate (entry s.regs.thread (event_of size s i u)))
  told_effect i u (aside joins ends apart) =
      told_noted told s.regs.thread u (standing size s book y).below apart (event_of size s i u) ends (λ w e. nothing joins e)
  told_effect i u (late w is below some at leaves) =
      subst (λ (x : Event). Told size u (noted slate (entry s.regs.thread x))) (sym is)
      (subst (λ (x : State). Told size x (noted slate (entry s.regs.thread (event.joins w)))) (sym leaves) (told_late w below some at))
  told_effect i u (waits w is leaves) =
      subst (λ (x : Event). Told size u (noted slate (entry s.regs.thread x))) (sym is)
      (subst (λ (x : State). Told size x (noted slate (entry s.regs.thread (event.joins w)))) (sym leaves) (told_waits w))
  told_effect i u (stops v is leaves) =
      subst (λ (x : Event). Told size u (noted slate (entry s.regs.thread x))) (sym is)
      (subst (λ (x : State). Told size x (noted slate (entry s.regs.thread (event.ends v)))) (sym leaves) (told_ends v))
