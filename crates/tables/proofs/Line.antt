-- Laws of the line in a slice: a thread moved to the end, and the search along it. Assumes nothing.
use Prim.Native.Nat.{ℕ, zero, suc, ◌+◌, ◌*◌, ◌<◌, ◌≤◌}
use mathlib.Core.Path.{◌≡◌, refl, sym, ap, ◌∙◌}
use mathlib.Core.Bool.{Bool, true, false}
use mathlib.Core.List.{List, [], ◌∷◌, ◌++◌}
use mathlib.Core.Logic.{◌≢◌}
use native.Mathlib.Omega.{arith}
use lib.ListN.{length, get_or, set, take, drop, drop_of_length-le, length-append, length-drop, length-set, take-append-drop, get_or-append}
use lib.Seq.{drop-append-le, drop_at, drop-cons, drop-set-lt, get_or-drop, length-take-le, take-append-le, take-set-lt}
use borrow.Author.Tests.{eq-eqb, ne_eqb}
use Rattle.std.specs.List.{filter, range_with_len}
use Rattle.machine.proofs.Lists.{cases, count_cons, count_nil, keep_in, keep_nil, keep_out, length_to_end, less_or_not, one_if_is, one_if_other, one_if_same, same_or_not}
use Rattle.machine.proofs.Queues.{first_in_line, first_nobody, first_waiter, sent_count}
use Rattle.machine.specs.Lists.{count, keep, to_end}
use Rattle.machine.specs.Tables.{Tables, first, first_of, is_at, queue, sent, tables_of}
use Rattle.machine.specs.declared.numbers.Thread.{Thread}
use Rattle.std.specs.Prelude.{Option, Some, None}
use Rattle.tables.specs.Good.{Good, Left, end_moved}
use Rattle.tables.specs.Idle.{Behind, behind}

-- a member occurs
occurs : (l : List ℕ) (i : ℕ) → i < length l → 0 < count (get_or l i 0) l
occurs [] i h = absurd (omega arith)
occurs (x ∷ l) zero h = rw (count_cons x x l, one_if_same x) (omega arith)
occurs (x ∷ l) (suc i) h = rw (count_cons (get_or l i 0) x l) (omega (arith, occurs l i (omega arith)))

-- ---- moving to the end: a walk back from the end, with one entry in hand

-- a list but for one entry
abbrev without : ℕ → List ℕ → List ℕ
without i l = take i l ++ drop (suc i) l

-- the move, by where t stands: with t put behind the line, its old entry is left out
moved_at : (t : ℕ) (l : List ℕ) (from i : ℕ) → from ≤ i → i < length l → get_or l i 0 ≡ t → count t (drop from l) ≡ 1 →
    end_moved l from t ≡ without i (l ++ t ∷ [])
unfolding to_end
moved_at t [] from i low high here once = absurd (omega arith)
moved_at t (x ∷ l) (suc from) zero low high here once = absurd (omega arith)
moved_at t (x ∷ l) (suc from) (suc i) low high here once = ap (λ (r : List ℕ). x ∷ r) (moved_at t l from i (omega arith) (omega arith) here once)
moved_at t (x ∷ l) zero zero low high here once = rw (eq-eqb x t here, here)
moved_at t (x ∷ l) zero (suc i) low high here once =
    let there : 0 < count t l = rw here at (occurs l i (omega arith)) in
    let away : x ≢ t = λ e. omega (arith, count_cons t x l, one_if_is x t e) in
    let rest : count t l ≡ 1 = omega (arith, count_cons t x l, one_if_other x t away) in
    rw (ne_eqb x t away) (ap (λ (r : List ℕ). x ∷ r) (moved_at t l zero i (omega arith) (omega arith) here rest))

-- what stands before the gap is as it was
before_gap : (l : List ℕ) (i : ℕ) → get_or (without (suc i) l) i 0 ≡ get_or l i 0
before_gap [] i = refl
before_gap (x ∷ l) zero = refl
before_gap (x ∷ l) (suc i) = before_gap l i

-- what was left out goes over the entry before it: that one is left out now
gap_moved : (l : List ℕ) (i : ℕ) → suc i < length l → set (without (suc i) l) i (get_or l (suc i) 0) ≡ without i l
gap_moved [] i h = absurd (omega arith)
gap_moved (x ∷ []) i h = absurd (omega arith)
gap_moved (x ∷ y ∷ l) zero h = refl
gap_moved (x ∷ y ∷ l) (suc i) h = ap (λ (r : List ℕ). x ∷ r) (gap_moved (y ∷ l) i (omega arith))

-- with the last left out, the line is as it was
last_out : (t : ℕ) (l : List ℕ) → l ≡ without (length l) (l ++ t ∷ [])
last_out t [] = refl
last_out t (x ∷ l) = ap (λ (r : List ℕ). x ∷ r) (last_out t l)

-- and the last is t
last_is : (t : ℕ) (l : List ℕ) → t ≡ get_or (l ++ t ∷ []) (length l) 0
last_is t [] = refl
last_is t (x ∷ l) = last_is t l

-- the walk so far: of the old line with t behind it, the entry at i is in hand and the others stand in the slice; t was not met
pub record Walked (was : List ℕ) (t : ℕ) (l : List ℕ) (carried i : ℕ) : Type 0 where
  pub is : l ≡ without i (was ++ t ∷ [])
  pub hand : carried ≡ get_or (was ++ t ∷ []) i 0
  pub passed : count t (drop i was) ≡ 0

-- before it starts, t is in hand
pub walk_start : (l : List ℕ) (t : ℕ) → Walked l t l t (length l)
walk_start l t = record { is = last_out t l; hand = last_is t l; passed = ap (count t) (drop_of_length-le l {i = length l} (omega arith)) ∙ count_nil t }

module _ (was : List ℕ) (t : ℕ) (l : List ℕ) (carried i j : ℕ) (w : Walked was t l carried i) (next : i ≡ suc j)
    (h : j < length was) where
  -- what is met is the old line's
  met : get_or l j 0 ≡ get_or was j 0
  met = rw (w.is, next, before_gap (was ++ t ∷ []) j) (get_or-append was (t ∷ []) 0 j h)

  -- what was in hand is put there
  put : set l j carried ≡ without j (was ++ t ∷ [])
  put = rw (w.is, w.hand, next) (gap_moved (was ++ t ∷ []) j (omega (arith, length-append was (t ∷ []))))

  -- another number is taken in hand
  pub walk_on : get_or l j 0 ≢ t → Walked was t (set l j carried) (get_or l j 0) j
  walk_on away =
      record {
        is = put;
        hand = met ∙ sym (get_or-append was (t ∷ []) 0 j h);
        passed = rw (drop-cons was j 0 h, count_cons t (get_or was j 0) (drop (suc j) was), ← met, one_if_other (get_or l j 0) t away, ← next) (omega (arith, w.passed));
      }

  -- at t the walk is over
  pub walk_met : (from : ℕ) → from ≤ j → count t (drop from was) ≡ 1 → get_or l j 0 ≡ t →
      set l j carried ≡ end_moved was from t
  walk_met from low once here = put ∙ sym (moved_at t was from j low h (sym met ∙ here) once)

-- a walk that stops with t in hand: it goes on with what was walked so far, or is over
pub record Walking (was : List ℕ) (from t : ℕ) (l : List ℕ) (carried i : ℕ) : Type 0 where
  pub long : length l ≡ length was
  pub low : from ≤ i
  pub high : i < length was
  pub once : count t (drop from was) ≡ 1
  pub on : carried ≢ t → Walked was t l carried i
  pub over : carried ≡ t → l ≡ end_moved was from t

module _ (was : List ℕ) (from t : ℕ) where
  -- where t was not met yet, it is still ahead
  pub ahead : (i : ℕ) → from ≤ i → count t (drop from was) ≡ 1 → count t (drop i was) ≡ 0 → from < i
  ahead i low once none = same_or_not from i (λ e. absurd (omega (arith, once, rw (← e) at none))) (λ e. omega (arith, low, e))

  -- a place further
  step : (l : List ℕ) (carried i j : ℕ) → length l ≡ length was → from ≤ j → count t (drop from was) ≡ 1 →
      Walked was t l carried i → i ≡ suc j → j < length was →
      Walking was from t (set l j carried) (get_or l j 0) j
  step l carried i j long low once w next h =
      record {
        long = length-set l j carried ∙ long;
        low = low;
        high = h;
        once = once;
        on = λ away. walk_on was t l carried i j w next h away;
        over = λ here. walk_met was t l carried i j w next h from low once here;
      }

  pub walking_start : (j : ℕ) → length was ≡ suc j → from ≤ j → count t (drop from was) ≡ 1 →
      Walking was from t (set was j t) (get_or was j 0) j
  walking_start j next low once = step was t (length was) j refl low once (walk_start was t) next (omega (arith, next))

  pub walking_on : (l : List ℕ) (carried i j : ℕ) → Walking was from t l carried i → carried ≢ t → i ≡ suc j →
      Walking was from t (set l j carried) (get_or l j 0) j
  walking_on l carried i j w away next =
      let below = ahead i w.low w.once (w.on away).passed in
      step l carried i j w.long (omega (arith, below, next)) w.once (w.on away) next (omega (arith, w.high, next))

pub length_moved : (l : List ℕ) (from t : ℕ) → length (end_moved l from t) ≡ length l
length_moved l from t =
    length-append (take from l) (to_end t (drop from l))
    ∙ ap (λ (k : ℕ). length (take from l) + k) (length_to_end t (drop from l))
    ∙ sym (length-append (take from l) (drop from l))
    ∙ ap length (take-append-drop from l)

-- ---- the tables after a move

-- what stands before the line
prefix : (l x : List ℕ) (a b c : ℕ) → a + b ≤ c → c ≤ length l →
    take b (drop a (take c l ++ x)) ≡ take b (drop a (take c l))
prefix l x a b c h k =
    let long : length (take c l) ≡ c = length-take-le c l k in
    ap (take b) (drop-append-le a (take c l) x (omega arith))
    ∙ take-append-le b (drop a (take c l)) x (omega (arith, length-drop a (take c l)))

before_line : (l x : List ℕ) (a b c : ℕ) → a + b ≤ c → c ≤ length l →
    take b (drop a (take c l ++ x)) ≡ take b (drop a l)
before_line l x a b c h k = prefix l x a b c h k ∙ sym (prefix l (drop c l) a b c h k) ∙ ap (λ (m : List ℕ). take b (drop a m)) (take-append-drop c l)

-- a thread's new place, and the line with it at the end
pub store_sent : (size : ℕ) (l : List ℕ) (t p : ℕ) → length l ≡ 7 * size → t < size →
    tables_of size (end_moved (set l t p) (6 * size) t) ≡ sent (tables_of size l) t p
unfolding tables_of sent
store_sent size l t p long h =
    let m : List ℕ = set l t p in
    let same : length m ≡ 7 * size = length-set l t p ∙ long in
    let x : List ℕ = to_end t (drop (6 * size) m) in
    let keeps : (a b : ℕ) → t < a → a + b ≤ 6 * size → take b (drop a (take (6 * size) m ++ x)) ≡ take b (drop a l) =
    λ a b past fits. before_line m x a b (6 * size) fits (omega arith) ∙ ap (take b) (drop-set-lt a l t p past) in
    λ i.
    record {
      places = (before_line m x 0 size (6 * size) (omega arith) (omega arith) ∙ take-set-lt size l t p h) i;
      pcs = keeps size size h (omega arith) i;
      depths = keeps (2 * size) size (omega arith) (omega arith) i;
      frames = keeps (3 * size) size (omega arith) (omega arith) i;
      owners = keeps (4 * size) (2 * size) (omega arith) (omega arith) i;
      line = (drop_at (take (6 * size) m) x (6 * size) (length-take-le (6 * size) m (omega arith)) ∙ ap (to_end t) (drop-set-lt (6 * size) l t p (omega arith))) i;
    }

-- a new place leaves a thread once in the line
pub once_in_line : (size : ℕ) (l : List ℕ) (t p : ℕ) → Good size l → t < size →
    count t (drop (6 * size) (set l t p)) ≡ 1
unfolding tables_of
once_in_line size l t p g h = ap (count t) (drop-set-lt (6 * size) l t p (omega arith)) ∙ g.line.once t h

pub sent_left : (size : ℕ) (l l' : List ℕ) (t p : ℕ) → Good size l → t < size → l' ≡ end_moved (set l t p) (6 * size) t →
    Left size l' (sent (tables_of size l) t p)
sent_left size l l' t p g h e =
    let is : tables_of size l' ≡ sent (tables_of size l) t p = ap (tables_of size) e ∙ store_sent size l t p g.long h in
    record {
      is = is;
      good =
          record {
            small = g.small;
            long = ap length e ∙ length_moved (set l t p) (6 * size) t ∙ length-set l t p ∙ g.long;
            line =
                rw is
                (record {
                  once = λ s k. sent_count (tables_of size l) t p s ∙ g.line.once s k;
                  no_other = λ s k. sent_count (tables_of size l) t p s ∙ g.line.no_other s k;
                });
          };
    }

-- ---- the search along the line

-- a search that passes over members which fail a test stops at the first that is kept
first_kept : (f : ℕ → Bool) (l : List ℕ) (i : ℕ) → i < length l → f (get_or l i 0) ≡ true →
    ((k : ℕ) → k < i → f (get_or l k 0) ≡ false) → first_of (keep f l) ≡ Some (record { 0 = get_or l i 0 })
first_kept f [] i h passes fail = absurd (omega arith)
first_kept f (x ∷ l) zero h passes fail = ap first_of (keep_in f x l passes)
first_kept f (x ∷ l) (suc i) h passes fail =
    ap first_of (keep_out f x l (fail 0 (omega arith)))
    ∙ first_kept f l i (omega arith) passes (λ k below. fail (suc k) (omega arith))

none_kept : (f : ℕ → Bool) (l : List ℕ) → ((k : ℕ) → k < length l → f (get_or l k 0) ≡ false) → keep f l ≡ []
none_kept f [] fail = keep_nil f
none_kept f (x ∷ l) fail = keep_out f x l (fail 0 (omega arith)) ∙ none_kept f l (λ k below. fail (suc k) (omega arith))

-- a walk by index that asks another test, which agrees with the first at each entry, lets as many pass
passed : (f test : ℕ → Bool) (l : List ℕ) (a : ℕ) → ((k : ℕ) → k < length l → test (a + k) ≡ f (get_or l k 0)) →
    length (filter test (range_with_len a (length l))) ≡ length (keep f l)
passed f test [] a same = ap length (sym (keep_nil f))
passed f test (x ∷ l) a same =
    let at : a + 0 ≡ a = omega arith in
    let here : test a ≡ f x = rw at at (same 0 (omega arith)) in
    let rest : length (filter test (range_with_len (a + 1) (length l))) ≡ length (keep f l) =
    passed f test l (a + 1)
    (λ k below. let on : a + 1 + k ≡ a + suc k = omega arith in ap test on ∙ same (suc k) (omega arith)) in
    cases (f x)
    (λ yes. rw (keep_in f x l yes, here, yes) (ap suc rest))
    (λ no. rw (keep_out f x l no, here, no) rest)

-- those behind which a search starts are not at its place
skipped : (tables : Tables) (place skip : ℕ) (l : List ℕ) → behind tables place skip l → (k : ℕ) → k < skip →
    k < length l → is_at tables place (get_or l k 0) ≡ false
skipped tables place zero l h k before below = absurd (omega arith)
skipped tables place (suc skip) [] h k before below = absurd (omega arith)
skipped tables place (suc skip) (t ∷ rest) h zero before below = h.0
skipped tables place (suc skip) (t ∷ rest) h (suc k) before below =
    skipped tables place skip rest h.1 k (omega arith) (omega arith)

-- whether the thread at k in the line is at a place
abbrev pub standing : ℕ → List ℕ → ℕ → ℕ → Bool
standing size l place k = is_at (tables_of size l) place (get_or (tables_of size l).line k 0)

module _ (size : ℕ) (l : List ℕ) (g : Good size l) where
  pub line_length : length (tables_of size l).line ≡ size
  unfolding tables_of
  line_length = omega (arith, g.long, length-drop (6 * size) l)

  -- entry k of the line, ..
  pub entry : (k : ℕ) → get_or l (6 * size + k) 0 ≡ get_or (tables_of size l).line k 0
  unfolding tables_of
  entry k = sym (get_or-drop (6 * size) l k 0)

  -- .. which is a thread
  pub member : (k : ℕ) → k < size → get_or (tables_of size l).line k 0 < size
  member k below =
      let t : ℕ = get_or (tables_of size l).line k 0 in
      let there : 0 < count t (tables_of size l).line = occurs (tables_of size l).line k (omega (arith, line_length)) in
      less_or_not t size (λ h. h) (λ h. absurd (omega (arith, there, g.line.no_other t h)))

  pub waiting_count : (place : ℕ) →
      length (filter (standing size l place) (range_with_len 0 size)) ≡ length (queue (tables_of size l) place)
  unfolding queue
  waiting_count place =
      let f : ℕ → Bool = is_at (tables_of size l) place in
      let all = passed f (standing size l place) (tables_of size l).line 0 (λ k below. let z : 0 + k ≡ k = omega arith in ap (standing size l place) z) in
      rw line_length at all

  -- what a search along the line found is the first at the place
  module _ (place skip : ℕ) (ahead : Behind (tables_of size l) place skip) where
    before : (i : ℕ) → ((k : ℕ) → skip ≤ k → k < i → standing size l place k ≡ false) →
        i ≤ size → (k : ℕ) → k < i → standing size l place k ≡ false
    before i fail most k below =
        less_or_not k skip
        (λ h. skipped (tables_of size l) place skip (tables_of size l).line ahead k h (omega (arith, line_length)))
        (λ h. fail k h below)

    pub first_found : (i : ℕ) (t : Thread) → t.0 ≡ get_or (tables_of size l).line i 0 → i < size →
        standing size l place i ≡ true →
        ((k : ℕ) → skip ≤ k → k < i → standing size l place k ≡ false) →
        Some t ≡ first (tables_of size l) place
    unfolding first queue
    first_found i t is below passes fail =
        let waiter : ℕ → Option Thread = λ k. Some (record { 0 = k }) in
        ap waiter is
        ∙ sym
        (first_kept (is_at (tables_of size l) place) (tables_of size l).line i (omega (arith, line_length)) passes
        (before i fail (omega arith)))

    pub none_found :
        ((k : ℕ) → skip ≤ k → k < size → standing size l place k ≡ false) →
        None ≡ first (tables_of size l) place
    unfolding first queue
    none_found fail =
        sym
        (ap first_of
        (none_kept (is_at (tables_of size l) place) (tables_of size l).line
        (λ k below. before size fail (omega arith) k (omega (arith, line_length)))))

  -- who is found is a thread
  pub found_real : (place : ℕ) (t : Thread) → first (tables_of size l) place ≡ Some t → t.0 < size
  found_real place t e = by_queue (queue (tables_of size l) place) refl
    where
      who : Option Thread → ℕ
      who (Some x) = x.0
      who None = 0

      by_queue : (q : List ℕ) → queue (tables_of size l) place ≡ q → t.0 < size
      by_queue [] k = absurd (let z : Some t ≡ None = sym e ∙ first_nobody (tables_of size l) place k in let w : ◌≡◌ {A = ℕ} 0 1 = cc in omega arith)
      by_queue (s ∷ rest) k =
          let same : s ≡ t.0 = let z : Some t ≡ Some (record { 0 = s }) = sym e ∙ first_waiter (tables_of size l) place s rest k in ap who (sym z) in
          let there = first_in_line (tables_of size l) place s rest k in
          less_or_not t.0 size (λ j. j) (λ j. absurd (omega (arith, there, rw (← same) at (g.line.no_other t.0 j))))
