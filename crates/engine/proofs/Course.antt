-- A run under way: what was carried out so far, and what is left to do. Assumes nothing.
use Prim.Native.Nat.{ℕ, suc, ◌+◌, ◌-◌, ◌<◌, ◌≤◌}
use mathlib.Core.Path.{◌≡◌, refl, sym, ap, ◌∙◌}
use mathlib.Core.Bool.{cond}
use mathlib.Core.List.{List, [], ◌++◌, append_assoc, append-nil}
use mathlib.Core.Logic.{◌⊎◌, inl, inr, ◌≢◌}
use native.Mathlib.Omega.{arith}
use lib.Dec.{eqb}
use lib.IntN.{ℤ}
use lib.ListN.{length, length-append}
use borrow.Author.Tests.{eq-eqb, ne_eqb}
use Rattle.card.specs.Code.{words_of}
use Rattle.engine.specs.Accepted.{Carded}
use Rattle.engine.specs.Contract.{Carries, Course, Under, state_at}
use Rattle.engine.proofs.Accepted.{card_words}
use Rattle.machine.specs.Calls.{boxed}
use Rattle.machine.proofs.Lists.{same_or_not}
use Rattle.machine.proofs.Laws.{book_for, held_sound, sound_held}
use Rattle.machine.proofs.Runs.{run_more, run_stopped}
use Rattle.machine.proofs.Steady.{Right}
use Rattle.machine.proofs.Steps.{carried_count, carried_right}
use Rattle.machine.specs.Book.{book_of}
use Rattle.machine.specs.Laws.{Sound}
use Rattle.machine.specs.Registers.{faulted, running}
use Rattle.machine.specs.State.{State}
use Rattle.machine.specs.Step.{carried, count_of, joined, run, still}
use Rattle.machine.specs.declared.registers.Registers.{Registers}

module _ (size : ℕ) (words : List ℕ) (start : State) (m : ℕ) where
  -- nothing was carried out yet
  pub begun : Course size words start m start 0
  begun = let all : m - 0 ≡ m = omega arith in record { trace = []; long = refl; within = omega arith; rest = rw all }

  -- all was, or the machine has stopped
  pub over : (s : State) (count : ℕ) → Course size words start m s count → run size words s (m - count) ≡ still s →
      (s ≡ (run size words start m).state) × (count ≡ count_of (run size words start m))
  over s count c e = rw (c.rest, e, append-nil) (refl, sym c.long)

  pub over_done : (s : State) (count : ℕ) → Course size words start m s count → m ≤ count →
      (s ≡ (run size words start m).state) × (count ≡ count_of (run size words start m))
  unfolding run
  over_done s count c h = let none : m - count ≡ 0 = omega arith in over s count c (rw none)

  pub over_stopped : (s : State) (count : ℕ) → Course size words start m s count → s.regs.state ≢ running →
      (s ≡ (run size words start m).state) × (count ≡ count_of (run size words start m))
  over_stopped s count c h = over s count c (run_stopped size words s (m - count) (ne_eqb _ _ h))

  -- one more instruction of a machine that runs
  more : (s u : State) (count rest : ℕ) (c : Course size words start m s count) → m - count ≡ suc rest →
      s.regs.state ≡ running → u ≡ (carried size words s).state →
      run size words start m ≡ joined (record { state = u; trace = c.trace ++ (carried size words s).trace }) (run size words u rest)
  more s u count rest c left runs is = rw (c.rest, left, run_more size words s rest (eq-eqb _ _ runs), is, append_assoc)

  -- .. was carried out
  pub counted : (s u : State) (count : ℕ) → Course size words start m s count → count < m → s.regs.state ≡ running →
      u ≡ (carried size words s).state →
      1 ≡ length (carried size words s).trace → Course size words start m u (count + 1)
  counted s u count c below runs is one =
      let left : m - count ≡ suc (m - (count + 1)) = omega arith in
      record {
        trace = c.trace ++ (carried size words s).trace;
        long = length-append c.trace (carried size words s).trace ∙ rw (c.long, sym one);
        within = omega arith;
        rest = more s u count (m - (count + 1)) c left runs is;
      }

  -- .. or is a fault, and the machine stops
  pub stopped_by_fault : (s u : State) (count : ℕ) → Course size words start m s count → count < m →
      s.regs.state ≡ running → u ≡ (carried size words s).state →
      0 ≡ length (carried size words s).trace → u.regs.state ≢ running → Course size words start m u count
  stopped_by_fault s u count c below runs is none stops =
      let left : m - count ≡ suc (m - (count + 1)) = omega arith in
      let stopped : (k : ℕ) → run size words u k ≡ still u = λ k. run_stopped size words u k (ne_eqb _ _ stops) in
      record {
        trace = c.trace ++ (carried size words s).trace;
        long = omega (arith, length-append c.trace (carried size words s).trace, c.long, none);
        within = c.within;
        rest = more s u count (m - (count + 1)) c left runs is ∙ rw (stopped (m - (count + 1)), stopped (m - count));
      }

  -- what is left has come further
  pub further : (s u : State) (count more : ℕ) → Course size words start m s count →
      Course size words s (m - count) u more → Course size words start m u (count + more)
  further s u count more c d =
      let left : m - count - more ≡ m - (count + more) = omega arith in
      record {
        trace = c.trace ++ d.trace;
        long = length-append c.trace d.trace ∙ rw (c.long, d.long);
        within = omega (arith, c.within, d.within);
        rest = rw (c.rest, d.rest, left, append_assoc);
      }

module _ (size : ℕ) (code : List ℕ) (card : Carded code) (store : List ℤ) (tables : List ℕ) (values : List ℤ)
    (r : Registers) (h : Sound size (boxed store tables values r)) (runs : r.state ≡ running) where
  before : Right size (state_at size store tables values r) (book_for size (boxed store tables values r))
  before = (sound_held size (boxed store tables values r) h).right

  -- a box stays sound
  pub stays_sound : (store' : List ℤ) (tables' : List ℕ) (values' : List ℤ) (q : Registers) →
      length tables' ≡ length tables →
      Carries size code store tables values r store' tables' values' q → Sound size (boxed store' tables' values' q)
  stays_sound store' tables' values' q same is =
      let book = book_for size (boxed store tables values r) in
      let s = state_at size store tables values r in
      held_sound size (boxed store' tables' values' q) (book_of book (carried size (words_of code) s).trace)
      (record {
        right = rw is (carried_right size (words_of code) (card_words card) s book before (eq-eqb _ _ runs)).right;
        sized = same ∙ (sound_held size (boxed store tables values r) h).sized;
      })

  -- the state tells whether an instruction was carried out
  tells : (store' : List ℤ) (tables' : List ℕ) (values' : List ℤ) (q : Registers) →
      Carries size code store tables values r store' tables' values' q →
      cond (eqb q.state faulted) 0 1 ≡ length (carried size (words_of code) (state_at size store tables values r)).trace
  tells store' tables' values' q is =
      ap (λ (s : State). cond (eqb s.regs.state faulted) 0 1) is
      ∙ carried_count size (words_of code) (card_words card) (state_at size store tables values r) (book_for size (boxed store tables values r)) before (eq-eqb _ _ runs)

  pub tells_fault : (store' : List ℤ) (tables' : List ℕ) (values' : List ℤ) (q : Registers) →
      Carries size code store tables values r store' tables' values' q → q.state ≡ faulted →
      0 ≡ length (carried size (words_of code) (state_at size store tables values r)).trace
  tells_fault store' tables' values' q is e = rw (eq-eqb _ _ e) at (tells store' tables' values' q is)

  pub tells_done : (store' : List ℤ) (tables' : List ℕ) (values' : List ℤ) (q : Registers) →
      Carries size code store tables values r store' tables' values' q → q.state ≢ faulted →
      1 ≡ length (carried size (words_of code) (state_at size store tables values r)).trace
  tells_done store' tables' values' q is e = rw (ne_eqb _ _ e) at (tells store' tables' values' q is)

-- a run under way in lent slices
module _ {size : ℕ} {code : List ℕ} (card : Carded code) {m : ℕ} {store₀ : List ℤ} {tables₀ : List ℕ}
    {values₀ : List ℤ} {r₀ : Registers} where
  -- it begins
  pub entered : Sound size (boxed store₀ tables₀ values₀ r₀) →
      Under size code m store₀ tables₀ values₀ r₀ store₀ tables₀ values₀ r₀ m
  entered h =
      let none : m - m ≡ 0 = omega arith in
      record { within = omega arith; sound = h; course = rw none (begun size (words_of code) (state_at size store₀ tables₀ values₀ r₀) m) }

  module _ {store : List ℤ} {tables : List ℕ} {values : List ℤ} {r : Registers} {left : ℕ}
      (u : Under size code m store₀ tables₀ values₀ r₀ store tables values r left) where
    -- it has come further
    pub onward_from : {store' : List ℤ} {tables' : List ℕ} {values' : List ℤ} {q : Registers} {rest : ℕ} →
        Under size code left store tables values r store' tables' values' q rest →
        Under size code m store₀ tables₀ values₀ r₀ store' tables' values' q rest
    onward_from {store'} {tables'} {values'} {q} {rest} v =
        let budget : left ≡ m - (m - left) = omega (arith, u.within) in
        let so_far : m - left + (left - rest) ≡ m - rest = omega (arith, u.within, v.within) in
        let more : Course size (words_of code) (state_at size store tables values r) (m - (m - left)) (state_at size store' tables' values' q) (left - rest) = rw (← budget) v.course in
        record {
          within = omega (arith, u.within, v.within);
          sound = v.sound;
          course = rw so_far at (further size (words_of code) (state_at size store₀ tables₀ values₀ r₀) m _ _ _ _ u.course more);
        }

    -- all was carried out, or the machine has stopped
    pub lasts : (left ≡ 0) ⊎ (r.state ≢ running) →
        (state_at size store tables values r ≡ (run size (words_of code) (state_at size store₀ tables₀ values₀ r₀) m).state)
        × (m - left ≡ count_of (run size (words_of code) (state_at size store₀ tables₀ values₀ r₀) m))
    lasts (inl none) = over_done size (words_of code) (state_at size store₀ tables₀ values₀ r₀) m _ _ u.course (omega (arith, none))
    lasts (inr stops) = over_stopped size (words_of code) (state_at size store₀ tables₀ values₀ r₀) m _ _ u.course stops

    module _ (some : 1 ≤ left) (runs : r.state ≡ running) {store' : List ℤ} {tables' : List ℕ} {values' : List ℤ}
        {q : Registers} (same : length tables' ≡ length tables)
        (is : Carries size code store tables values r store' tables' values' q) where
      sound : Sound size (boxed store' tables' values' q)
      sound = stays_sound size code card store tables values r u.sound runs store' tables' values' q same is

      -- one more instruction is carried out, ..
      pub one_done : q.state ≢ faulted →
          Under size code m store₀ tables₀ values₀ r₀ store' tables' values' q (left - 1)
      one_done fine =
          let one = tells_done size code card store tables values r u.sound runs store' tables' values' q is fine in
          let next : m - left + 1 ≡ m - (left - 1) = omega (arith, u.within) in
          record {
            within = omega (arith, u.within);
            sound = sound;
            course = rw next at (counted size (words_of code) (state_at size store₀ tables₀ values₀ r₀) m _ _ _ u.course (omega (arith, u.within)) runs is one);
          }

      -- .. or it is a fault
      pub one_fault : q.state ≡ faulted → Under size code m store₀ tables₀ values₀ r₀ store' tables' values' q left
      one_fault wrong =
          let none = tells_fault size code card store tables values r u.sound runs store' tables' values' q is wrong in
          record {
            within = u.within;
            sound = sound;
            course = stopped_by_fault size (words_of code) (state_at size store₀ tables₀ values₀ r₀) m _ _ _ u.course (omega (arith, u.within)) runs is none (λ e. omega (arith, wrong, e));
          }

-- what is left of a run: the instructions, and a look at a machine that runs
abbrev pub ahead : ℕ → ℕ → ℕ
ahead left state = left + cond (eqb state running) 1 0

-- it falls where something was carried out, or the machine has stopped
pub falls : (left rest state after : ℕ) → rest ≤ left → state ≡ running → (after ≡ running → rest < left) →
    ahead rest after < ahead left state
falls left rest state after most runs went =
    rw (eq-eqb _ _ runs)
    (same_or_not after running (λ e. rw (eq-eqb _ _ e) (omega (arith, went e))) (λ e. rw (ne_eqb _ _ e) (omega (arith, most))))
