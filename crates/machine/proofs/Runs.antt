-- "Runs of a and then b equal one of a + b, counts added": of the definition `run`, and of the calls. A step is a run of one. Assumes nothing but
-- what `Kept` states, which the machine's invariants supply.
use Prim.Native.Nat.{ℕ, zero, suc, ◌+◌}
use mathlib.Core.Bool.{true, false}
use mathlib.Core.List.{List, append_assoc, append-nil}
use mathlib.Core.Path.{◌≡◌, refl}
use native.Mathlib.Nat.{suc-add, zero-add}
use lib.ListN.{length-append}
use Rattle.card.specs.Image.{read_of}
use Rattle.card.specs.Result.{Result}
use Rattle.card.specs.Result as result
use Rattle.machine.specs.Calls.{Box, box_of, card_of, ran_of, refused, run_call, state_of, step_call, store_fits}
use Rattle.machine.specs.Laws.{then}
use Rattle.machine.specs.Registers.{is_running}
use Rattle.machine.specs.State.{State}
use Rattle.machine.specs.Step.{Ran, carried, count_of, joined, run, step, still}
use Rattle.machine.specs.Tables.{slice_of}
use Rattle.machine.specs.WellFormed.{well_formed}
use Rattle.machine.proofs.Lists.{cases}

module _ (size : ℕ) (words : List ℕ) where
  -- a machine that has stopped stays as it is
  pub run_stopped : (s : State) (m : ℕ) → is_running s.regs ≡ false → run size words s m ≡ still s
  unfolding run
  run_stopped s zero e = refl
  run_stopped s (suc m) e = rw e

  -- one that runs carries out an instruction, and the rest of the run follows
  pub run_more :
      (s : State) (m : ℕ) → is_running s.regs ≡ true →
      run size words s (suc m) ≡ joined (carried size words s) (run size words (carried size words s).state m)
  unfolding run
  run_more s m e = rw e

  -- "Runs of a and then b equal one of a + b"
  pub run_add :
      (s : State) (a b : ℕ) →
      run size words s (a + b) ≡ joined (run size words s a) (run size words (run size words s a).state b)
  unfolding run
  run_add s zero b = rw zero-add
  run_add s (suc a) b = rw suc-add (cases (is_running s.regs) (more (run_add (carried size words s).state a b)) stops)
    where
      more :
          (let u = (carried size words s).state in
          run size words u (a + b) ≡ joined (run size words u a) (run size words (run size words u a).state b)) →
          is_running s.regs ≡ true →
          run size words s (suc (a + b))
          ≡ joined (run size words s (suc a)) (run size words (run size words s (suc a)).state b)
      more ih e = rw (run_more s (a + b) e, run_more s a e, ih, append_assoc)

      stops :
          is_running s.regs ≡ false →
          run size words s (suc (a + b))
          ≡ joined (run size words s (suc a)) (run size words (run size words s (suc a)).state b)
      stops e = rw (run_stopped s (suc (a + b)) e, run_stopped s (suc a) e, run_stopped s b e)

  -- a step is a run of one
  pub step_run : (s : State) → step size words s ≡ run size words s 1
  unfolding step run
  step_run s = rw append-nil

-- ".. counts added"
pub count_add : (first second : Ran) → count_of (joined first second) ≡ count_of first + count_of second
count_add first second = length-append first.trace second.trace

pub run_counts :
    (size : ℕ) (words : List ℕ) (s : State) (a b : ℕ) →
    count_of (run size words s (a + b)) ≡ count_of (run size words s a) + count_of (run size words (run size words s a).state b)
run_counts size words s a b = rw (run_add, length-append)

-- a step call is a run call of one step, whatever it meets
pub step_is_run : (size : ℕ) (image : List ℕ) (box : Box) → step_call size image box ≡ run_call size image 1 box
unfolding step_call run_call
step_is_run size image box = rw step_run

module _ (size : ℕ) (image : List ℕ) (box : Box) where
  -- what a run call gives: refused for the card, ..
  pub run_unread :
      (number place m : ℕ) → read_of image ≡ result.refuses number place → run_call size image m box ≡ refused number place box
  unfolding run_call
  run_unread number place m r = rw r

  -- .. for the store, ..
  pub run_misfit :
      (cells m : ℕ) → read_of image ≡ result.gives cells → store_fits size box.store ≡ false →
      run_call size image m box ≡ refused 6 0 box
  unfolding run_call
  run_misfit cells m r f = rw (r, f)

  -- .. or for the tables, ..
  pub run_unformed :
      (cells m : ℕ) → read_of image ≡ result.gives cells → store_fits size box.store ≡ true →
      well_formed size box.regs box.tables box.values ≡ false →
      run_call size image m box ≡ refused 7 0 box
  unfolding run_call
  run_unformed cells m r f w = rw (r, f, w)

  -- .. or the run of the definition
  pub run_done :
      (cells m : ℕ) → read_of image ≡ result.gives cells → store_fits size box.store ≡ true →
      well_formed size box.regs box.tables box.values ≡ true →
      run_call size image m box ≡ ran_of (run size (card_of image) (state_of size box) m)
  unfolding run_call
  run_done cells m r f w = rw (r, f, w)

-- a box on which a call is not refused is left by a run of m steps as one on which the next call is not refused either, and the next call reads
-- the state that the run came to
abbrev pub Kept : ℕ → List ℕ → ℕ → Box → Type 0
Kept size image m box =
    (cells : ℕ) → read_of image ≡ result.gives cells → store_fits size box.store ≡ true →
    well_formed size box.regs box.tables box.values ≡ true →
    let after = (run size (card_of image) (state_of size box) m).state in
    (store_fits size after.store ≡ true)
    × (well_formed size after.regs (slice_of after.tables) after.values ≡ true)
    × (state_of size (box_of after) ≡ after)

-- "Runs of a and then b equal one of a + b", of the calls. Where the first is refused, all are refused alike, and `Kept` says nothing.
pub runs_add :
    (size : ℕ) (image : List ℕ) (box : Box) (a b : ℕ) → Kept size image a box →
    run_call size image (a + b) box ≡ then (run_call size image a box) (run_call size image b (run_call size image a box).box)
runs_add size image box a b kept = on (read_of image) refl
  where
    Adds : Type 0
    Adds =
        run_call size image (a + b) box
        ≡ then (run_call size image a box) (run_call size image b (run_call size image a box).box)

    ran :
        (cells : ℕ) → read_of image ≡ result.gives cells → store_fits size box.store ≡ true →
        well_formed size box.regs box.tables box.values ≡ true → Adds
    ran cells r f w =
        let k = kept cells r f w in
        let s = (run size (card_of image) (state_of size box) a).state in
        rw (
          run_done size image box cells (a + b) r f w,
          run_done size image box cells a r f w,
          run_done size image (box_of s) cells b r k.0 k.1,
          k.2,
          run_add,
        )

    formed : (cells : ℕ) → read_of image ≡ result.gives cells → store_fits size box.store ≡ true → Adds
    formed cells r f =
        cases (well_formed size box.regs box.tables box.values) (ran cells r f)
        λ w. rw (run_unformed size image box cells (a + b) r f w, run_unformed size image box cells a r f w, run_unformed size image box cells b r f w)

    on : (r : Result) → read_of image ≡ r → Adds
    on (result.refuses number place) r =
        rw (run_unread size image box number place (a + b) r, run_unread size image box number place a r, run_unread size image box number place b r)
    on (result.gives cells) r =
        cases (store_fits size box.store) (formed cells r)
        λ f. rw (run_misfit size image box cells (a + b) r f, run_misfit size image box cells a r f, run_misfit size image box cells b r f)
