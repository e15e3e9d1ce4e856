-- What runs add up to, and what they count: the laws on runs of specs/Laws.antt. Assumes nothing.
use Prim.Native.Nat.{ℕ, zero, suc}
use mathlib.Core.Path.{◌≡◌, refl, ap, ◌∙◌}
use mathlib.Core.Bool.{Bool, true, false, cond}
use mathlib.Core.List.{List, [], ◌∷◌}
use mathlib.Core.Logic.{◌⊎◌, ◌≢◌, inl, inr}
use native.Mathlib.Omega.{arith}
use lib.Dec.{eqb}
use lib.ListN.{length-append}
use Rattle.machine.specs.Book.{Entry}
use Rattle.machine.specs.Calls.{Box, Report, answer_of, box_of, card_of, count_of, faulted_by, in_state, refused_by, refused_state, run_call, state_of}
use Rattle.machine.specs.Laws.{AnswersAgain, CallCounted, CallCounts, Counted, RunCounts, RunsAdd, StepIsRun}
use Rattle.machine.specs.Registers.{faulted, halted, is_running, running, stopped, stuck}
use Rattle.machine.specs.State.{State, with_regs}
use Rattle.machine.specs.Step.{carried, run}
use Rattle.machine.specs.Step as steps
use Rattle.machine.specs.declared.registers.Registers.{Registers}
use Rattle.machine.proofs.Held.{card_of_lem, held, held_formed, held_store, read_back}
use Rattle.machine.proofs.Laws.{Meets, book_for, fault_keeps, goes, meets, refuses, sound_held}
use Rattle.machine.proofs.Lists.{cases, clash}
use Rattle.machine.proofs.Runs.{Kept, run_done, run_more, run_stopped, runs_add, step_is_run}
use Rattle.machine.proofs.Slices.{slice_tables}
use Rattle.machine.proofs.Steps.{run_right}

-- ---- runs add

kept : (size : ℕ) (image : List ℕ) (m : ℕ) (box : Box) → Kept size image m box
kept size image m box cells r f w =
    let after = run_right size (card_of image) (card_of_lem image cells r) (state_of size box) (book_for size box) (sound_held size box (record { store = f; formed = w })).right m in
    let left = held size _ _ after.right in
    (held_store size _ _ left, held_formed size _ _ left, read_back size _ _ after.right)

pub run_adds : RunsAdd
run_adds size image box a b =
    let whole = runs_add size image box a b (kept size image a box) in
    (whole, ap count_of whole ∙ length-append (run_call size image a box).trace _)

pub step_one : StepIsRun
step_one = step_is_run

-- ---- counts

module _ (size : ℕ) (words : List ℕ) where
  -- a machine that faulted has stopped
  after_fault : (s : State) (number m : ℕ) →
      carried size words s ≡ record { state = with_regs s (stopped s.regs number); trace = [] } →
      is_running s.regs ≡ true → run size words s (suc m) ≡ carried size words s
  after_fault s number m e runs =
      rw (run_more size words s m runs, e, run_stopped size words (with_regs s (stopped s.regs number)) m refl)

  pub counts : (m : ℕ) (s : State) → Counted size words s m
  unfolding run
  counts zero s = record { most = omega arith; fewer = λ h. absurd (omega arith); stays = λ e. refl }
  counts (suc m) s =
      cases (is_running s.regs)
      (λ e. by_outcome e (counts m (carried size words s).state) (fault_keeps size words s))
      (λ e.
      let same = run_stopped size words s (suc m) e in
      record { most = rw same (omega arith); fewer = λ h. rw same e; stays = λ k. same })
    where
      by_outcome : is_running s.regs ≡ true → Counted size words (carried size words s).state m →
          ((entry : Entry) × ((carried size words s).trace ≡ entry ∷ []))
          ⊎ ((number : ℕ) × (carried size words s ≡ record { state = with_regs s (stopped s.regs number); trace = [] })) →
          Counted size words s (suc m)
      by_outcome e rest (inl one) =
          let more = run_more size words s m e in
          let counted : steps.count_of (run size words s (suc m)) ≡ suc (steps.count_of (run size words (carried size words s).state m)) = rw (more, one.1) in
          record {
            most = omega (arith, counted, rest.most);
            fewer = λ h. rw more (rest.fewer (omega (arith, counted)));
            stays = λ k. clash e k;
          }
      by_outcome e rest (inr bad) =
          let same = after_fault s bad.0 m bad.1 e ∙ bad.1 in
          record { most = rw same (omega arith); fewer = λ h. rw same; stays = λ k. clash e k }

pub run_counts : RunCounts
run_counts size words s m = counts size words m s

-- ---- of the calls

-- only a running machine is answered so
says_running : (r : Registers) → answer_of r ≡ in_state running → is_running r ≡ true
says_running r e = by_state (eqb r.state running) (eqb r.state stuck) (eqb r.state faulted) e
  where
    by_state : (a b c : Bool) → cond a (in_state running) (cond b (in_state stuck) (cond c (faulted_by r.fault r.pc) (in_state halted))) ≡ in_state running → a ≡ true
    by_state true b c k = refl
    by_state false true c k = absurd (let other : stuck ≡ running = ap (λ (r : Report). r.state) k in omega arith)
    by_state false false true k = absurd (let other : faulted ≡ running = ap (λ (r : Report). r.state) k in omega arith)
    by_state false false false k = absurd (let other : halted ≡ running = ap (λ (r : Report). r.state) k in omega arith)

not_running : (number place : ℕ) → refused_by number place ≢ in_state running
not_running number place e = let other : refused_state ≡ running = ap (λ (r : Report). r.state) e in omega arith

-- what a call reads of a box is written back as it was
box_back : (size : ℕ) (box : Box) → box_of (state_of size box) ≡ box
box_back size box =
    λ i. record { store = box.store; tables = slice_tables size box.tables i; values = box.values; regs = box.regs }

pub call_counts : CallCounts
call_counts size image box m = by_meeting (meets size image box)
  where
    by_meeting : Meets size image box → CallCounted size image box m
    by_meeting (refuses number place e) =
        record {
          most = rw (e m) (omega arith);
          fewer = λ h. rw (e m) (not_running number place);
          stays = λ k. rw (e m) (refl, refl);
        }
    by_meeting (goes cells r sound e) =
        let c = counts size (card_of image) m (state_of size box) in
        record {
          most = rw (e m) c.most;
          fewer = λ h. rw (e m) (λ k. clash (says_running (run size (card_of image) (state_of size box) m).state.regs k) (c.fewer (rw (e m) at h)));
          stays = λ k. rw (e m, c.stays k) (box_back size box, refl);
        }

pub answers_again : AnswersAgain
answers_again size image cells box m r sound k =
    rw (
      run_done size image box cells m r sound.store sound.formed,
      run_stopped size (card_of image) (state_of size box) m k,
      slice_tables size box.tables,
    )
