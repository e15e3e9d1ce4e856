-- `control::control::back` meets its contract. Assumes nothing.
use Prim.Native.Nat.{ℕ, ◌-◌}
use mathlib.Core.Path.{◌≡◌, ◌∙◌}
use lib.IntN.{ℤ, pos, negsuc}
use lib.ListN.{get_or}
use Rattle.machine.specs.Size.{stack_at}
use Rattle.cells.specs.Contract.{index_of}
use Rattle.machine.proofs.Equations.{return_is}
use Rattle.cells.proofs.Tests.{in_value, of_cell, within_in, within_out}
use Rattle.control.proofs.Frames.{frame_in, frame_low, frame_out, goes_back, has_frame, stays}
use Rattle.control.proofs.control.back.Goals as goal
use Rattle.control.proofs.control.back.Goals.{After-checked}

-- a number is not −1
nobody : {a : ℕ} (z : ℤ) → z ≡ pos a → z ≡ negsuc 0 → ⊥
nobody z e f = cc

-- what the check of the caller's FP answered
caller : (c : After-checked) →
    index_of (get_or c.args.store.now (stack_at c.args.size c.args.t (c.args.c.fp - 1)) (pos 0)) c.args.c.fp
    ≡ c.checked.result
caller c = of_cell _ c.peek-caller.type_inv c.peek-caller.ensures c.checked.ensures

pub returns-in_default : goal.returns-in_default
returns-in_default c =
    let out = caller (goal.at.returns-in_default c).After-checked ∙ c.in_default.is in
    stays λ other tables values r.
    return_is _ _ _ ∙ has_frame _ _ _ c.if-c-fp.false ∙ frame_out _ _ _ _ (λ e. other (c.if-c-fp.false, e)) out

pub returns-then-old-lt-NEW_FP : goal.returns-then-old-lt-NEW_FP
returns-then-old-lt-NEW_FP c =
    let old = caller (goal.at.returns-then-old-lt-NEW_FP c).After-checked ∙ c.in-Some.is in
    stays λ other tables values r.
    return_is _ _ _ ∙ has_frame _ _ _ c.if-c-fp.false ∙ frame_low _ _ _ _ _ old c.if-old-lt-NEW_FP.true

pub returns-in_default-checked : goal.returns-in_default-checked
returns-in_default-checked c =
    let old = caller (goal.at.returns-in_default-checked c).After-checked ∙ c.in-Some.is in
    let out = of_cell _ c.peek-after.type_inv c.peek-after.ensures c.checked-2.ensures ∙ c.in_default-checked.is in
    stays λ other tables values r.
    return_is _ _ _ ∙ has_frame _ _ _ c.if-c-fp.false ∙ frame_in _ _ _ _ _ old c.if-old-lt-NEW_FP.false
    ∙ within_out _ _ _ _ out

pub returns : goal.returns
returns c =
    let old = caller (goal.at.returns c).After-checked ∙ c.in-Some.is in
    let after = of_cell _ c.peek-after.type_inv c.peek-after.ensures c.checked-2.ensures ∙ c.in-Some-checked.is in
    goes_back (λ e. nobody _ (in_value _ _ _ old) e.1)
    (λ tables values r.
    return_is _ _ _ ∙ has_frame _ _ _ c.if-c-fp.false ∙ frame_in _ _ _ _ _ old c.if-old-lt-NEW_FP.false
    ∙ within_in _ _ _ _ _ after)
