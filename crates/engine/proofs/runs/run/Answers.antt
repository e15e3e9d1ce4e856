-- `engine::runs::run` meets its contract. Assumes nothing.
use mathlib.Core.Logic.{inl, inr}
use native.Mathlib.Omega.{arith}
use Rattle.engine.proofs.Course.{entered, falls, lasts, onward_from}
use Rattle.engine.proofs.runs.run.Goals as goal

pub loop-left-init : goal.loop-left-init
loop-left-init c = entered c.args.card.now.carded c.requires.sound

pub returns-then-registers-ne-RUNNING : goal.returns-then-registers-ne-RUNNING
returns-then-registers-ne-RUNNING c =
    let ends = lasts c.args.card.now.carded c.loop-left.invariant (inr c.if-registers-ne-RUNNING.true) in
    record { is = ends.0; counted = ends.1 }

pub onward-p-requires-clause-sound : goal.onward-p-requires-clause-sound
onward-p-requires-clause-sound c = c.loop-left.invariant.sound

pub loop-left-smaller : goal.loop-left-smaller
loop-left-smaller c =
    falls _ _ _ _ c.onward-p.ensures.under.within c.if-registers-ne-RUNNING.false c.onward-p.ensures.went

pub loop-left-preserved : goal.loop-left-preserved
loop-left-preserved c = onward_from c.args.card.now.carded c.loop-left.invariant c.onward-p.ensures.under

pub returns : goal.returns
returns c =
    let none = inl (omega (arith, c.loop-left-test.false)) in
    let ends = lasts c.args.card.now.carded c.loop-left.invariant none in
    record { is = ends.0; counted = ends.1 }
