-- `engine::runs::onward` meets its contract. Assumes nothing.
use native.Mathlib.Omega.{arith}
use Rattle.engine.proofs.Course.{one_done, one_fault}
use Rattle.engine.proofs.runs.onward.Goals as goal

pub turns-p-requires-clause-seated : goal.turns-p-requires-clause-seated
turns-p-requires-clause-seated c = record { values = _; sound = c.requires.sound }

pub returns-then-left-eq0 : goal.returns-then-left-eq0
returns-then-left-eq0 c =
    record {
      under = c.turns-p.ensures.under _ c.requires.sound;
      went = λ runs. omega (arith, c.if-left-eq0.true, c.requires.some_left);
    }

pub returns-then-here-ne-RUNNING : goal.returns-then-here-ne-RUNNING
returns-then-here-ne-RUNNING c =
    record {
      under = c.turns-p.ensures.under _ c.requires.sound;
      went = λ runs. absurd (c.if-here-ne-RUNNING.true runs);
    }

pub carry-after-requires-clause-sound : goal.carry-after-requires-clause-sound
carry-after-requires-clause-sound c = (c.turns-p.ensures.under _ c.requires.sound).sound

pub carry-after-requires-clause-others : goal.carry-after-requires-clause-others
carry-after-requires-clause-others c =
    c.turns-p.ensures.ends (omega (arith, c.if-left-eq0.false)) c.if-here-ne-RUNNING.false

pub returns-then-after-eq-FAULTED : goal.returns-then-after-eq-FAULTED
returns-then-after-eq-FAULTED c =
    let came = c.turns-p.ensures.under _ c.requires.sound in
    record {
      under =
          one_fault c.args.card.now.carded came (omega (arith, c.if-left-eq0.false)) c.if-here-ne-RUNNING.false
          c.carry-after.auto.tables c.carry-after.ensures c.if-after-eq-FAULTED.true;
      went = λ runs. absurd (omega (arith, c.if-after-eq-FAULTED.true, runs));
    }

pub returns : goal.returns
returns c =
    let came = c.turns-p.ensures.under _ c.requires.sound in
    record {
      under =
          one_done c.args.card.now.carded came (omega (arith, c.if-left-eq0.false)) c.if-here-ne-RUNNING.false
          c.carry-after.auto.tables c.carry-after.ensures c.if-after-eq-FAULTED.false;
      went = λ runs. omega (arith, came.within, c.if-left-eq0.false);
    }
