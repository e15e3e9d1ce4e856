-- `engine::turns::turns` meets its contract. Assumes nothing.
use native.Mathlib.Omega.{arith}
use Rattle.engine.proofs.Among.{Taken, among, among_more, houses, joined, live, turn_done, turn_faults, works}
use Rattle.machine.specs.Context.{in_context}
use Rattle.tables.proofs.Idle.{idle_after}
use Rattle.engine.proofs.turns.turns.Goals as goal
use Rattle.engine.proofs.turns.turns.Goals.{After-turn-after, else-loop-left-test, then-loop-left-test+in_default, then-loop-left-test+in-Some+then-not-is_turn}

-- the instruction was taken
taken : (c : After-turn-after) →
    Taken c.args.size c.args.card.now.code.now c.loop-left.store c.loop-left.tables
    (in_context c.args.r c.loop-left.thread c.loop-left.context) c.loop-left.left
    c.turn-after.new.tables c.turn-after.result
taken c =
    record {
      below = c.in-Some.ensures.0;
      some = omega (arith, c.loop-left-test.true);
      turning = (rw c.in-Some.ensures.1 at c.is_turn.ensures).holds c.if-not-is_turn.false;
      same = c.turn-after.auto.tables;
      acts = rw (c.switch-here.ensures, c.in-Some.ensures.1) at c.turn-after.ensures;
    }

pub stretch-first-requires-clause-housed : goal.stretch-first-requires-clause-housed
stretch-first-requires-clause-housed c =
    let seat = c.requires.seated in
    record { tables = _; values = seat.values; r = c.args.r; runs = c.requires.runs; sound = seat.sound }

pub loop-left-init : goal.loop-left-init
loop-left-init c =
    let seat = c.requires.seated in
    among c.args.card.now.carded c.requires.size_bound c.requires.runs
    (record {
      values = seat.values;
      sound = (c.stretch-first.ensures _ seat.values c.args.r c.requires.runs seat.sound).sound;
    })

pub first_living-skip-requires : goal.first_living-skip-requires
first_living-skip-requires c =
    let going = c.loop-left.invariant in record { good = (works going c.in-Some.ensures.0).good; idle = going.idle }

pub turn-after-requires : goal.turn-after-requires
turn-after-requires c =
    let going = c.loop-left.invariant in
    let w = works going c.in-Some.ensures.0 in
    rw c.switch-here.ensures
    record {
      able = w.able;
      good = w.good;
      made = w.made;
      turning = c.is_turn.ensures.holds c.if-not-is_turn.false;
      idle = c.first_living-skip.ensures;
      idle_after = idle_after _ _ (live going) _ c.first_living-skip.ensures;
    }

pub returns-then-after-eq-FAULTED : goal.returns-then-after-eq-FAULTED
returns-then-after-eq-FAULTED c =
    let took = taken (goal.at.returns-then-after-eq-FAULTED c).After-turn-after in
    record {
      under =
          joined c.args.card.now.carded c.requires.runs c.stretch-first.ensures
          (turn_faults c.loop-left.invariant took c.if-after-eq-FAULTED.true);
      ends = λ some runs below. absurd (omega (arith, c.if-after-eq-FAULTED.true, runs));
    }

pub returns-then-after-ne-RUNNING : goal.returns-then-after-ne-RUNNING
returns-then-after-ne-RUNNING c =
    let took = taken (goal.at.returns-then-after-ne-RUNNING c).After-turn-after in
    record {
      under =
          joined c.args.card.now.carded c.requires.runs c.stretch-first.ensures
          (turn_done c.loop-left.invariant took c.if-after-eq-FAULTED.false);
      ends = λ some runs below. absurd (c.if-after-ne-RUNNING.true runs);
    }

pub stretch-more-requires-clause-housed : goal.stretch-more-requires-clause-housed
stretch-more-requires-clause-housed c =
    let took = taken (goal.at.stretch-more-requires-clause-housed c).After-turn-after in
    houses c.loop-left.invariant took c.if-after-ne-RUNNING.false

pub loop-left-smaller : goal.loop-left-smaller
loop-left-smaller c =
    let took = taken (goal.at.loop-left-smaller c).After-turn-after in
    let house = houses c.loop-left.invariant took c.if-after-ne-RUNNING.false in
    let more = c.stretch-more.ensures house.tables house.values house.r house.runs house.sound in
    omega (arith, c.loop-left-test.true, more.within)

pub loop-left-preserved : goal.loop-left-preserved
loop-left-preserved c =
    let took = taken (goal.at.loop-left-preserved c).After-turn-after in
    among_more c.loop-left.invariant took c.if-after-ne-RUNNING.false c.first_living-skip.ensures c.stretch-more.ensures

pub returns : goal.returns
returns c =
    rw c.switch.ensures
    (record {
      under = joined c.args.card.now.carded c.requires.runs c.stretch-first.ensures c.loop-left.invariant.under;
      ends = λ some runs below.
          elim c.loop-left-test.branch [
            | else-loop-left-test w ↦ absurd (omega (arith, some, w.loop-left-test.false))
            | then-loop-left-test+in_default w ↦ absurd (omega (arith, below, w.in_default.ensures))
            | then-loop-left-test+in-Some+then-not-is_turn w ↦
                (rw w.in-Some.ensures.1 at w.is_turn.ensures).fails w.if-not-is_turn.true
          ];
    })
