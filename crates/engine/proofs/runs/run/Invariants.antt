use Rattle.engine.specs.Contract.{Under}
use Rattle.engine.proofs.Course.{ahead}
use Rattle.engine.proofs.runs.run.Given as goal

abbrev pub invariant-loop-left : goal.invariant-loop-left
invariant-loop-left l =
    Under l.size l.card.code.now l.m l.initial.store l.initial.tables l.initial.values l.initial.registers
    l.store l.tables l.values l.registers l.left

abbrev pub decreases-loop-left : goal.decreases-loop-left
decreases-loop-left l = ahead l.left l.registers.state
