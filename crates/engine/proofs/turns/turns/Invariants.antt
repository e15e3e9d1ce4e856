use Rattle.engine.proofs.Among.{Among}
use Rattle.engine.proofs.turns.turns.Given as goal

abbrev pub invariant-loop-left : goal.invariant-loop-left
invariant-loop-left l =
    Among l.size l.card.code.now l.r l.initial.left l.initial.store l.initial.tables l.initial.thread l.initial.context
    l.store l.tables l.thread l.context l.left l.skip

abbrev pub decreases-loop-left : goal.decreases-loop-left
decreases-loop-left l =
    l.left
