use lib.ListN.{set}
use Rattle.tables.proofs.Line.{Walking}
use Rattle.tables.proofs.order.to_end.Given as goal

abbrev pub invariant-loop-carried : goal.invariant-loop-carried
invariant-loop-carried l = Walking (set l.initial.tables l.initial.i l.initial.carried) l.from l.t l.tables l.carried l.i

abbrev pub decreases-loop-carried : goal.decreases-loop-carried
decreases-loop-carried l = l.i
