use lib.ListN.{length}
use Rattle.machine.specs.Tables.{queue, tables_of}
use Rattle.endings.proofs.Giving.{ToGive}
use Rattle.endings.proofs.delivery.deliver.Given as goal

abbrev pub invariant-loop-t : goal.invariant-loop-t
invariant-loop-t l = ToGive l.size l.from l.v l.initial.store l.initial.tables l.store l.tables

abbrev pub decreases-loop-t : goal.decreases-loop-t
decreases-loop-t l = length (queue (tables_of l.size l.tables) l.from)
