use Rattle.std.specs.Prelude.{◌≡◌, length}
use Rattle.machine.specs.Tables.{queue, tables_of, wake_all}
use Rattle.tables.specs.Good.{Good}
use Rattle.tables.proofs.queues.wake_all.Given as goal

abbrev pub invariant-loop-t : goal.invariant-loop-t
invariant-loop-t l =
    Good l.size l.tables
    × (wake_all (tables_of l.size l.initial.tables) l.from ≡ wake_all (tables_of l.size l.tables) l.from)

abbrev pub decreases-loop-t : goal.decreases-loop-t
decreases-loop-t l = length (queue (tables_of l.size l.tables) l.from)
