use Prim.Native.Nat.{◌-◌}
use lib.ListN.{length}
use Rattle.opcodes.specs.Page.{page}
use Rattle.opcodes.proofs.Rows.{Filled}
use Rattle.opcodes.proofs.table.rules.Given as goal

abbrev pub invariant-loop-k : goal.invariant-loop-k
invariant-loop-k l = Filled l.rules l.k

abbrev pub decreases-loop-k : goal.decreases-loop-k
decreases-loop-k l = length page - l.k
