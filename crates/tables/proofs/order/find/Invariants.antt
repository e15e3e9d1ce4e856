use Rattle.std.specs.Prelude.{◌≡◌, ◌<◌, ◌≤◌, ℕ, false}
use Rattle.tables.proofs.Line.{standing}
use Rattle.tables.proofs.order.find.Given as goal

abbrev pub invariant-loop-k : goal.invariant-loop-k
invariant-loop-k l = (j : ℕ) → l.skip ≤ j → j < l.k → standing l.size l.tables l.place j ≡ false
