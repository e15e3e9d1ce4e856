use Rattle.std.specs.Prelude.{◌≡◌, drop}
use Rattle.machine.specs.WellFormed.{all_below}
use Rattle.ranges.proofs.Seen.{Seen}
use Rattle.ranges.proofs.order.line_fits.Given as goal

-- every number so far is a thread's and was marked; no other is
abbrev pub invariant-loop-t : goal.invariant-loop-t
invariant-loop-t l =
    (all_below l.size l.t-items ≡ all_below l.size (drop l.t-index l.t-items))
    × Seen l.t-items (drop l.t-index l.t-items) l.seen
