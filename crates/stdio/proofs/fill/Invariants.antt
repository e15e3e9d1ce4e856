-- What was read is inside the buffer, which keeps its length. The measure is the room that is left.
use Rattle.std.proofs.Common.{◌≡◌, ◌-◌, ◌^◌, ◌<◌, ◌≤◌, length}
use Rattle.stdio.proofs.fill.Given as goal

abbrev pub invariant-loop-length : goal.invariant-loop-length
invariant-loop-length g l = (length l.buf ≡ length l.initial.buf) × (l.length ≤ length l.buf) × (length l.buf < 2 ^ 64)

abbrev pub decreases-loop-length : goal.decreases-loop-length
decreases-loop-length g l = length l.buf - l.length
