use Prim.Native.Nat.{◌-◌, ◌≤◌}
use mathlib.Core.Path.{◌≡◌}
use lib.IntN.{pos}
use lib.ListN.{length, replicate}
use lib.Seq.{sets}
use Rattle.machine.specs.Size.{stack_at}
use Rattle.stack.proofs.stack_ops.alloc.Given as goal

abbrev pub invariant-loop-i : goal.invariant-loop-i
invariant-loop-i l =
    (l.cells ≤ l.i)
    × (l.i ≤ l.end)
    × (length l.store ≡ length l.initial.store)
    × (sets l.store (stack_at l.size l.r.thread l.i) (replicate (l.end - l.i) (pos 0))
    ≡ sets l.initial.store (stack_at l.size l.r.thread l.cells) (replicate l.k (pos 0)))

abbrev pub decreases-loop-i : goal.decreases-loop-i
decreases-loop-i l = l.end - l.i
