-- `stack::stack_ops::dup` meets its contract. Assumes nothing.
use mathlib.Core.Path.{◌∙◌}
use native.Mathlib.Omega.{arith}
use Rattle.machine.proofs.Equations.{dup_is}
use Rattle.cells.proofs.Tests.{needs_met}
use Rattle.cells.proofs.Tried.{pushes}
use Rattle.stack.proofs.stack_ops.dup.Goals as goal

pub returns : goal.returns
returns c n =
    pushes c.peek-top.type_inv c.peek-top.ensures (c.loadc.ensures n)
    (λ tables values r. dup_is _ n _ ∙ needs_met 1 _ _ (omega arith))
