-- `stack::stack_ops::mark` meets its contract. Assumes nothing.
use mathlib.Core.Path.{refl}
use native.Mathlib.Omega.{arith}
use lib.IntN.{pos}
use Rattle.machine.proofs.Equations.{mark_is}
use Rattle.cells.proofs.Tried.{pushes}
use Rattle.stack.proofs.stack_ops.mark.Goals as goal

pub returns : goal.returns
returns c n = pushes {x = pos c.args.c.fp} (omega arith) refl (c.loadc.ensures n) (λ tables values r. mark_is _ n _)
