-- `stack::frames::loadr` meets its contract. Assumes nothing.
use mathlib.Core.Path.{ap, ◌∙◌}
use Rattle.machine.specs.Execution.{rooms}
use Rattle.machine.proofs.Equations.{loadr_is}
use Rattle.cells.proofs.Tests.{of_frame, within_in}
use Rattle.cells.proofs.Tried.{pushes}
use Rattle.stack.proofs.frames.loadr.Goals as goal

pub returns : goal.returns
returns c n =
    let there = of_frame _ _ c.ranges.k c.offset.ensures ∙ c.in-Some.is in
    pushes c.peek-v.type_inv c.peek-v.ensures (c.loadc.ensures n)
    (λ tables values r. loadr_is _ n _ _ ∙ ap (rooms 1 _) (within_in _ _ _ _ _ there))
