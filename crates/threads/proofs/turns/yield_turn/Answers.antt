-- `threads::turns::yield_turn` meets its contract. Assumes nothing.
use mathlib.Core.Path.{◌∙◌}
use Rattle.machine.proofs.Equations.{carries, yield_is}
use Rattle.threads.proofs.turns.yield_turn.Goals as goal

pub returns : goal.returns
returns c store n values =
    rw c.advance.ensures at (c.block.ensures.is store values) ∙ carries _ n _ _ _ (yield_is _ n _)
