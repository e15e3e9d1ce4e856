-- `semaphores::moving::down` meets its contract. Assumes nothing.
use mathlib.Core.Path.{sym, ◌∙◌}
use Rattle.machine.proofs.Equations.{carries, down_is}
use Rattle.cells.proofs.Names.{goes_on}
use Rattle.semaphores.proofs.moving.down.Goals as goal

pub returns : goal.returns
returns c n =
    c.lower.ensures n c.args.store.now
    ∙ carries _ n _ _ _ (down_is _ n _ ∙ goes_on _ _ _ _ _ _ _ _ (sym c.in_ok-k.ensures.found))
