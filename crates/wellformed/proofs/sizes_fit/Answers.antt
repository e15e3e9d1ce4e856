-- `wellformed::sizes_fit` meets its contract. Assumes nothing.
use borrow.Author.Tests.{eq-eqb, ne_eqb}
use Rattle.wellformed.proofs.sizes_fit.Goals as goal

pub returns-then-tables-size : goal.returns-then-tables-size
returns-then-tables-size c = rw (eq-eqb _ _ c.if-tables-size.true)

pub returns-else-tables-size : goal.returns-else-tables-size
returns-else-tables-size c = rw (ne_eqb _ _ c.if-tables-size.false)
