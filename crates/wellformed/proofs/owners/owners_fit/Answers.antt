-- `wellformed::owners::owners_fit` meets its contract. Assumes nothing.
use Rattle.std.proofs.Common.{rules, refl}
use Rattle.tables.proofs.Tests.{every_range}
use Rattle.wellformed.proofs.owners.owners_fit.Goals as goal

pub returns : goal.returns
returns c = every_range _ _ _ _ refl (λ x b q k. search rules) c.all.ensures.ran
