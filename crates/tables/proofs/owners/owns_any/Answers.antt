-- `tables::owners::owns_any` meets its contract. Assumes nothing.
use Rattle.std.proofs.Common.{rules, refl}
use Rattle.machine.specs.Tables.{owns_any}
use Rattle.tables.proofs.Tests.{some_range}
use Rattle.tables.proofs.owners.owns_any.Goals as goal

pub returns : goal.returns
unfolding owns_any
returns c = some_range _ _ _ _ refl (λ x b q k. search rules) c.any.ensures.ran
