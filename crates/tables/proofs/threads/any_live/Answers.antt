-- `tables::threads::any_live` meets its contract. Assumes nothing.
use Rattle.std.proofs.Common.{rules, refl}
use Rattle.machine.specs.Tables.{any_live}
use Rattle.tables.proofs.Tests.{some_range}
use Rattle.tables.proofs.threads.any_live.Goals as goal

pub returns : goal.returns
unfolding any_live
returns c = some_range _ _ _ _ refl (λ x b q k. search rules) c.any.ensures.ran
