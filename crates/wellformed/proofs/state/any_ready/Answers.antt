-- `wellformed::state::any_ready` meets its contract. Assumes nothing.
use Rattle.std.proofs.Common.{rules, refl}
use Rattle.tables.proofs.Tests.{some_range}
use Rattle.wellformed.proofs.state.any_ready.Goals as goal

pub returns : goal.returns
returns c = some_range _ _ _ _ refl (λ x b q k. search rules) c.any.ensures.ran
