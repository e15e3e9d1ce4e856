-- `engine::cards::Card::count` meets its contract. Assumes nothing.
use native.Mathlib.Omega.{arith}
use Rattle.engine.proofs.Accepted.{long}
use Rattle.engine.proofs.cards.Card.count.Goals as goal

pub returns : goal.returns
returns c = omega (arith, long c.args.self.now.carded)
