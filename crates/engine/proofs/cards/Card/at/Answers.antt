-- `engine::cards::Card::at` meets its contract. Assumes nothing.
use native.Mathlib.Omega.{arith}
use Rattle.engine.proofs.Accepted.{long}
use Rattle.engine.proofs.cards.Card.at.Goals as goal

pub fetch-requires : goal.fetch-requires
fetch-requires c = omega (arith, c.if-count-pc.false, c.count.ensures, long c.args.self.now.carded)
