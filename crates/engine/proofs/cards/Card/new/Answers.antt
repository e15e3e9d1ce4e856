-- `engine::cards::Card::new` meets its contract. Assumes nothing.
use Rattle.engine.proofs.Accepted.{quarter, unpacked_all}
use Rattle.engine.proofs.cards.Card.new.Goals as goal

pub unpack-unpacked-requires : goal.unpack-unpacked-requires
unpack-unpacked-requires c = quarter c.requires

pub invariant_of-result : goal.invariant_of-result
invariant_of-result c =
    record { carded = c.requires; unpacked = unpacked_all (quarter c.requires) c.unpack-unpacked.ensures }
