-- `tables::owners::owner` meets its contract. Assumes nothing.
use Rattle.tables.proofs.Regions.{read_owner}
use Rattle.tables.proofs.owners.owner.Goals as goal

pub returns : goal.returns
returns c = rw (read_owner _ _ _ c.requires.m_bound) c.owner_at.ensures
