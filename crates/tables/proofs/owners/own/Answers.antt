-- `tables::owners::own` meets its contract. Assumes nothing.
use lib.ListN.{length-set}
use Rattle.machine.specs.Tables.{tables_of}
use Rattle.machine.proofs.Queues.{owned_line}
use Rattle.tables.specs.Owners.{number_of}
use Rattle.tables.proofs.Regions.{still_good, store_owner}
use Rattle.tables.proofs.owners.own.Goals as goal

pub returns : goal.returns
returns c =
    let a = c.args in
    rw c.number_of.ensures
    (still_good a.size a.tables.now _ _ c.requires.good (store_owner a.size a.tables.now a.m.0 (number_of a.size a.owner) c.requires.m_bound)
    (owned_line (tables_of a.size a.tables.now) a.m.0 (number_of a.size a.owner)) (simp length-set))
