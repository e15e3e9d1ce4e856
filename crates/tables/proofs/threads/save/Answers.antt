-- `tables::threads::save` meets its contract. Assumes nothing.
use lib.ListN.{length-set}
use Rattle.machine.specs.Tables.{tables_of}
use Rattle.machine.proofs.Queues.{saved_line}
use Rattle.tables.proofs.Regions.{still_good, store_saved}
use Rattle.tables.proofs.threads.save.Goals as goal

pub returns : goal.returns
returns c =
    let a = c.args in
    still_good a.size a.tables.now _ _ c.requires.good (store_saved a.size a.tables.now a.t.0 a.context.pc a.context.cells a.context.fp c.requires.t_lt_size)
    (saved_line (tables_of a.size a.tables.now) a.t.0 a.context.pc a.context.cells a.context.fp) (simp length-set)
