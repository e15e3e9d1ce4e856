-- `tables::order::in_line` meets its contract. Assumes nothing.
use Rattle.tables.proofs.Line.{entry, member}
use Rattle.tables.proofs.order.in_line.Goals as goal

pub returns-clause-entry : goal.returns-clause-entry
returns-clause-entry c = entry _ _ c.requires.good _

pub returns-clause-thread : goal.returns-clause-thread
returns-clause-thread c = rw (entry _ _ c.requires.good c.args.k) (member _ _ c.requires.good _ c.requires.k_lt_size)
