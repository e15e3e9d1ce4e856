-- `tables::order::send` meets its contract. Assumes nothing.
use Rattle.tables.proofs.Line.{once_in_line, sent_left}
use Rattle.tables.proofs.order.send.Goals as goal

pub to_end-requires-clause-tables_value : goal.to_end-requires-clause-tables_value
to_end-requires-clause-tables_value c = once_in_line _ _ _ _ c.requires.good c.requires.t_lt_size

pub returns : goal.returns
returns c = sent_left _ _ _ _ _ c.requires.good c.requires.t_lt_size c.to_end.ensures
