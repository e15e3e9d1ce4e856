-- `tables::queues::dequeue` meets its contract. Assumes nothing.
use Rattle.std.proofs.Common.{sym, ◌∙◌}
use Rattle.tables.proofs.Line.{found_real}
use Rattle.tables.proofs.queues.dequeue.Goals as goal

pub send-requires-clause-t_lt_size : goal.send-requires-clause-t_lt_size
send-requires-clause-t_lt_size c = found_real _ _ c.requires.good _ _ (sym c.in_ok-t.ensures)

pub returns : goal.returns
returns c =
    let found = c.in_ok-t.ensures in
    record {
      found = found;
      left = c.send.ensures;
      real = λ t e. found_real _ _ c.requires.good _ _ (sym found ∙ e);
    }
