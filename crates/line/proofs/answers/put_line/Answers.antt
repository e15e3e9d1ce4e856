-- `line::answers::put_line` meets its contract. Assumes nothing.
use Rattle.line.proofs.Runs.{lined}
use Rattle.line.proofs.answers.put_line.Goals as goal

pub returns : goal.returns
returns c = record { puts = lined c.run_card-o.ensures c.put_answer.ensures.puts_line; upper_bound = c.put_answer.ensures.upper_bound }
