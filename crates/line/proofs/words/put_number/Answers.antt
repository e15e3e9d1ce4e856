-- `line::words::put_number` meets its contract. Assumes nothing.
use borrow.Author.Rules.{rules}
use Rattle.text.proofs.Lines.{both}
use Rattle.line.proofs.words.put_number.Goals as goal

pub returns : goal.returns
returns c = record { puts = both c.put_byte-next.ensures c.put_decimal.ensures.puts; upper_bound = search rules }
