-- `line::words::put_refused` meets its contract. Assumes nothing.
use borrow.Author.Rules.{rules}
use Rattle.text.specs.Lines.{line}
use Rattle.text.proofs.Lines.{both}
use Rattle.line.proofs.words.put_refused.Goals as goal

pub returns : goal.returns
unfolding line
returns c = record {
  puts = both c.put_bytes-at.ensures
      (both c.put_number-at.ensures.puts
      (both c.put_number-at-2.ensures.puts c.put_byte.ensures));
  upper_bound = search rules;
}
