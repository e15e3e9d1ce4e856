-- `line::words::put_halted` meets its contract. Assumes nothing.
use borrow.Author.Rules.{rules}
use Rattle.text.specs.Lines.{line}
use Rattle.text.proofs.Lines.{both}
use Rattle.line.proofs.words.put_halted.Goals as goal

pub returns : goal.returns
unfolding line
returns c = record {
  puts = both c.put_bytes-at.ensures
      (both c.put_number-at.ensures.puts
      (both c.put_byte-at.ensures
      (both c.put_result-at.ensures.puts c.put_byte.ensures)));
  upper_bound = search rules;
}
