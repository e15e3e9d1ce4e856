-- `writer::put_code` meets its contract. Assumes nothing.
use mathlib.Core.Path.{sym, ◌∙◌}
use Rattle.writer.proofs.Stores.{none_left, one_more}
use Rattle.writer.proofs.put_code.Goals as goal

pub loop-i-preserved : goal.loop-i-preserved
loop-i-preserved c = c.loop-i.invariant ∙ one_more _ _ _ c.loop-i-test.true ∙ rw c.put_word.ensures

pub returns : goal.returns
returns c = sym (c.loop-i.invariant ∙ none_left _ _ _ c.loop-i-test.false _)
