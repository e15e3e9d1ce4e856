-- `digits::value` meets its contract. Assumes nothing.
use mathlib.Core.Path.{refl, ◌∙◌}
use Rattle.digits.specs.Reading.{value_from}
use Rattle.digits.proofs.Walks.{one_of, value_on}
use Rattle.digits.proofs.value.Goals as goal

pub loop-b-init : goal.loop-b-init
unfolding value_from
loop-b-init c = refl

pub longer-n-requires-clause-digit : goal.longer-n-requires-clause-digit
longer-n-requires-clause-digit c = one_of c.args.word.now c.loop-b.b-index c.loop-b-test.true c.requires

pub loop-b-preserved : goal.loop-b-preserved
loop-b-preserved c =
    c.longer-n.ensures ∙ rw c.loop-b.invariant (value_on c.args.word.now c.loop-b.b-index c.loop-b-test.true)
