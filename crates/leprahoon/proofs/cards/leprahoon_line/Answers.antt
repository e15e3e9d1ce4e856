-- `leprahoon::cards::leprahoon_line` meets its contract. Assumes nothing.
use mathlib.Core.Path.{ap, ◌∙◌}
use Rattle.card.specs.Result.{value_of}
use Rattle.leprahoon.proofs.cards.leprahoon_line.Goals as goal

pub returns : goal.returns
returns c =
    record {
      answered = c.length_of.ensures ∙ ap value_of c.runner_line.ensures.answered;
      left = c.runner_line.ensures.left;
    }
