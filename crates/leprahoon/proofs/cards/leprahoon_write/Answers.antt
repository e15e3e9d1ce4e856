-- `leprahoon::cards::leprahoon_write` meets its contract. Assumes nothing.
use mathlib.Core.Path.{ap, ◌∙◌}
use Rattle.card.specs.Result.{report_of}
use Rattle.leprahoon.proofs.cards.leprahoon_write.Goals as goal

pub returns : goal.returns
returns c =
    record {
      reported = c.list_of_result.ensures ∙ ap report_of c.write.ensures.answered;
      left = c.write.ensures.left;
    }
