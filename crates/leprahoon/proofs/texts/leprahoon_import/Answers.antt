-- `leprahoon::texts::leprahoon_import` meets its contract. Assumes nothing.
use mathlib.Core.Path.{ap, ◌∙◌}
use Rattle.card.specs.Result.{report_of}
use Rattle.leprahoon.proofs.texts.leprahoon_import.Goals as goal

pub returns : goal.returns
returns c =
    record {
      reported = c.list_of_result.ensures ∙ ap report_of c.import.ensures.answered;
      left = c.import.ensures.left;
    }
