-- `leprahoon::texts::leprahoon_list` meets its contract. Assumes nothing.
use mathlib.Core.Path.{ap, ◌∙◌}
use Rattle.card.specs.Result.{report_of}
use Rattle.leprahoon.proofs.texts.leprahoon_list.Goals as goal

pub returns : goal.returns
returns c =
    record {
      reported = c.list_of_result.ensures ∙ ap report_of c.list_line.ensures.answered;
      left = c.list_line.ensures.left;
    }
