-- `leprahoon::cards::leprahoon_read` meets its contract. Assumes nothing.
use mathlib.Core.Path.{ap, ◌∙◌}
use Rattle.card.specs.Result.{report_of}
use Rattle.leprahoon.proofs.cards.leprahoon_read.Goals as goal

pub returns : goal.returns
returns c = c.list_of_result.ensures ∙ ap report_of c.read.ensures
