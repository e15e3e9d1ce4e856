-- `digits::read_decimal` meets its contract. Assumes nothing.
use mathlib.Core.Path.{sym, ◌∙◌}
use Rattle.digits.proofs.Undone.{all_of}
use Rattle.digits.proofs.read_decimal.Goals as goal

pub value-requires : goal.value-requires
value-requires c = all_of _ (sym c.is_decimal.ensures ∙ c.if-is_decimal.true)
