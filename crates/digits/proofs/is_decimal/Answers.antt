-- `digits::is_decimal` meets its contract. Assumes nothing.
use mathlib.Core.Path.{◌∙◌}
use Rattle.digits.proofs.Walks.{from_other, no_decimal, zero_alone}
use Rattle.digits.proofs.is_decimal.Goals as goal

pub returns-then-word-lt1 : goal.returns-then-word-lt1
returns-then-word-lt1 c = no_decimal _ c.if-word-lt1.true

pub returns-then-word-eq48 : goal.returns-then-word-eq48
returns-then-word-eq48 c = zero_alone _ c.if-word-lt1.false c.if-word-eq48.true

pub returns : goal.returns
returns c = c.all_digits.ensures ∙ from_other _ c.if-word-lt1.false c.if-word-eq48.false
