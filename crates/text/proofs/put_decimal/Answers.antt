-- `text::put_decimal` meets its contract: the kit's digits are the definition's. Assumes nothing.
use native.Mathlib.Omega.{arith}
use mathlib.Core.Path.{◌∙◌}
use Rattle.text.proofs.Decimal.{decimal_is}
use Rattle.text.proofs.Lines.{of}
use Rattle.text.proofs.put_decimal.Goals as goal

pub returns-clause-puts : goal.returns-clause-puts
returns-clause-puts c =
    let fewest = decimal_is _ _ (omega (arith, c.ranges.n)) c.decimal-k.ensures.len in
    of (c.decimal-k.ensures.digits ∙ fewest) c.put_bytes.ensures
