-- `operators::comparisons::compare` meets its contract. Assumes nothing.
use mathlib.Core.Path.{◌≡◌, refl, ◌∙◌}
use mathlib.Core.Bool.{Bool, true, false}
use native.Mathlib.Omega.{arith}
use lib.IntN.{pos}
use mir.Val.{bool_byte}
use Rattle.machine.specs.Execution.{truth}
use Rattle.cells.proofs.Tests.{needs_less, needs_met, read_back}
use Rattle.cells.proofs.Tried.{carried_out, refused}
use Rattle.operators.proofs.Outcomes.{compare_is}
use Rattle.operators.proofs.comparisons.compare.Goals as goal

pub returns-then-cells-lt2 : goal.returns-then-cells-lt2
returns-then-cells-lt2 c n =
    refused λ tables values r.
    compare_is _ n _ _ _ c.requires.eq_or_later c.requires.leq_or_sooner ∙ needs_less 2 _ _ (omega arith)

-- the byte of a test is the test as a cell
byte_is : (b : Bool) → pos (bool_byte b) ≡ truth b
byte_is true = refl
byte_is false = refl

pub returns : goal.returns
returns c n =
    rw (c.poke.ensures, read_back c.from.type_inv c.from.ensures, byte_is, c.test.ensures)
    (rw (read_back c.peek-below.type_inv c.peek-below.ensures, read_back c.peek-top.type_inv c.peek-top.ensures)
    (carried_out λ tables values r.
    compare_is _ n _ _ _ c.requires.eq_or_later c.requires.leq_or_sooner ∙ needs_met 2 _ _ (omega arith)))
