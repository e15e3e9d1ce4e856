-- `operators::numbers::binary` meets its contract. Assumes nothing.
use Prim.Native.Nat.{ℕ, ◌-◌}
use mathlib.Core.List.{List}
use mathlib.Core.Path.{◌≡◌, ap, sym, ◌∙◌}
use mathlib.Core.Bool.{Bool, ◌&&◌}
use native.Mathlib.Omega.{arith}
use lib.Dec.{leb}
use lib.IntN.{ℤ, pos}
use lib.ListN.{get_or}
use mir.Syntax.{w64}
use mir.Facts.{to_z-of_z}
use mir.Val.{of_z, to_z}
use Rattle.arithmetic.specs.Arithmetic.{eq_z}
use Rattle.machine.specs.Size.{stack_at}
use Rattle.cells.proofs.Fits.{read_wide}
use Rattle.cells.proofs.Tests.{needs_less, read_back}
use Rattle.cells.proofs.Tried.{carried_out, refused}
use Rattle.operators.specs.Operators.{computed}
use Rattle.operators.proofs.Outcomes.{binary_in, binary_is, binary_lacks, binary_out, not_lacking}
use Rattle.operators.proofs.numbers.binary.Goals as goal
use Rattle.operators.proofs.numbers.binary.Goals.{After-compute, After-lacks_divisor}

-- the cell k from the top, counted from 1
abbrev cell : List ℤ → ℕ → ℕ → ℕ → ℕ → ℤ
cell store size t cells k = get_or store (stack_at size t (cells - k)) (pos 0)

abbrev lacking : ℕ → ℤ → Bool
lacking op b = leb 12 op && eq_z b (pos 0)

-- the divisor was tested ..
divisor : (c : After-lacks_divisor) →
    lacking c.args.op (cell c.args.store.now c.args.size c.args.t c.args.c.cells 1) ≡ c.lacks_divisor.result
divisor c = sym (c.lacks_divisor.ensures ∙ ap (lacking c.args.op) (read_back c.peek-top.type_inv c.peek-top.ensures))

-- .. and the result was computed, as it is read back
number : (c : After-compute) →
    to_z w64 (of_z w64 c.compute.result)
    ≡ computed c.args.op
    (cell c.args.store.now c.args.size c.args.t c.args.c.cells 2)
    (cell c.args.store.now c.args.size c.args.t c.args.c.cells 1)
number c =
    read_wide c.compute.type_inv
    (rw (read_back c.peek-below.type_inv c.peek-below.ensures, read_back c.peek-top.type_inv c.peek-top.ensures) at
    c.compute.ensures)

pub returns-then-cells-lt2 : goal.returns-then-cells-lt2
returns-then-cells-lt2 c n =
    refused λ tables values r.
    binary_is _ n _ _ _ c.requires.add_or_later c.requires.mod_or_sooner ∙ needs_less 2 _ _ (omega arith)

pub returns-then-lacks_divisor : goal.returns-then-lacks_divisor
returns-then-lacks_divisor c n =
    let lacks = divisor (goal.at.returns-then-lacks_divisor c).After-lacks_divisor ∙ c.if-lacks_divisor.true in
    refused λ tables values r.
    binary_lacks _ n _ _ _ c.requires.add_or_later c.requires.mod_or_sooner c.if-cells-lt2.false lacks

pub compute-requires : goal.compute-requires
compute-requires c =
    let lacks = divisor (goal.at.compute-requires c).After-lacks_divisor ∙ c.if-lacks_divisor.false in
    record {
      add_or_later = c.requires.add_or_later;
      has_divisor = rw (read_back c.peek-top.type_inv c.peek-top.ensures) (not_lacking c.args.op _ lacks);
    }

pub returns-in_default : goal.returns-in_default
returns-in_default c n =
    let lacks = divisor (goal.at.returns-in_default c).After-lacks_divisor ∙ c.if-lacks_divisor.false in
    let out = c.in_default.ensures in
    let beyond = rw (number (goal.at.returns-in_default c).After-compute) at out in
    refused λ tables values r.
    binary_out _ n _ _ _ c.requires.add_or_later c.requires.mod_or_sooner c.if-cells-lt2.false lacks beyond

pub returns : goal.returns
returns c n =
    let lacks = divisor (goal.at.returns c).After-lacks_divisor ∙ c.if-lacks_divisor.false in
    let is = number (goal.at.returns c).After-compute in
    let fits = c.in-Ok.ensures in
    let within = rw is at fits.0 in
    rw (c.poke.ensures, fits.1, is, to_z-of_z within)
    (carried_out λ tables values r.
    binary_in _ n _ _ _ c.requires.add_or_later c.requires.mod_or_sooner c.if-cells-lt2.false lacks within)
