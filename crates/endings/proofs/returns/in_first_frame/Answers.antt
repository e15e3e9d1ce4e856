-- `endings::returns::in_first_frame` meets its contract. Assumes nothing.
use Prim.Native.Nat.{ℕ}
use mathlib.Core.Path.{◌≡◌, ap, sym, ◌∙◌}
use native.Mathlib.Omega.{arith}
use lib.IntN.{negsuc}
use borrow.Author.Tests.{eqb-false, eqb-true}
use mir.Facts.{to_z-of_z}
use mir.Syntax.{w32}
use mir.Val.{of_z, to_z}
use borrow.Author.Rules.{sfits_of}
use Rattle.endings.proofs.returns.in_first_frame.Goals as goal

pub returns-then-r-fp : goal.returns-then-r-fp
returns-then-r-fp c = record { holds = λ e. absurd (let z : ◌≡◌ {A = ℕ} 0 1 = cc in omega arith); fails = λ e first. omega (arith, c.if-r-fp.true, first.0) }

pub returns : goal.returns
returns c =
    record {
      holds = λ e. (c.if-r-fp.false, sym c.peek.ensures ∙ sym (to_z-of_z (sfits_of {w = w32} {z = c.peek.result} c.peek.type_inv)) ∙ ap (to_z w32) (eqb-true (of_z w32 c.peek.result) (of_z w32 (negsuc 0)) e));
      fails = λ e first. eqb-false (of_z w32 c.peek.result) (of_z w32 (negsuc 0)) e (ap (of_z w32) (c.peek.ensures ∙ first.1));
    }
