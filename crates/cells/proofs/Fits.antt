-- A result that must fit in 32 bits, by the test whether it does. Assumes nothing.
use Prim.Native.Nat.{◌^◌, ◌<◌}
use mathlib.Core.Path.{◌≡◌, refl, ◌∙◌}
use mathlib.Core.Bool.{Bool, true, false}
use lib.Dec.{ltb}
use lib.IntN.{ℤ}
use lib.Signed.{mag}
use mir.Syntax.{w32, w64}
use mir.Val.{SFits, of_z, to_z}
use mir.Facts.{to_z-of_z}
use borrow.Author.Rules.{sfits_of}
use borrow.Author.Tests.{lt-ltb, ltb-true}
use Rattle.machine.specs.Execution.{Outcome, fault, fits}

pub fits_in : {v : ℤ} (f : ℤ → Outcome) → SFits w32 v → fits v f ≡ f v
unfolding fits
fits_in {v} f h = rw (lt-ltb (mag v) 2147483648 h.sfits)

pub fits_out : (v : ℤ) (f : ℤ → Outcome) → (SFits w32 v → ⊥) → fits v f ≡ fault 24
unfolding fits
fits_out v f h = by_test (ltb (mag v) 2147483648) refl
  where
    by_test : (t : Bool) → ltb (mag v) 2147483648 ≡ t → fits v f ≡ fault 24
    by_test true e = absurd (h (sfits_of {w = w32} {z = v} (ltb-true _ _ e)))
    by_test false e = rw e

-- a result z that was computed as x, after it went through a local of 64 bits
pub read_wide : {x z : ℤ} → mag x < 2 ^ 63 → x ≡ z → to_z w64 (of_z w64 x) ≡ z
read_wide {x} wide e = to_z-of_z (sfits_of {w = w64} {z = x} wide) ∙ e
