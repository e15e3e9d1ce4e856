-- The tests that instructions are made of, once they are decided. Assumes nothing.
use Prim.Native.Nat.{ℕ, ◌+◌, ◌^◌, ◌<◌, ◌≤◌}
use mathlib.Core.Path.{◌≡◌, refl, sym, ◌∙◌}
use mathlib.Core.Bool.{Bool, cond, true, false}
use native.Mathlib.Omega.{arith}
use lib.Dec.{ltb}
use lib.IntN.{ℤ, pos, negsuc, ◌+ℤ◌}
use lib.Signed.{mag}
use mir.Syntax.{w32}
use mir.Val.{SFits, of_z, to_z}
use mir.Facts.{to_z-of_z}
use borrow.Author.Rules.{sfits_of}
use borrow.Author.Tests.{lt-ltb, le-ltb, ltb-true}
use Rattle.std.specs.Prelude.{Option, Some, None}
use Rattle.cells.specs.Contract.{index_of}
use Rattle.machine.specs.Execution.{Outcome, fault, needs, rooms, within}

pub needs_less : (k cells : ℕ) (o : Outcome) → cells < k → needs k cells o ≡ fault 21
unfolding needs
needs_less k cells o h = rw (lt-ltb cells k h)

pub needs_met : (k cells : ℕ) (o : Outcome) → k ≤ cells → needs k cells o ≡ o
unfolding needs
needs_met k cells o h = rw (le-ltb cells k h)

pub rooms_met : (k cells : ℕ) (o : Outcome) → cells + k ≤ 128 → rooms k cells o ≡ o
unfolding rooms
rooms_met k cells o h = rw (le-ltb 128 (cells + k) h)

-- a range check, by what the code's check answered
pub within_in : (z : ℤ) (limit number : ℕ) (f : ℕ → Outcome) (a : ℕ) → index_of z limit ≡ Some a →
    within z limit number f ≡ f a
unfolding within
within_in (pos b) limit number f a e = by_test (ltb b limit) e
  where
    by_test : (t : Bool) → cond t (Some b) None ≡ Some a → cond t (f b) (fault number) ≡ f a
    by_test true k = cc
    by_test false k = cc
within_in (negsuc b) limit number f a e = cc

pub within_out : (z : ℤ) (limit number : ℕ) (f : ℕ → Outcome) → index_of z limit ≡ None →
    within z limit number f ≡ fault number
unfolding within
within_out (pos b) limit number f e = by_test (ltb b limit) e
  where
    by_test : (t : Bool) → cond t (Some b) None ≡ None → cond t (f b) (fault number) ≡ fault number
    by_test true k = cc
    by_test false k = refl
within_out (negsuc b) limit number f e = refl

-- a number that passed is below the limit, and is the cell's value
pub in_below : (z : ℤ) (limit a : ℕ) → index_of z limit ≡ Some a → a < limit
in_below (pos b) limit a e = by_test (ltb b limit) refl e
  where
    by_test : (t : Bool) → ltb b limit ≡ t → cond t (Some b) None ≡ Some a → a < limit
    by_test true h k = let same : b ≡ a = cc in omega (arith, ltb-true b limit h)
    by_test false h k = absurd cc
in_below (negsuc b) limit a e = absurd cc

pub in_value : (z : ℤ) (limit a : ℕ) → index_of z limit ≡ Some a → z ≡ pos a
in_value (pos b) limit a e = by_test (ltb b limit) e
  where
    by_test : (t : Bool) → cond t (Some b) None ≡ Some a → pos b ≡ pos a
    by_test true k = cc
    by_test false k = cc
in_value (negsuc b) limit a e = cc

-- a cell's value z that was read as x, after it went through a local
pub read_back : {x z : ℤ} → mag x < 2 ^ 31 → x ≡ z → to_z w32 (of_z w32 x) ≡ z
read_back {x} f e = to_z-of_z (sfits_of {w = w32} {z = x} f) ∙ e

-- what the check answered of such a value, or of cell FP + k
pub of_cell : (limit : ℕ) {x z : ℤ} {r : Option ℕ} → mag x < 2 ^ 31 → x ≡ z →
    r ≡ index_of (to_z w32 (of_z w32 x)) limit → index_of z limit ≡ r
of_cell limit f e h = sym (rw (read_back f e) at h)

pub of_frame : (fp limit : ℕ) {k : ℤ} {r : Option ℕ} → SFits w32 k →
    r ≡ index_of (pos fp +ℤ to_z w32 (of_z w32 k)) limit → index_of (pos fp +ℤ k) limit ≡ r
of_frame fp limit f h = sym (rw (to_z-of_z f) at h)
