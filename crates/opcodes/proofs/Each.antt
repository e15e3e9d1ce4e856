-- A rule of a list, proved at all of its entries by one test that is computed. Assumes nothing.
use Prim.Native.Nat.{ℕ, zero, suc, ◌+◌, ◌<◌}
use mathlib.Core.Bool.{Bool, true, false, ◌&&◌}
use mathlib.Core.List.{List, [], ◌∷◌}
use mathlib.Core.Path.{◌≡◌, refl}
use native.Mathlib.Omega.{arith}
use lib.ListN.{get_or, length}

-- a failed test did not pass
pub never : {X : Type 0} → false ≡ true → X
never e = absurd (let z : ◌≡◌ {A = ℕ} 0 1 = cc in omega arith)

-- both tests passed
pub and_true : (a b : Bool) → (a && b) ≡ true → (a ≡ true) × (b ≡ true)
and_true true b e = (refl, e)
and_true false b e = never e

module _ {A : Type 0} (test : ℕ → A → Bool) where
  -- the test passes at each entry and its place, counted from one
  abbrev pub each : ℕ → List A → Bool
  each k [] = true
  each k (x ∷ xs) = test k x && each (suc k) xs

  from : (xs : List A) (other : A) (first k : ℕ) → each first xs ≡ true → k < length xs →
      test (first + k) (get_or xs k other) ≡ true
  from [] other first k e h = absurd (omega arith)
  from (x ∷ xs) other first zero e h =
      let here : first + 0 ≡ first = omega arith in
      rw here (and_true (test first x) (each (suc first) xs) e).0
  from (x ∷ xs) other first (suc k) e h =
      let there : first + suc k ≡ suc first + k = omega arith in
      rw there (from xs other (suc first) k (and_true (test first x) (each (suc first) xs) e).1 (omega arith))

  -- so it passes at any of them
  pub at_each : (xs : List A) (other : A) → each 0 xs ≡ true → (k : ℕ) → k < length xs →
      test k (get_or xs k other) ≡ true
  at_each xs other e k h = let here : 0 + k ≡ k = omega arith in rw here at (from xs other 0 k e h)
