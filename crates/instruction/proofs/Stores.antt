-- Bytes stored one after the other. Assumes nothing.
use Prim.Native.Nat.{ℕ, suc, ◌+◌}
use mathlib.Core.Path.{◌≡◌, ap}
use mathlib.Core.List.{List, [], ◌∷◌, ◌++◌}
use native.Mathlib.Omega.{arith}
use lib.ListN.{length, set}
use lib.Seq.{sets}

-- two runs of stores, one after the other, are one
pub sets_append : (xs ys l : List ℕ) (i k : ℕ) → k ≡ i + length xs → sets l i (xs ++ ys) ≡ sets (sets l i xs) k ys
sets_append [] ys l i k e = ap (λ (j : ℕ). sets l j ys) (omega arith)
sets_append (x ∷ xs) ys l i k e = sets_append xs ys (set l i x) (suc i) k (omega arith)
