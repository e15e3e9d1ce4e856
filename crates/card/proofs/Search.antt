-- Laws of the search for the first bad instruction, for a loop that has come to index i: it finds what the whole search finds.
-- Assumes nothing.
use Prim.Native.Nat.{ℕ, suc, ◌+◌, ◌≤◌, ◌<◌}
use mathlib.Core.Path.{◌≡◌}
use mathlib.Core.List.{List, [], ◌∷◌}
use native.Mathlib.Numerals.{add-one}
use native.Mathlib.Omega.{arith}
use lib.IntN.{ℤ}
use lib.ListN.{length, get_or, drop, drop_of_length-le}
use lib.Seq.{drop-cons}
use Rattle.instruction.specs.Rules.{Verdict, check_of}
use Rattle.instruction.specs.Rules as verdict
use Rattle.card.specs.Code.{Fine, Bad, first_bad, or_else, scan_of}

-- what the search finds lies in the list
pub index_below : (last : ℤ) (ws : List ℕ) (i : ℕ) {number index : ℕ} → first_bad last i ws ≡ Bad number index →
    index < i + length ws
unfolding first_bad
index_below last [] i e = absurd (let z : ◌≡◌ {A = ℕ} 0 1 = cc in omega arith)
index_below last (w ∷ ws) i {number} {index} e = below (check_of last w) (index_below last ws (suc i)) e
  where
    below : (v : Verdict) → (first_bad last (suc i) ws ≡ Bad number index → index < suc i + length ws) →
        or_else (scan_of v i) (first_bad last (suc i) ws) ≡ Bad number index → index < i + suc (length ws)
    below verdict.Fine later r = omega (arith, later r)
    below verdict.BadOpcode later r = let same : i ≡ index = cc in omega arith
    below verdict.BadOperand later r = let same : i ≡ index = cc in omega arith

module _ (last : ℤ) (ws : List ℕ) (i : ℕ) where
  -- past the last word nothing is bad
  pub ends : length ws ≤ i → first_bad last i (drop i ws) ≡ Fine
  unfolding first_bad
  ends h = rw (drop_of_length-le ws h)

  module _ (there : i < length ws) (w : ℕ) (is : w ≡ get_or ws i 0) where
    -- the search from i looks at word i first
    from : first_bad last i (drop i ws)
        ≡ or_else (scan_of (check_of last w) i) (first_bad last (suc i) (drop (suc i) ws))
    unfolding first_bad
    from = rw (drop-cons ws i 0 there, is)

    -- a bad word ends the search, ..
    pub stops : (number index : ℕ) → first_bad last 0 ws ≡ first_bad last i (drop i ws) →
        Bad number index ≡ scan_of (check_of last w) i → Bad number index ≡ first_bad last 0 ws
    stops number index so_far e = rw (so_far, from, ← e)

    -- .. and after a good one it goes on
    pub goes_on : Fine ≡ scan_of (check_of last w) i →
        first_bad last i (drop i ws) ≡ first_bad last (i + 1) (drop (i + 1) ws)
    goes_on e = rw (from, ← e, add-one)

-- what the search finds has number 4 or 5
pub found_number : (last : ℤ) (ws : List ℕ) (i : ℕ) {number index : ℕ} → first_bad last i ws ≡ Bad number index →
    (4 ≤ number) × (number ≤ 5)
unfolding first_bad
found_number last [] i e = absurd (let z : ◌≡◌ {A = ℕ} 0 1 = cc in omega arith)
found_number last (w ∷ ws) i {number} {index} e = by_verdict (check_of last w) (found_number last ws (suc i)) e
  where
    by_verdict : (v : Verdict) → (first_bad last (suc i) ws ≡ Bad number index → (4 ≤ number) × (number ≤ 5)) →
        or_else (scan_of v i) (first_bad last (suc i) ws) ≡ Bad number index → (4 ≤ number) × (number ≤ 5)
    by_verdict verdict.Fine later r = later r
    by_verdict verdict.BadOpcode later r = let same : 4 ≡ number = cc in omega arith
    by_verdict verdict.BadOperand later r = let same : 5 ≡ number = cc in omega arith
