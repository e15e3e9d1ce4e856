-- The numbers of a text are the kit's: what `io::decimal` promises of its digits makes them `decimal`. Assumes nothing.
use Prim.Native.Nat.{ℕ, zero, suc, ◌/◌, ◌^◌, ◌≤◌, ◌<◌}
use mathlib.Core.Path.{◌≡◌, refl, ap}
use native.Mathlib.Nat.{pow-le-pow_right, pow-suc}
use native.Mathlib.Numerals.{sub-one}
use native.Mathlib.Omega.{arith}
use borrow.Author.Tests.{le-ltb, lt-ltb}
use Rattle.io.specs.Digits.{IsDigitCount, last_digits}
use Rattle.text.specs.Decimal.{decimal, places}

-- a number below 10 has one place
one_place : (n k : ℕ) → n < 10 → IsDigitCount 10 1 n k → 1 ≡ k
one_place n zero small f = omega arith
one_place n (suc zero) small f = refl
one_place n (suc (suc k)) small f =
    let most : 10 ^ suc k ≤ n = rw sub-one at (f.2 (omega arith)) in
    let least : 10 ^ 1 ≤ 10 ^ suc k = pow-le-pow_right {n = 10} (omega arith) {i = 1} {j = suc k} (omega arith) in
    omega arith

-- a tenth of the number has one place less
tenth : (n k : ℕ) → IsDigitCount 10 1 n (suc (suc k)) → IsDigitCount 10 1 (n / 10) (suc k)
tenth n k f =
    let least : 10 ^ suc k ≤ n = rw sub-one at (f.2 (omega arith)) in
    (omega arith, omega (arith, pow-suc 10 (suc k)), λ l. rw sub-one (omega (arith, pow-suc 10 k)))

-- the fewest places are those that `places` finds
pub places_fewest : (fuel n k : ℕ) → n < 10 ^ suc fuel → IsDigitCount 10 1 n k → places fuel n ≡ k
unfolding places
places_fewest zero n k h f = one_place n k h f
places_fewest (suc fuel) n zero h f = omega arith
places_fewest (suc fuel) n (suc zero) h f = rw (lt-ltb n 10 f.1)
places_fewest (suc fuel) n (suc (suc k)) h f =
    let least : 10 ^ suc k ≤ n = rw sub-one at (f.2 (omega arith)) in
    let big : 10 ≤ n = omega (arith, pow-le-pow_right {n = 10} (omega arith) {i = 1} {j = suc k} (omega arith)) in
    rw (le-ltb n 10 big) (ap suc
    (places_fewest fuel (n / 10) (suc k) (omega (arith, pow-suc 10 (suc fuel))) (tenth n k f)))

-- what the kit's `decimal` writes, for every number of 64 bits
pub decimal_is : (n k : ℕ) → n < 2 ^ 64 → IsDigitCount 10 1 n k → last_digits 10 k n ≡ decimal n
unfolding decimal
decimal_is n k h f = rw (places_fewest 19 n k (omega arith) f)
