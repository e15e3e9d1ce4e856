-- Numbers in decimal, as the papers write them.
use Rattle.std.specs.Prelude.{ℕ, zero, suc, ◌/◌, cond, List, [], ◌∷◌, ◌≡◌, refl, ltb, ℤ, pos, negsuc}
use Rattle.io.specs.Digits.{last_digits}

-- the fewest decimal places that hold a number, at most k + 1 of them
unfoldable pub places : ℕ → ℕ → ℕ
places zero n = 1
places (suc k) n =
    let more = suc (places k (n / 10)) in
    cond (ltb n 10) 1 more

-- a number below 10^20 in decimal, with no zeros in front: the kit's digits, in the fewest places
unfoldable pub decimal : ℕ → List ℕ
decimal n = last_digits 10 (places 19 n) n

-- a cell in decimal, with `-` in front of a negative one
abbrev pub signed : ℤ → List ℕ
signed (pos k) = decimal k
signed (negsuc k) = 45 ∷ decimal (suc k)

-- the least text, and the longest of a cell: `0` and `-2147483648`
zero_text : signed (pos 0) ≡ 48 ∷ []
unfolding decimal places
zero_text = refl

least_text : signed (negsuc 2147483647) ≡ 45 ∷ 50 ∷ 49 ∷ 52 ∷ 55 ∷ 52 ∷ 56 ∷ 51 ∷ 54 ∷ 52 ∷ 56 ∷ []
unfolding decimal places
least_text = refl
