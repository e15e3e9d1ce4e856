-- Numbers in decimal, the way back: which texts are numbers, and what number each is.
use Rattle.std.specs.Prelude.{ℕ, ◌+◌, ◌*◌, ◌-◌, Bool, true, false, cond, not, ◌&&◌, List, [], ◌∷◌, Option, Some, None, eqb, leb, ltb}

-- `0` to `9`
abbrev pub is_digit : ℕ → Bool
is_digit b = leb 48 b && leb b 57

unfoldable pub all_digits : List ℕ → Bool
all_digits [] = true
all_digits (b ∷ rest) = is_digit b && all_digits rest

-- "in decimal without leading zeros": a digit, or more of which the first is not 0
unfoldable pub is_decimal : List ℕ → Bool
is_decimal [] = false
is_decimal (b ∷ []) = is_digit b
is_decimal (b ∷ c ∷ rest) = is_digit b && (not (eqb b 48) && all_digits (c ∷ rest))

-- the number that digits are, the most significant first, after those of n
unfoldable pub value_from : ℕ → List ℕ → ℕ
value_from n [] = n
value_from n (b ∷ rest) = value_from (10 * n + (b - 48)) rest

abbrev pub value_of : List ℕ → ℕ
value_of digits = value_from 0 digits

-- a number as far as it matters: no operand and no number of cells is as large
abbrev pub capped : ℕ → ℕ
capped n = cond (ltb n 1000000000) n 1000000000

-- a word as a decimal number
abbrev pub decimal_of : List ℕ → Option ℕ
decimal_of word = cond (is_decimal word) (Some (capped (value_of word))) None
