-- Writing and reading decimal numbers undo each other. Assumes nothing.
use Prim.Native.Nat.{ℕ, zero, suc, ◌+◌, ◌*◌, ◌-◌, ◌/◌, ◌%◌, ◌^◌, ◌≤◌, ◌<◌}
use mathlib.Core.Bool.{true, false, not, ◌&&◌}
use mathlib.Core.List.{List, [], ◌∷◌, ◌++◌, append_assoc, append-nil}
use mathlib.Core.Path.{◌≡◌, refl, ◌∙◌}
use native.Mathlib.Nat.{pow-suc}
use native.Mathlib.Numerals.{sub-one}
use native.Mathlib.Omega.{arith}
use borrow.Author.Tests.{eqb-false, le-leb, le-ltb, leb-true, lt-ltb, ne_eqb, not-true}
use lib.Dec.{eqb, leb}
use lib.ListN.{length}
use Rattle.io.specs.Digits.{IsDigitCount, last_digits, hex_digit_ascii}
use Rattle.text.specs.Decimal.{decimal, places}
use Rattle.digits.specs.Reading.{all_digits, is_decimal, is_digit, value_from, value_of}
use Rattle.text.proofs.Decimal.{places_fewest}
use Rattle.machine.proofs.Every.{and_true, true_and}
use Rattle.machine.proofs.Lists.{less_or_not}

-- ---- digits

pub record Digit (b : ℕ) : Type 0 where
  pub least : 48 ≤ b
  pub most : b ≤ 57

pub digit : (b : ℕ) → is_digit b ≡ true → Digit b
digit b e = let both = and_true (leb 48 b) (leb b 57) e in record {
  least = leb-true 48 b both.0;
  most = leb-true b 57 both.1;
}

glyph_is : (d : ℕ) → d < 10 → hex_digit_ascii d ≡ 48 + d
glyph_is d h = rw (lt-ltb d 10 h)

glyph_digit : (d : ℕ) → d < 10 → is_digit (hex_digit_ascii d) ≡ true
glyph_digit d h = rw (glyph_is d h)
    (true_and (leb 48 (48 + d)) (leb (48 + d) 57) (le-leb 48 (48 + d) (omega arith)) (le-leb (48 + d) 57 (omega arith)))

-- ---- a text of digits as a number

pub value_snoc : (n : ℕ) (ds : List ℕ) (b : ℕ) → value_from n (ds ++ b ∷ []) ≡ 10 * value_from n ds + (b - 48)
unfolding value_from
value_snoc n [] b = refl
value_snoc n (c ∷ rest) b = value_snoc (10 * n + (c - 48)) rest b

-- what was written in enough places is read
pub digits_read : (k n : ℕ) → n < 10 ^ k → value_of (last_digits 10 k n) ≡ n
unfolding value_from
digits_read zero n h = omega (arith, h)
digits_read (suc k) n h =
    value_snoc 0 (last_digits 10 k (n / 10)) (hex_digit_ascii (n % 10))
    ∙ rw (digits_read k (n / 10) (omega (arith, h, pow-suc 10 k)), glyph_is (n % 10) (omega arith)) (omega arith)

-- digits after those of n are the digits of the number that they make
pub digits_after : (k n : ℕ) (ds : List ℕ) (m : ℕ) → m ≡ length ds + k → all_digits ds ≡ true →
    last_digits 10 m (value_from n ds) ≡ last_digits 10 k n ++ ds
unfolding all_digits value_from
digits_after k n [] m same e = let all : m ≡ k = omega (arith, same) in rw (all, append-nil)
digits_after k n (b ∷ rest) m same e =
    let both = and_true (is_digit b) (all_digits rest) e in
    let d = digit b both.0 in
    let front : (10 * n + (b - 48)) / 10 ≡ n = omega (arith, d.least, d.most) in
    let last : (10 * n + (b - 48)) % 10 ≡ b - 48 = omega (arith, d.least, d.most) in
    let shown : hex_digit_ascii (b - 48) ≡ b = glyph_is (b - 48) (omega (arith, d.most)) ∙ omega (arith, d.least) in
    digits_after (suc k) (10 * n + (b - 48)) rest m (omega (arith, same)) both.1
    ∙ rw (front, last, shown, append_assoc)

-- how large it is
pub value_less : (j n : ℕ) (ds : List ℕ) (m : ℕ) → m ≡ length ds + j → all_digits ds ≡ true → n < 10 ^ j →
    value_from n ds < 10 ^ m
unfolding all_digits value_from
value_less j n [] m same e h = let all : m ≡ j = omega (arith, same) in rw all h
value_less j n (b ∷ rest) m same e h =
    let both = and_true (is_digit b) (all_digits rest) e in
    let d = digit b both.0 in
    value_less (suc j) (10 * n + (b - 48)) rest m (omega (arith, same)) both.1 (omega (arith, h, d.most, pow-suc 10 j))

value_least : (j n : ℕ) (ds : List ℕ) (m : ℕ) → m ≡ length ds + j → 10 ^ j ≤ n → 10 ^ m ≤ value_from n ds
unfolding value_from
value_least j n [] m same h = let all : m ≡ j = omega (arith, same) in rw all h
value_least j n (b ∷ rest) m same h =
    value_least (suc j) (10 * n + (b - 48)) rest m (omega (arith, same)) (omega (arith, h, pow-suc 10 j))

-- ---- reading, then writing

pub all_of : (ds : List ℕ) → is_decimal ds ≡ true → all_digits ds ≡ true
unfolding all_digits is_decimal
all_of [] e = refl
all_of (b ∷ []) e = true_and (is_digit b) true e refl
all_of (b ∷ c ∷ rest) e =
    let both = and_true (is_digit b) (not (eqb b 48) && all_digits (c ∷ rest)) e in
    true_and (is_digit b) (all_digits (c ∷ rest)) both.0 (and_true (not (eqb b 48)) (all_digits (c ∷ rest)) both.1).1

-- without leading zeros, it stands in the fewest places
fewest_of : (ds : List ℕ) → is_decimal ds ≡ true → IsDigitCount 10 1 (value_of ds) (length ds)
unfolding is_decimal value_from
fewest_of [] e = absurd (let z : ◌≡◌ {A = ℕ} 0 1 = cc in omega arith)
fewest_of (b ∷ []) e = (omega arith, omega (arith, (digit b e).most), λ h. absurd (omega (arith, h)))
fewest_of (b ∷ c ∷ rest) e =
    let both = and_true (is_digit b) (not (eqb b 48) && all_digits (c ∷ rest)) e in
    let more = and_true (not (eqb b 48)) (all_digits (c ∷ rest)) both.1 in
    let d = digit b both.0 in
    let away = eqb-false b 48 (not-true (eqb b 48) more.0) in
    let first : ℕ = 10 * 0 + (b - 48) in
    let one : 1 ≤ first = omega (arith, d.least, away) in (
      omega arith,
      value_less 1 first (c ∷ rest) (suc (suc (length rest))) (omega arith) more.1 (omega (arith, d.most)),
      λ h. rw sub-one (value_least 0 first (c ∷ rest) (suc (length rest)) (omega arith) one),
    )

pub reads_back : (ds : List ℕ) → is_decimal ds ≡ true → value_of ds < 10 ^ 20 → decimal (value_of ds) ≡ ds
unfolding decimal
reads_back ds e h =
    rw (places_fewest 19 (value_of ds) (length ds) h (fewest_of ds e))
    (digits_after 0 0 ds (length ds) (omega arith) (all_of ds e))

-- ---- writing, then reading

-- the fewest places hold the number
places_hold : (fuel n : ℕ) → n < 10 ^ suc fuel → n < 10 ^ places fuel n
unfolding places
places_hold zero n h = h
places_hold (suc fuel) n h =
    less_or_not n 10 (λ e. rw (lt-ltb n 10 e) e)
    (λ e. rw (le-ltb n 10 e)
    (omega (
      arith,
      places_hold fuel (n / 10) (omega (arith, h, pow-suc 10 (suc fuel))),
      pow-suc
          10 (places fuel (n / 10)),
    )))

pub decimal_read : (n : ℕ) → n < 10 ^ 20 → value_of (decimal n) ≡ n
unfolding decimal
decimal_read n h = digits_read (places 19 n) n (places_hold 19 n h)

all_snoc : (ds : List ℕ) (b : ℕ) → all_digits ds ≡ true → is_digit b ≡ true → all_digits (ds ++ b ∷ []) ≡ true
unfolding all_digits
all_snoc [] b e h = true_and (is_digit b) true h refl
all_snoc (c ∷ rest) b e h =
    let both = and_true (is_digit c) (all_digits rest) e in true_and (is_digit c) (all_digits (rest ++ b ∷ []))
    both.0 (all_snoc rest b both.1 h)

-- what is written is digits
pub digits_all : (k n : ℕ) → all_digits (last_digits 10 k n) ≡ true
unfolding all_digits
digits_all zero n = refl
digits_all (suc k) n = all_snoc (last_digits 10 k (n / 10)) (hex_digit_ascii (n % 10)) (digits_all k (n / 10))
    (glyph_digit (n % 10) (omega arith))

-- a digit more after a number that isn't 0
decimal_snoc : (ds : List ℕ) (b : ℕ) → is_decimal ds ≡ true → 1 ≤ value_of ds → is_digit b ≡ true →
    is_decimal (ds ++ b ∷ []) ≡ true
unfolding all_digits is_decimal value_from
decimal_snoc [] b e one h = absurd (let z : ◌≡◌ {A = ℕ} 0 1 = cc in omega arith)
decimal_snoc (c ∷ []) b e one h =
    let away : eqb c 48 ≡ false = ne_eqb c 48 (λ k. omega (arith, one, k)) in
    true_and (is_digit c) (not (eqb c 48) && all_digits (b ∷ [])) e (rw away (all_snoc [] b refl h))
decimal_snoc (c ∷ d ∷ rest) b e one h =
    let both = and_true (is_digit c) (not (eqb c 48) && all_digits (d ∷ rest)) e in
    let more = and_true (not (eqb c 48)) (all_digits (d ∷ rest)) both.1 in
    true_and (is_digit c) (not (eqb c 48) && all_digits (d ∷ rest ++ b ∷ [])) both.0
    (true_and (not (eqb c 48)) (all_digits (d ∷ rest ++ b ∷ [])) more.0 (all_snoc (d ∷ rest) b more.1 h))

-- what is written has no leading zeros
written : (fuel n : ℕ) → n < 10 ^ suc fuel → is_decimal (last_digits 10 (places fuel n) n) ≡ true
unfolding places is_decimal
written zero n h = glyph_digit (n % 10) (omega arith)
written (suc fuel) n h =
    less_or_not n 10 (λ e. rw (lt-ltb n 10 e) (glyph_digit (n % 10) (omega arith)))
    (λ e.
    let front : n / 10 < 10 ^ suc fuel = omega (arith, h, pow-suc 10 (suc fuel)) in
    let read : value_of (last_digits 10 (places fuel (n / 10)) (n / 10)) ≡ n / 10 =
    digits_read (places fuel (n / 10)) (n / 10) (places_hold fuel (n / 10) front) in
    rw (le-ltb n 10 e) (decimal_snoc (last_digits 10 (places fuel (n / 10)) (n / 10)) (hex_digit_ascii (n % 10))
    (written fuel (n / 10) front) (rw read (omega (arith, e))) (glyph_digit (n % 10) (omega arith))))

pub decimal_written : (n : ℕ) → n < 10 ^ 20 → is_decimal (decimal n) ≡ true
unfolding decimal
decimal_written n h = written 19 n h
