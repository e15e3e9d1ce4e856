-- Laws of numbers in a text: a number that is capped tells the same, and digits have no separator. Assumes nothing.
use Prim.Native.Nat.{ℕ, ◌-◌, ◌^◌, ◌≤◌, ◌<◌}
use mathlib.Core.Bool.{Bool, true, false, cond, not, ◌&&◌}
use mathlib.Core.List.{List, [], ◌∷◌}
use mathlib.Core.Logic.{◌≢◌}
use Rattle.std.specs.Prelude.{None, Some}
use mathlib.Core.Path.{◌≡◌, refl, ◌∙◌}
use native.Mathlib.Omega.{arith}
use borrow.Author.Tests.{eq-eqb, eqb-true, ne_eqb}
use lib.Dec.{eqb}
use lib.IntN.{ℤ, pos, negsuc}
use lib.ListN.{drop, get_or, length, take}
use Rattle.std.specs.Cmp.Lexicographic.{pointwise}
use Rattle.machine.proofs.Every.{and_true}
use Rattle.digits.specs.Reading.{all_digits, capped, is_decimal, is_digit, value_of}
use Rattle.digits.proofs.Undone.{all_of, digit, value_less}
use Rattle.digits.proofs.Walks.{capped_small}
use Rattle.words.specs.Words.{lacks}
use Rattle.words.proofs.Clash.{impossible}
use Rattle.importer.specs.Coding.{address_read}
use Rattle.importer.specs.Forms.{minus_read, operand_read, plain_read}

-- ---- an operand by its first byte

pub minus_first : (word : List ℕ) → pointwise eqb (take 1 word) (45 ∷ []) ≡ true →
    minus_read (drop 1 word) ≡ operand_read word
unfolding operand_read
minus_first [] e = impossible cc
minus_first (b ∷ rest) e = rw (and_true (eqb b 45) true e).0

pub other_first : (word : List ℕ) → pointwise eqb (take 1 word) (45 ∷ []) ≡ false → plain_read word ≡ operand_read word
unfolding is_decimal operand_read
other_first [] e = refl
other_first (b ∷ rest) e = by (eqb b 45) e
  where
    by : (t : Bool) → (t && true) ≡ false → plain_read (b ∷ rest) ≡ cond t (minus_read rest) (plain_read (b ∷ rest))
    by true q = impossible cc
    by false q = refl

pub first_other : (word : List ℕ) → 1 ≤ length word → get_or word 0 0 ≢ 45 → plain_read word ≡ operand_read word
unfolding operand_read
first_other [] h e = absurd (omega (arith, h))
first_other (b ∷ rest) h e = rw (ne_eqb b 45 e)

-- ---- digits have no separator

pub digits_lack : (sep : ℕ) (word : List ℕ) → sep < 48 → all_digits word ≡ true → lacks sep word ≡ true
unfolding all_digits lacks
digits_lack sep [] h e = refl
digits_lack sep (b ∷ rest) h e =
    let both = and_true (is_digit b) (all_digits rest) e in
    rw (ne_eqb b sep (λ same. omega (arith, same, h, (digit b both.0).least))) (digits_lack sep rest h both.1)

pub decimal_lacks : (sep : ℕ) (word : List ℕ) → sep < 48 → is_decimal word ≡ true → lacks sep word ≡ true
decimal_lacks sep word h e = digits_lack sep word h (all_of word e)

pub operand_lacks : (sep : ℕ) (word : List ℕ) (k : ℤ) → sep < 45 → operand_read word ≡ Some k → lacks sep word ≡ true
unfolding lacks operand_read
operand_lacks sep [] k h e = refl
operand_lacks sep (b ∷ rest) k h e = by (eqb b 45) refl e
  where
    after_minus : (t : Bool) → is_decimal rest ≡ t →
        cond (t && not (eqb (value_of rest) 0)) (Some (negsuc (value_of rest - 1))) None ≡ Some k →
        lacks sep rest ≡ true
    after_minus true t q = decimal_lacks sep rest (omega (arith, h)) t
    after_minus false t q = impossible cc

    plain : (t : Bool) → is_decimal (b ∷ rest) ≡ t → cond t (Some (pos (value_of (b ∷ rest)))) None ≡ Some k →
        lacks sep (b ∷ rest) ≡ true
    plain true t q = decimal_lacks sep (b ∷ rest) (omega (arith, h)) t
    plain false t q = impossible cc

    by : (t : Bool) → eqb b 45 ≡ t → cond t (minus_read rest) (plain_read (b ∷ rest)) ≡ Some k →
        lacks sep (b ∷ rest) ≡ true
    by true t q = rw (ne_eqb b sep (λ same. omega (arith, same, h, eqb-true b 45 t)))
        (after_minus (is_decimal rest) refl q)
    by false t q = plain (is_decimal (b ∷ rest)) refl q

-- ---- an address

pub four_digits : (word : List ℕ) (n : ℕ) → length word ≡ 4 → all_digits word ≡ true → n ≡ capped (value_of word) →
    Some n ≡ address_read word
four_digits word n four e is =
    let small : value_of word < 10 ^ 4 = value_less 0 0 word 4 (omega (arith, four)) e (omega arith) in
    let same : n ≡ value_of word = is ∙ capped_small (value_of word) (omega (arith, small)) in
    rw (eq-eqb (length word) 4 four, e, same)
