-- Walks along a word of digits. Assumes nothing.
use Prim.Native.Nat.{ℕ, ◌+◌, ◌*◌, ◌-◌, ◌≤◌, ◌<◌}
use mathlib.Core.Bool.{Bool, true, false, ◌&&◌}
use mathlib.Core.List.{List, [], ◌∷◌}
use mathlib.Core.Logic.{◌≢◌}
use mathlib.Core.Path.{◌≡◌, refl, sym, ◌∙◌, ap}
use native.Mathlib.Omega.{arith}
use borrow.Author.Tests.{le-ltb, lt-ltb, ne_eqb}
use lib.Dec.{eqb}
use lib.ListN.{length, get_or, take}
use Rattle.std.specs.List.{list_all}
use Rattle.std.proofs.lemmas.List.{take_more}
use Rattle.std.proofs.lemmas.List.Recursion.{and_at}
use Rattle.digits.specs.Reading.{all_digits, capped, is_decimal, is_digit, value_of}
use Rattle.digits.proofs.Undone.{value_snoc}
use Rattle.machine.proofs.Lists.{less_or_not}

-- what an iterator's `all` answers
pub all_listed : (word : List ℕ) → list_all is_digit word ≡ all_digits word
unfolding all_digits
all_listed [] = refl
all_listed (b ∷ rest) = ap (λ (t : Bool). is_digit b && t) (all_listed rest)

-- one of digits alone is a digit
pub one_of : (word : List ℕ) (i : ℕ) → i < length word → all_digits word ≡ true → is_digit (get_or word i 0) ≡ true
unfolding all_digits
one_of word i h e = and_at all_digits is_digit refl (λ b rest. refl) word i 0 h e

-- ---- capped numbers

pub capped_small : (n : ℕ) → n ≤ 1000000000 → capped n ≡ n
capped_small n h = less_or_not n 1000000000 (λ e. rw (lt-ltb n 1000000000 e))
    (λ e. rw (le-ltb n 1000000000 e) (omega (arith, h, e)))

pub capped_large : (n : ℕ) → 1000000000 ≤ n → capped n ≡ 1000000000
capped_large n h = rw (le-ltb n 1000000000 h)

-- a number can be capped on the way
capped_on : (n d : ℕ) → capped (10 * capped n + d) ≡ capped (10 * n + d)
capped_on n d =
    less_or_not n 1000000000 (λ e. rw (capped_small n (omega (arith, e))))
    (λ e.
    rw (capped_large n e)
    (capped_large (10 * 1000000000 + d) (omega arith) ∙ sym (capped_large (10 * n + d) (omega (arith, e)))))

-- the number of one digit more
pub value_on : (word : List ℕ) (i : ℕ) → i < length word →
    capped (10 * capped (value_of (take i word)) + (get_or word i 0 - 48)) ≡ capped (value_of (take (i + 1) word))
value_on word i h =
    capped_on (value_of (take i word)) (get_or word i 0 - 48)
    ∙ ap capped (sym (value_snoc 0 (take i word) (get_or word i 0)))
    ∙ ap (λ (ds : List ℕ). capped (value_of ds)) (sym (take_more word i 0 h))

-- ---- decimal numbers, by their length and first byte

pub no_decimal : (word : List ℕ) → length word < 1 → false ≡ is_decimal word
unfolding is_decimal
no_decimal [] h = refl
no_decimal (b ∷ rest) h = absurd (omega (arith, h))

pub zero_alone : (word : List ℕ) → 1 ≤ length word → get_or word 0 0 ≡ 48 → eqb (length word) 1 ≡ is_decimal word
unfolding is_decimal
zero_alone [] h e = absurd (omega (arith, h))
zero_alone (b ∷ []) h e = rw e
zero_alone (b ∷ c ∷ rest) h e = ne_eqb (length (b ∷ c ∷ rest)) 1 (λ k. omega (arith, k)) ∙ rw e

pub from_other : (word : List ℕ) → 1 ≤ length word → get_or word 0 0 ≢ 48 → all_digits word ≡ is_decimal word
unfolding all_digits is_decimal
from_other [] h e = absurd (omega (arith, h))
from_other (b ∷ []) h e = by_test (is_digit b)
  where
    by_test : (t : Bool) → (t && true) ≡ t
    by_test true = refl
    by_test false = refl
from_other (b ∷ c ∷ rest) h e = rw (ne_eqb b 48 e)
