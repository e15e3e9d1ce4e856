-- Laws of a code part's words: the word at an index is the number of its four bytes, and there is a word for each four bytes.
-- Assumes nothing.
use Prim.Native.Nat.{ℕ, zero, suc, ◌+◌, ◌*◌, ◌-◌, ◌/◌, ◌≤◌, ◌<◌}
use mathlib.Core.Path.{◌≡◌, refl, sym, ap, ◌∙◌}
use mathlib.Core.List.{List, [], ◌∷◌}
use native.Mathlib.Nat.{add_assoc}
use native.Mathlib.Omega.{arith}
use lib.ListN.{length, get_or, take, drop, length-drop}
use lib.Seq.{get_or-drop, take_all}
use Rattle.instruction.specs.Bytes.{word_at}
use Rattle.card.specs.Code.{words_of}

-- all that is left after k bytes
pub rest : (k : ℕ) (s : List ℕ) → take (length s - k) (drop k s) ≡ drop k s
rest k s = take_all (length s - k) (drop k s) (omega (arith, length-drop k s))

-- a word of what is left after k bytes
pub word_drop : (k at : ℕ) (s : List ℕ) → word_at (drop k s) at ≡ word_at s (k + at)
word_drop k at s = simp (get_or-drop, add_assoc)

-- four bytes further on, the word at a place is the rest's word
next_word : (a b c d : ℕ) (s : List ℕ) (i : ℕ) → word_at (a ∷ b ∷ c ∷ d ∷ s) (4 * suc i) ≡ word_at s (4 * i)
next_word a b c d s i =
    let four : 4 * suc i ≡ 4 + 4 * i = omega arith in
    ap (word_at (a ∷ b ∷ c ∷ d ∷ s)) four ∙ sym (word_drop 4 (4 * i) (a ∷ b ∷ c ∷ d ∷ s))

pub record Word (code : List ℕ) (i : ℕ) : Type 0 where
  pub there : i < length (words_of code)
  pub is : get_or (words_of code) i 0 ≡ word_at code (4 * i)

pub word : (code : List ℕ) (i : ℕ) → 4 * i + 4 ≤ length code → Word code i
unfolding words_of
word [] i h = absurd (omega arith)
word (a ∷ []) i h = absurd (omega arith)
word (a ∷ b ∷ []) i h = absurd (omega arith)
word (a ∷ b ∷ c ∷ []) i h = absurd (omega arith)
word (a ∷ b ∷ c ∷ d ∷ s) zero h = record { there = omega arith; is = refl }
word (a ∷ b ∷ c ∷ d ∷ s) (suc i) h =
    let r = word s i (omega arith) in
    record { there = omega (arith, r.there); is = r.is ∙ sym (next_word a b c d s i) }

-- it has a word for each four bytes
pub length_words : (code : List ℕ) → length (words_of code) ≡ length code / 4
unfolding words_of
length_words [] = refl
length_words (a ∷ []) = refl
length_words (a ∷ b ∷ []) = refl
length_words (a ∷ b ∷ c ∷ []) = refl
length_words (a ∷ b ∷ c ∷ d ∷ s) = omega (arith, length_words s)

-- so one of 4n bytes has n words
pub count : (code : List ℕ) (n : ℕ) → length code ≡ 4 * n → length (words_of code) ≡ n
count code n h = omega (arith, length_words code, h)
