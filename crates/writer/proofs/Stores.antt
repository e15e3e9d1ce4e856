-- Laws of a list of words as bytes. Assumes nothing.
use Prim.Native.Nat.{ℕ, suc, ◌+◌, ◌*◌, ◌<◌, ◌≤◌}
use mathlib.Core.Path.{◌≡◌, refl, sym, ap, ◌∙◌}
use mathlib.Core.List.{List, [], ◌∷◌, ◌++◌}
use native.Mathlib.Numerals.{add-one}
use native.Mathlib.Omega.{arith}
use lib.ListN.{length, get_or, drop, drop_of_length-le}
use lib.Seq.{sets, drop-cons, sets-eq}
use Rattle.instruction.specs.Bytes.{word_bytes}
use Rattle.instruction.proofs.Stores.{sets_append}
use Rattle.writer.specs.Writing.{header_of, image_of, words_bytes}

-- a list of words has four bytes for each
pub length_bytes : (ws : List ℕ) → length (words_bytes ws) ≡ 4 * length ws
unfolding words_bytes
length_bytes [] = refl
length_bytes (w ∷ ws) = omega (arith, length_bytes ws)

pub length_image : (cells : ℕ) (ws : List ℕ) → length (image_of cells ws) ≡ 9 + 4 * length ws
length_image cells ws = omega (arith, length_bytes ws)

module _ (ws out : List ℕ) (i : ℕ) where
  -- one word of a list is stored, and the rest is left
  pub one_more : i < length ws →
      sets out (9 + 4 * i) (words_bytes (drop i ws))
      ≡ sets (sets out (9 + 4 * i) (word_bytes (get_or ws i 0))) (9 + 4 * (i + 1)) (words_bytes (drop (i + 1) ws))
  unfolding words_bytes
  one_more h =
      let four : suc (suc (suc (suc (9 + 4 * i)))) ≡ 9 + 4 * suc i = omega arith in
      rw (add-one, drop-cons ws i 0 h, ← four)

  -- nothing is left past the last
  pub none_left : length ws ≤ i → (at : ℕ) → sets out at (words_bytes (drop i ws)) ≡ out
  unfolding words_bytes
  none_left h at = rw (drop_of_length-le ws h)

-- the header and the instructions, stored one after the other, are the image before what was there
pub whole : (cells : ℕ) (ws out : List ℕ) → 9 + 4 * length ws ≤ length out →
    sets (sets out 0 (header_of cells (length ws))) 9 (words_bytes ws) ≡ image_of cells ws ++ drop (9 + 4 * length ws) out
whole cells ws out h =
    let size : 0 + length (image_of cells ws) ≡ 9 + 4 * length ws = omega (arith, length_bytes ws) in
    sym (sets_append (header_of cells (length ws)) (words_bytes ws) out 0 9 refl)
    ∙ sets-eq (image_of cells ws) out 0 (omega arith)
    ∙ ap (λ (k : ℕ). image_of cells ws ++ drop k out) size
