-- A walk along a text to its first separator, and along two words. Assumes nothing.
use Prim.Native.Nat.{ℕ, suc, ◌+◌, ◌-◌, ◌≤◌}
use mathlib.Core.Bool.{Bool, true, false, cond, ◌&&◌}
use mathlib.Core.List.{List, [], ◌∷◌}
use mathlib.Core.Path.{◌≡◌, refl, sym, ◌∙◌, ap}
use native.Mathlib.Omega.{arith}
use borrow.Author.Tests.{ltb-false}
use lib.Dec.{eqb, ltb}
use lib.ListN.{drop, length, length-drop, take}
use Rattle.std.specs.Prelude.{Option, None, Some}
use Rattle.std.specs.Cmp.Lexicographic.{pointwise}
use Rattle.std.specs.List.{position, position_or_len}
use Rattle.std.proofs.lemmas.List.{take_all}
use Rattle.std.proofs.lemmas.List.Recursion.{is_position_or_len}
use Rattle.std.proofs.lemmas.Option.{cond_some}
use Rattle.opcodes.specs.Ascii.{same}
use Rattle.words.specs.Words.{up_to}
use Rattle.words.proofs.Clash.{impossible}

-- the place of the first separator is what an iterator's `position` finds
at_sep : (sep : ℕ) (text : List ℕ) → length (up_to sep text) ≡ position_or_len (λ b. eqb b sep) text
unfolding up_to
at_sep sep = is_position_or_len (λ l. length (up_to sep l)) (λ b. eqb b sep) refl
    (λ b rest. by (eqb b sep) (up_to sep rest) b)
  where
    by : (t : Bool) (l : List ℕ) (b : ℕ) → length (cond t [] (b ∷ l)) ≡ cond t 0 (1 + length l)
    by true l b = refl
    by false l b = omega arith

pub up_to_most : (sep : ℕ) (text : List ℕ) → length (up_to sep text) ≤ length text
unfolding up_to
up_to_most sep [] = omega arith
up_to_most sep (b ∷ rest) = by (eqb b sep) (up_to_most sep rest)
  where
    by : (t : Bool) → length (up_to sep rest) ≤ length rest →
        length (cond t [] (b ∷ up_to sep rest)) ≤ suc (length rest)
    by true h = omega arith
    by false h = omega (arith, h)

-- the first separator from `at` on, by the bytes that are left there
abbrev pub from_at : ℕ → List ℕ → ℕ → Option ℕ
from_at sep text at = position (λ b. eqb b sep) (take (length text - at) (drop at text))

-- where `position` found it
module _ (sep : ℕ) (text : List ℕ) (at : ℕ) (found : Option ℕ) (walked : found ≡ from_at sep text at) where
  in_rest : let p = length (up_to sep (drop at text)) in found ≡ cond (ltb p (length (drop at text))) (Some p) None
  in_rest =
      let all : take (length text - at) (drop at text) ≡ drop at text =
      take_all _ _ (omega (arith, length-drop at text)) in
      rw (at_sep sep (drop at text), ← all) walked

  pub at_some : (i : ℕ) → found ≡ Some i → at + i ≡ at + length (up_to sep (drop at text))
  at_some i e = let here = cond_some _ _ i (sym in_rest ∙ e) in omega (arith, here.1)

  pub at_none : found ≡ None → at ≤ length text → length text ≡ at + length (up_to sep (drop at text))
  at_none e h = by (ltb (length (up_to sep (drop at text))) (length (drop at text))) refl (sym in_rest ∙ e)
    where
      by : (t : Bool) → ltb (length (up_to sep (drop at text))) (length (drop at text)) ≡ t →
          cond t (Some (length (up_to sep (drop at text)))) None ≡ None →
          length text ≡ at + length (up_to sep (drop at text))
      by true t q = impossible cc
      by false t q = omega (arith, ltb-false _ _ t, up_to_most sep (drop at text), length-drop at text)

-- what `==` of two slices answers
pub same_listed : (a b : List ℕ) → pointwise eqb a b ≡ same a b
unfolding same
same_listed [] [] = refl
same_listed [] (c ∷ cs) = refl
same_listed (b ∷ bs) [] = refl
same_listed (b ∷ bs) (c ∷ cs) = ap (λ (t : Bool). eqb b c && t) (same_listed bs cs)
