-- Laws of cutting: what is cut and put together again is as before, both ways round. Assumes nothing.
use Prim.Native.Nat.{ℕ, suc, ◌+◌, ◌-◌, ◌≤◌, ◌<◌}
use mathlib.Core.Bool.{Bool, true, false, cond, not, ◌&&◌}
use mathlib.Core.List.{List, [], ◌∷◌, ◌++◌}
use mathlib.Core.Path.{◌≡◌, refl, ◌∙◌, ap}
use native.Mathlib.Omega.{arith}
use borrow.Author.Tests.{eqb-true, eq-eqb, not-true}
use lib.Dec.{eqb}
use lib.ListN.{drop, length, length-drop, take}
use native.Mathlib.Numerals.{add-one}
use Rattle.std.proofs.lemmas.List.{take_all}
use Rattle.opcodes.specs.Ascii.{same}
use Rattle.words.specs.Words.{join, lacks, onto, split, up_to}
use Rattle.words.proofs.Clash.{impossible}
use Rattle.machine.proofs.Every.{and_true, true_and}

-- ---- the same word

pub same_self : (a : List ℕ) → same a a ≡ true
unfolding same
same_self [] = refl
same_self (b ∷ bs) = rw (eq-eqb b b refl) (same_self bs)

-- ---- a text by its first separator, at p

pub cut : (sep : ℕ) (l : List ℕ) (p : ℕ) → p ≡ length (up_to sep l) → p < length l →
    split sep l ≡ take p l ∷ split sep (drop (suc p) l)
unfolding split up_to
cut sep [] p e h = absurd (omega (arith, h))
cut sep (b ∷ rest) p e h = by (eqb b sep) refl e (cut sep rest (length (up_to sep rest)) refl)
  where
    by : (t : Bool) → eqb b sep ≡ t → p ≡ length (cond t [] (b ∷ up_to sep rest)) →
        (length (up_to sep rest) < length rest →
        split sep rest ≡ take (length (up_to sep rest)) rest ∷ split sep
        (drop (suc (length (up_to sep rest))) rest)) →
        split sep (b ∷ rest) ≡ take p (b ∷ rest) ∷ split sep (drop (suc p) (b ∷ rest))
    by true t q later = rw (t, q)
    by false t q later = rw (t, q, later (omega (arith, h, q)))

pub whole : (sep : ℕ) (l : List ℕ) → length l ≤ length (up_to sep l) → split sep l ≡ l ∷ []
unfolding split up_to
whole sep [] h = refl
whole sep (b ∷ rest) h = by (eqb b sep) refl h (whole sep rest)
  where
    by : (t : Bool) → eqb b sep ≡ t → suc (length rest) ≤ length (cond t [] (b ∷ up_to sep rest)) →
        (length rest ≤ length (up_to sep rest) → split sep rest ≡ rest ∷ []) → split sep (b ∷ rest) ≡ (b ∷ rest) ∷ []
    by true t q later = absurd (omega (arith, q))
    by false t q later = rw (t, later (omega (arith, q)))

-- ---- a part without a separator

pub part_alone : (sep : ℕ) (l : List ℕ) → lacks sep l ≡ true → split sep l ≡ l ∷ []
unfolding split lacks
part_alone sep [] e = refl
part_alone sep (b ∷ rest) e =
    let both = and_true (not (eqb b sep)) (lacks sep rest) e in
    rw (not-true (eqb b sep) both.0, part_alone sep rest both.1)

pub part_first : (sep : ℕ) (l rest : List ℕ) → lacks sep l ≡ true → split sep (l ++ sep ∷ rest) ≡ l ∷ split sep rest
unfolding split lacks
part_first sep [] rest e = rw (eq-eqb sep sep refl)
part_first sep (b ∷ more) rest e =
    let both = and_true (not (eqb b sep)) (lacks sep more) e in
    rw (not-true (eqb b sep) both.0, part_first sep more rest both.1)

-- ---- the part in front of the first separator, which lies at r

pub taken : (sep : ℕ) (l : List ℕ) → take (length (up_to sep l)) l ≡ up_to sep l
unfolding up_to
taken sep [] = refl
taken sep (b ∷ rest) = by (eqb b sep) (taken sep rest)
  where
    by : (t : Bool) → take (length (up_to sep rest)) rest ≡ up_to sep rest →
        take (length (cond t [] (b ∷ up_to sep rest))) (b ∷ rest) ≡ cond t [] (b ∷ up_to sep rest)
    by true e = refl
    by false e = ap (λ (l : List ℕ). b ∷ l) e

pub part : (sep : ℕ) (l : List ℕ) (at r : ℕ) → r ≡ at + length (up_to sep (drop at l)) →
    take (r - at) (drop at l) ≡ up_to sep (drop at l)
part sep l at r e =
    let size : r - at ≡ length (up_to sep (drop at l)) = omega (arith, e) in
    rw size (taken sep (drop at l))

-- ---- there is always a part

pub record Parts (parts : List (List ℕ)) : Type 0 where
  pub first : List ℕ
  pub others : List (List ℕ)
  pub are : parts ≡ first ∷ others

pub parts : (sep : ℕ) (l : List ℕ) → Parts (split sep l)
unfolding split
parts sep [] = record { first = []; others = []; are = refl }
parts sep (b ∷ rest) = by (eqb b sep) (parts sep rest)
  where
    by : (t : Bool) → Parts (split sep rest) → Parts (cond t ([] ∷ split sep rest) (onto b (split sep rest)))
    by true p = record { first = []; others = split sep rest; are = refl }
    by false p = rw p.are (record { first = b ∷ p.first; others = p.others; are = refl })

-- with a separator there are two
pub record Two (parts : List (List ℕ)) : Type 0 where
  pub first : List ℕ
  pub second : List ℕ
  pub others : List (List ℕ)
  pub are : parts ≡ first ∷ second ∷ others

pub two : (sep : ℕ) (l : List ℕ) → lacks sep l ≡ false → Two (split sep l)
unfolding lacks split
two sep [] e = impossible cc
two sep (b ∷ rest) e = by (eqb b sep) e (two sep rest)
  where
    by : (t : Bool) → (not t && lacks sep rest) ≡ false → (lacks sep rest ≡ false → Two (split sep rest)) →
        Two (cond t ([] ∷ split sep rest) (onto b (split sep rest)))
    by true q later =
        let p = parts sep rest in
        record { first = []; second = p.first; others = p.others; are = ap (λ (ps : List (List ℕ)). [] ∷ ps) p.are }
    by false q later =
        let p = later q in
        rw p.are (record { first = b ∷ p.first; second = p.second; others = p.others; are = refl })

-- ---- put together again

join_onto : (sep b : ℕ) (first : List ℕ) (others : List (List ℕ)) →
    join sep ((b ∷ first) ∷ others) ≡ b ∷ join sep (first ∷ others)
unfolding join
join_onto sep b first [] = refl
join_onto sep b first (next ∷ others) = refl

pub join_split : (sep : ℕ) (l : List ℕ) → join sep (split sep l) ≡ l
unfolding join split
join_split sep [] = refl
join_split sep (b ∷ rest) = by (eqb b sep) refl (parts sep rest) (join_split sep rest)
  where
    by : (t : Bool) → eqb b sep ≡ t → (p : Parts (split sep rest)) → join sep (split sep rest) ≡ rest →
        join sep (cond t ([] ∷ split sep rest) (onto b (split sep rest))) ≡ b ∷ rest
    by true t p e = rw p.are (rw (eqb-true b sep t) (ap (λ (l : List ℕ). sep ∷ l) (rw p.are at e)))
    by false t p e = rw p.are (join_onto sep b p.first p.others ∙ ap (λ (l : List ℕ). b ∷ l) (rw p.are at e))

-- parts that have no separator in them
abbrev pub AllLack : ℕ → List (List ℕ) → Type 0
AllLack sep [] = Unit
AllLack sep (part ∷ parts) = (lacks sep part ≡ true) × AllLack sep parts

pub split_join : (sep : ℕ) (first : List ℕ) (others : List (List ℕ)) → AllLack sep (first ∷ others) →
    split sep (join sep (first ∷ others)) ≡ first ∷ others
unfolding join
split_join sep first [] h = part_alone sep first h.0
split_join sep first (next ∷ others) h = part_first sep first (join sep (next ∷ others)) h.0
    ∙ ap (λ (ps : List (List ℕ)). first ∷ ps) (split_join sep next others h.1)

pub lacks_append : (sep : ℕ) (a b : List ℕ) → lacks sep a ≡ true → lacks sep b ≡ true → lacks sep (a ++ b) ≡ true
unfolding lacks
lacks_append sep [] b e h = h
lacks_append sep (c ∷ rest) b e h =
    let both = and_true (not (eqb c sep)) (lacks sep rest) e in
    true_and (not (eqb c sep)) (lacks sep (rest ++ b)) both.0 (lacks_append sep rest b both.1 h)

-- a text of parts lacks another separator that none of them has
pub lacks_join : (sep other : ℕ) (first : List ℕ) (others : List (List ℕ)) → eqb sep other ≡ false →
    AllLack other (first ∷ others) → lacks other (join sep (first ∷ others)) ≡ true
unfolding join lacks
lacks_join sep other first [] ne h = h.0
lacks_join sep other first (next ∷ others) ne h =
    lacks_append other first (sep ∷ join sep (next ∷ others)) h.0 (rw ne (lacks_join sep other next others ne h.1))

-- ---- a text by its first separator, which lies at r

module _ (sep : ℕ) (l : List ℕ) (r : ℕ) (at : r ≡ 0 + length (up_to sep (drop 0 l))) where
  pub cut_at : r < length l → split sep l ≡ take r l ∷ split sep (drop (r + 1) l)
  cut_at h = rw add-one (cut sep l r (omega (arith, at)) h)

  pub once : r < length l → split sep l ≡ take r l ∷ split sep (take (length l - (r + 1)) (drop (r + 1) l))
  once h =
      let all : take (length l - (r + 1)) (drop (r + 1) l) ≡ drop (r + 1) l =
      take_all _ _ (omega (arith, length-drop (r + 1) l)) in
      rw all (cut_at h)

  pub never_once : r ≡ length l → split sep l ≡ l ∷ []
  never_once h = whole sep l (omega (arith, at, h))
