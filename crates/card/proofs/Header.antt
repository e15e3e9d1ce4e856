-- Laws of the header's tests: what holds of an image that passes them, and what acceptance says. Assumes nothing.
use Prim.Native.Nat.{ℕ, ◌+◌, ◌*◌, ◌≤◌}
use mathlib.Core.Path.{◌≡◌, refl, ap}
use mathlib.Core.Bool.{Bool, true, false, cond, not, ◌||◌}
use mathlib.Core.List.{List}
use native.Mathlib.Omega.{arith}
use lib.Dec.{ltb, eqb}
use lib.IntN.{ℤ}
use lib.ListN.{length, drop}
use borrow.Author.Tests.{ltb-false, eqb-true, not-false, le-ltb, eq-eqb}
use Rattle.card.specs.Code.{Scan, Fine, Bad, first_bad, words_of}
use Rattle.card.specs.Image.{Headed, cells_of, code_of, count_of, following_of, version_of, length_wrong, version_wrong, out_of_range, sizes_wrong, header_size, last_of, placed, read_code, read_of}
use Rattle.card.specs.Result.{gives, refuses}
use Rattle.card.proofs.Search.{found_number}

-- both tests failed
pub or_false : (a b : Bool) → (a || b) ≡ false → (a ≡ false) × (b ≡ false)
or_false true b e = absurd (let z : ◌≡◌ {A = ℕ} 0 1 = cc in omega arith)
or_false false b e = (refl, e)

-- number 1 is not given
pub record Long (image : List ℕ) : Type 0 where
  pub follows : 4 + following_of image ≡ length image
  pub least : 5 ≤ following_of image

pub long : (image : List ℕ) → length_wrong image ≡ false → Long image
long image e =
    let r = (or_false (ltb (length image) 4) _ e).1 in
    let s = or_false (not (eqb (4 + following_of image) (length image))) _ r in
    record {
      follows = eqb-true _ _ (not-false _ s.0);
      least = ltb-false _ _ s.1;
    }

-- a number from 1 to 4,096
pub record InRange (x : ℕ) : Type 0 where
  pub some : 1 ≤ x
  pub most : x ≤ 4096

pub in_range : (x : ℕ) → out_of_range x ≡ false → InRange x
in_range x e =
    let r = or_false (ltb x 1) _ e in
    record { some = ltb-false _ _ r.0; most = ltb-false _ _ r.1 }

-- number 3 is not given
pub record Sized (image : List ℕ) : Type 0 where
  pub cells : InRange (cells_of image)
  pub count : InRange (count_of image)
  pub exact : following_of image ≡ 5 + 4 * count_of image

pub sized : (image : List ℕ) → sizes_wrong image ≡ false → Sized image
sized image e =
    let r = or_false (out_of_range (cells_of image)) _ e in
    let s = or_false (out_of_range (count_of image)) _ r.1 in
    record {
      cells = in_range _ r.0;
      count = in_range _ s.0;
      exact = eqb-true _ _ (not-false _ s.1);
    }

pub headed : (image : List ℕ) → Long image → Sized image → Headed image
headed image l s =
    record {
      sized = omega (arith, l.follows, s.exact);
      some = s.count.some;
      most = s.count.most;
    }

-- what acceptance says of an image
pub record Accepts (image : List ℕ) (cells : ℕ) : Type 0 where
  pub long : Long image
  pub version : version_of image ≡ 1
  pub sized : Sized image
  pub globals : cells_of image ≡ cells
  pub code : first_bad (last_of (count_of image)) 0 (words_of (drop header_size image)) ≡ Fine

never : {X : Type 0} {number place cells : ℕ} → refuses number place ≡ gives cells → X
never e = absurd (let z : ◌≡◌ {A = ℕ} 0 1 = cc in omega arith)

good_code : (g : ℕ) (s : Scan) {cells : ℕ} → placed g s ≡ gives cells → (g ≡ cells) × (s ≡ Fine)
good_code g Fine e = (cc, refl)
good_code g (Bad number index) e = never e

pub accepts : (image : List ℕ) (cells : ℕ) → read_of image ≡ gives cells → Accepts image cells
unfolding read_of read_code
accepts image cells e = first (length_wrong image) refl e
  where
    third : length_wrong image ≡ false → version_wrong image ≡ false → (b : Bool) → sizes_wrong image ≡ b →
        cond b (refuses 3 5) (read_code image) ≡ gives cells → Accepts image cells
    third l v true t r = never r
    third l v false t r =
        let g = good_code (cells_of image) _ r in
        record {
          long = long image l;
          version = eqb-true _ _ (not-false _ v);
          sized = sized image t;
          globals = g.0;
          code = g.1;
        }

    second : length_wrong image ≡ false → (b : Bool) → version_wrong image ≡ b →
        cond b (refuses 2 4) (cond (sizes_wrong image) (refuses 3 5) (read_code image)) ≡ gives cells →
        Accepts image cells
    second l true v r = never r
    second l false v r = third l v (sizes_wrong image) refl r

    first : (b : Bool) → length_wrong image ≡ b →
        cond b (refuses 1 0) (cond (version_wrong image) (refuses 2 4) (cond (sizes_wrong image) (refuses 3 5) (read_code image))) ≡ gives cells → Accepts image cells
    first true l r = never r
    first false l r = second l (version_wrong image) refl r

-- its code part
pub code_part : (image : List ℕ) (cells : ℕ) → read_of image ≡ gives cells → code_of image ≡ drop header_size image
unfolding code_of
code_part image cells e = rw e

-- both tests fail
pub neither : (a b : Bool) → a ≡ false → b ≡ false → (a || b) ≡ false
neither a b p q = rw (p, q)

pub not_out : (x : ℕ) → InRange x → out_of_range x ≡ false
not_out x r = neither (ltb x 1) (ltb 4096 x) (le-ltb x 1 r.some) (le-ltb 4096 x r.most)

-- and such an image is accepted
pub accepted : (image : List ℕ) (cells : ℕ) → Accepts image cells → read_of image ≡ gives cells
unfolding read_of read_code
accepted image cells a =
    let l : length_wrong image ≡ false =
    neither (ltb (length image) 4) _ (le-ltb (length image) 4 (omega (arith, a.long.follows)))
    (neither (not (eqb (4 + following_of image) (length image))) _ (rw (eq-eqb _ _ a.long.follows)) (le-ltb _ _ a.long.least)) in
    let s : sizes_wrong image ≡ false =
    neither (out_of_range (cells_of image)) _ (not_out _ a.sized.cells)
    (neither (out_of_range (count_of image)) _ (not_out _ a.sized.count) (rw (eq-eqb _ _ a.sized.exact))) in
    rw (l, eq-eqb _ _ a.version, s, a.code) (ap gives a.globals)

-- a refusal's number is 1 to 5
refused_code : (g : ℕ) (last : ℤ) (ws : List ℕ) (s : Scan) {number place : ℕ} → first_bad last 0 ws ≡ s →
    placed g s ≡ refuses number place → (1 ≤ number) × (number ≤ 5)
refused_code g last ws Fine f e = absurd (let z : ◌≡◌ {A = ℕ} 0 1 = cc in omega arith)
refused_code g last ws (Bad k index) {number} f e =
    let same : k ≡ number = cc in
    let found = found_number last ws 0 f in
    omega arith

pub refused_number : (image : List ℕ) (number place : ℕ) → read_of image ≡ refuses number place →
    (1 ≤ number) × (number ≤ 5)
unfolding read_of read_code
refused_number image number place e = by_test (length_wrong image) (version_wrong image) (sizes_wrong image) e
  where
    by_test : (a b c : Bool) → cond a (refuses 1 0) (cond b (refuses 2 4) (cond c (refuses 3 5) (read_code image)))
        ≡ refuses number place → (1 ≤ number) × (number ≤ 5)
    by_test true b c r = let same : 1 ≡ number = cc in omega arith
    by_test false true c r = let same : 2 ≡ number = cc in omega arith
    by_test false false true r = let same : 3 ≡ number = cc in omega arith
    by_test false false false r = refused_code (cells_of image) (last_of (count_of image)) (words_of (drop header_size image)) _ refl r
