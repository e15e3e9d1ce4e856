-- Laws of the writer's success: what it says of the input, and when it comes. Assumes nothing.
use Prim.Native.Nat.{ℕ, ◌≤◌}
use mathlib.Core.Path.{◌≡◌, refl, sym, ap}
use mathlib.Core.Bool.{Bool, true, false, cond, ◌||◌}
use mathlib.Core.List.{List}
use native.Mathlib.Omega.{arith}
use lib.Dec.{ltb}
use lib.ListN.{length}
use borrow.Author.Tests.{ltb-false, le-ltb}
use Rattle.card.specs.Code.{Scan, Fine, Bad, first_bad}
use Rattle.card.specs.Image.{image_size, last_of, out_of_range}
use Rattle.card.specs.Result.{Result, gives, refuses}
use Rattle.writer.specs.Writing.{after_list, write_of}
use Rattle.card.proofs.Header.{InRange, in_range, neither, not_out, or_false}

pub record Writes (cells : ℕ) (list : List ℕ) (room size : ℕ) : Type 0 where
  pub globals : InRange cells
  pub count : InRange (length list)
  pub good : first_bad (last_of (length list)) 0 list ≡ Fine
  pub fits : image_size (length list) ≤ room
  pub exact : size ≡ image_size (length list)

never : {X : Type 0} {number place size : ℕ} → refuses number place ≡ gives size → X
never e = absurd (let z : ◌≡◌ {A = ℕ} 0 1 = cc in omega arith)

pub writes : (cells : ℕ) (list : List ℕ) (room size : ℕ) → write_of cells list room ≡ gives size →
    Writes cells list room size
unfolding write_of
writes cells list room size e = first (out_of_range cells || out_of_range (length list)) refl e
  where
    n : ℕ
    n = length list

    roomy : Bool → Result
    roomy b = cond b (refuses 8 0) (gives (image_size n))

    third : (out_of_range cells || out_of_range n) ≡ false → first_bad (last_of n) 0 list ≡ Fine → (b : Bool) →
        ltb room (image_size n) ≡ b → roomy b ≡ gives size → Writes cells list room size
    third o f true t r = never r
    third o f false t r =
        let both = or_false (out_of_range cells) _ o in
        record {
          globals = in_range _ both.0;
          count = in_range _ both.1;
          good = f;
          fits = ltb-false _ _ t;
          exact = cc;
        }

    second : (out_of_range cells || out_of_range n) ≡ false → (s : Scan) → first_bad (last_of n) 0 list ≡ s →
        after_list s (roomy (ltb room (image_size n))) ≡ gives size → Writes cells list room size
    second o Fine f r = third o f (ltb room (image_size n)) refl r
    second o (Bad number index) f r = never r

    first : (b : Bool) → (out_of_range cells || out_of_range n) ≡ b →
        cond b (refuses 3 5) (after_list (first_bad (last_of n) 0 list) (roomy (ltb room (image_size n)))) ≡ gives size →
        Writes cells list room size
    first true o r = never r
    first false o r = second o (first_bad (last_of n) 0 list) refl r

pub succeeds : (cells : ℕ) (list : List ℕ) (room size : ℕ) → Writes cells list room size →
    write_of cells list room ≡ gives size
unfolding write_of
succeeds cells list room size w =
    rw (neither (out_of_range cells) _ (not_out _ w.globals) (not_out _ w.count), w.good, le-ltb _ _ w.fits) (ap gives (sym w.exact))
