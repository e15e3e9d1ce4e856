-- `card::reader::code_part` meets its contract. Assumes nothing.
use Prim.Native.Nat.{ℕ, ◌≤◌}
use mathlib.Core.Path.{◌≡◌, refl, sym}
use mathlib.Core.List.{List}
use native.Mathlib.Omega.{arith}
use lib.ListN.{length}
use Rattle.card.specs.Image.{code_of, read_of}
use Rattle.card.specs.Result.{gives}
use Rattle.card.proofs.Header.{accepts}
use Rattle.card.proofs.Words.{rest}
use Rattle.card.proofs.reader.code_part.Goals as goal

-- an accepted image has its header
nine : (image : List ℕ) (cells : ℕ) → gives cells ≡ read_of image → 9 ≤ length image
nine image cells e = let l = (accepts image _ (sym e)).long in omega (arith, l.follows, l.least)

pub slice_bounds-result-count : goal.slice_bounds-result-count
slice_bounds-result-count c = omega (arith, nine _ _ c.in-Ok.ensures)

pub slice_bounds-result-start : goal.slice_bounds-result-start
slice_bounds-result-start c = omega (arith, nine _ _ c.in-Ok.ensures)

pub returns-in-Ok : goal.returns-in-Ok
unfolding code_of
returns-in-Ok c =
    record {
      bytes = rw (← c.in-Ok.ensures) (rest 9 c.args.image.now);
      block = refl;
      offset = rw (← c.in-Ok.ensures);
    }

pub returns-in-Err : goal.returns-in-Err
unfolding code_of
returns-in-Err c =
    record {
      bytes = rw (← c.in-Err.ensures);
      block = refl;
      offset = rw (← c.in-Err.ensures) (omega arith);
    }
