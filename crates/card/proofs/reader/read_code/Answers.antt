-- `card::reader::read_code` meets its contract. Assumes nothing.
use Prim.Native.Nat.{ℕ, ◌<◌}
use mathlib.Core.Path.{sym, ap, ◌∙◌, ◌≡◌}
use native.Mathlib.Omega.{arith}
use borrow.Author.Rules.{sfits_of}
use lib.ListN.{length, length-drop, drop}
use mir.Syntax.{w32}
use mir.Facts.{to_z-of_z}
use Rattle.card.specs.Image.{placed, read_code, count_of, last_of}
use Rattle.card.specs.Code.{Bad, first_bad, found, words_of}
use Rattle.card.specs.Result.{gives}
use Rattle.card.proofs.Search.{index_below}
use Rattle.card.proofs.Words.{count, rest}
use Rattle.card.proofs.reader.read_code.Goals as goal
use Rattle.card.proofs.reader.read_code.Goals.{After-scan}

-- what the search answered, said of the image
of_image : (c : After-scan) →
    found c.scan.result ≡ first_bad (last_of (count_of c.args.image.now)) 0 (words_of (drop 9 c.args.image.now))
of_image c =
    rw (← c.half_at-n.ensures.0, ← c.last_of.ensures, ← (rest 9 c.args.image.now))
    (rw (to_z-of_z (sfits_of {w = w32} {z = c.last_of.result} c.last_of.type_inv)) at c.scan.ensures)

-- a bad instruction's place is within the image
within : (c : After-scan) (number index : ℕ) → Bad number index ≡ found c.scan.result → index < 4096
within c number index e =
    let image = c.args.image.now in
    let h = c.requires in
    let n : length (words_of (drop 9 image)) ≡ count_of image =
    count (drop 9 image) (count_of image) (omega (arith, length-drop 9 image, h.sized)) in
    omega (arith, index_below _ _ 0 (sym (e ∙ of_image c)), n, h.most)

pub overflow_mul-result : goal.overflow_mul-result
overflow_mul-result c =
    omega (arith, within (goal.at.overflow_mul-result c).After-scan _ _ (ap found (sym c.in-Err.is)))

pub overflow_add-result : goal.overflow_add-result
overflow_add-result c =
    omega (arith, within (goal.at.overflow_add-result c).After-scan _ _ (ap found (sym c.in-Err.is)))

pub returns-in-Err : goal.returns-in-Err
unfolding read_code
returns-in-Err c = ap (placed _) (ap found (sym c.in-Err.is) ∙ of_image (goal.at.returns-in-Err c).After-scan)

pub returns-in-Ok : goal.returns-in-Ok
unfolding read_code
returns-in-Ok c =
    ap gives c.half_at.ensures.0
    ∙ ap (placed _) (ap found (sym c.in-Ok.is) ∙ of_image (goal.at.returns-in-Ok c).After-scan)
