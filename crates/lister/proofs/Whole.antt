-- The lines of an accepted image, one after the other, are its listing. Assumes nothing.
use Prim.Native.Nat.{ℕ, zero, suc, ◌+◌, ◌*◌, ◌≤◌}
use mathlib.Core.List.{List, ◌++◌}
use mathlib.Core.Path.{◌≡◌, ◌∙◌, ap}
use native.Mathlib.Omega.{arith}
use lib.ListN.{drop, drop_of_length-le, get_or, length, length-drop}
use lib.Seq.{drop-cons}
use Rattle.instruction.specs.Bytes.{word_at}
use Rattle.card.specs.Code.{words_of}
use Rattle.card.specs.Image.{count_of}
use Rattle.card.proofs.Header.{accepts, code_part}
use Rattle.card.proofs.Words.{count, word, word_drop}
use Rattle.lister.specs.Listing.{LinesAreListing, image_line, lines_from}
use Rattle.lister.specs.Text.{instruction_lines}

-- the lines from instruction `index` on, of which `left` are left
from : (image : List ℕ) (index left : ℕ) → length (drop 9 image) ≡ 4 * (index + left) →
    lines_from image (suc index) left ≡ instruction_lines index (drop index (words_of (drop 9 image)))
unfolding instruction_lines lines_from
from image index zero h =
    let all : length (words_of (drop 9 image)) ≤ index = omega (arith, count (drop 9 image) (index + 0) h) in
    rw (drop_of_length-le (words_of (drop 9 image)) all)
from image index (suc left) h =
    let w = word (drop 9 image) index (omega (arith, h)) in
    let shown : get_or (words_of (drop 9 image)) index 0 ≡ word_at image (9 + 4 * index) = w.is
    ∙ word_drop 9 (4 * index) image in
    rw (drop-cons (words_of (drop 9 image)) index 0 w.there, shown, from image (suc index) left (omega (arith, h)))

pub lines_are_listing : LinesAreListing
unfolding lines_from
lines_are_listing cells image e =
    let a = accepts image cells e in
    let size : length (drop 9 image) ≡ 4 * (0 + count_of image) =
    omega (arith, length-drop 9 image, a.long.follows, a.sized.exact) in
    rw (code_part image cells e) (ap (λ (l : List ℕ). image_line image 0 ++ l) (from image 0 (count_of image) size))
