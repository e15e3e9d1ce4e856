-- The call that lists one line of a card: "Refusals: listing 1 to 5; .. 43 at 0, last, no room for the line".
use Rattle.std.specs.Prelude.{ℕ, zero, suc, ◌+◌, ◌*◌, ◌≤◌, cond, List, [], ◌++◌, Option, Some, None, Ok, ◌≡◌, ltb, drop, length}
use Rattle.std.specs.declared.result.Result as code
use Rattle.instruction.specs.Bytes.{word_at}
use Rattle.card.specs.Image.{cells_of, count_of, header_size, read_of}
use Rattle.card.specs.Result.{Result, gives, refuses, told}
use Rattle.card.specs.declared.refusals.Refusal.{Refusal}
use Rattle.lister.specs.Filling.{line_text}
use Rattle.lister.specs.Text.{listing_of}

-- what a line shows: the number of cells, or an instruction's word
abbrev pub content_of : List ℕ → ℕ → ℕ
content_of image zero = cells_of image
content_of image (suc index) = word_at image (header_size + 4 * index)

-- a line of an accepted image
abbrev pub image_line : List ℕ → ℕ → List ℕ
image_line image line = line_text line (content_of image line)

-- the line that is asked for: an accepted image of n instructions has the lines 0 to n, and past the last there is
-- nothing
abbrev pub asked : List ℕ → ℕ → List ℕ
asked image line = cond (ltb (count_of image) line) [] (image_line image line)

-- the answer on an accepted image, which gives the line's length, with so much room
abbrev pub line_of : List ℕ → ℕ → ℕ → Result
line_of image line room = cond (ltb room (length (asked image line))) (refuses 43 0) (gives (length (asked image line)))

-- the image is refused as the reader does it, and first
abbrev pub after_reading : Result → Result → Result
after_reading (refuses number place) rest = refuses number place
after_reading (gives cells) rest = rest

unfoldable pub list_of : List ℕ → ℕ → ℕ → Result
list_of image line room = after_reading (read_of image) (line_of image line room)

-- the buffer afterwards: the line and the old bytes past it, or, after a refusal, what it was
abbrev pub listed : Result → List ℕ → ℕ → List ℕ → List ℕ
listed (gives size) image line buffer = asked image line ++ drop size buffer
listed (refuses number place) image line buffer = buffer

-- the length of the line that was written: past the last line, none
abbrev pub line_size : Option ℕ → ℕ
line_size (Some size) = size
line_size None = 0

-- an answer, and the buffer that it leaves
pub record Leaves (expected : Result) (image : List ℕ) (line : ℕ) (before : List ℕ)
    (answer : code.Result (Option ℕ) Refusal) (after : List ℕ) : Type 0 where
  pub answered : told line_size answer ≡ expected
  -- so past the last line, and there alone, the answer is Ok(None)
  pub some : (size : ℕ) → answer ≡ Ok (Some size) → 1 ≤ size
  pub left : after ≡ listed expected image line before

-- the promise of the call, for every image, line and buffer
abbrev pub Lists : List ℕ → ℕ → List ℕ → code.Result (Option ℕ) Refusal → List ℕ → Type 0
Lists image line before = Leaves (list_of image line (length before)) image line before

-- so many lines of an image, from a line on
unfoldable pub lines_from : List ℕ → ℕ → ℕ → List ℕ
lines_from image line zero = []
lines_from image line (suc count) = image_line image line ++ lines_from image (suc line) count

-- "line by line": the lines 0 to n of an image that is accepted, one after the other, are its listing. The proof is
-- in proofs/Whole.antt
abbrev pub LinesAreListing : Type 0
LinesAreListing = (cells : ℕ) (image : List ℕ) → read_of image ≡ gives cells →
    lines_from image 0 (suc (count_of image)) ≡ listing_of image
