-- "The writer takes g and a list of instructions and tests 3, then the list (place: index), then 8; bytes past the
-- image stay."
use Rattle.std.specs.Prelude.{ℕ, ◌+◌, ◌*◌, cond, ◌||◌, List, [], ◌∷◌, ◌++◌, ◌≡◌, ltb, length, drop}
use Rattle.instruction.specs.Bytes.{half_bytes, word_bytes}
use Rattle.std.specs.declared.result.Result as code
use Rattle.card.specs.Code.{Scan, Fine, Bad, first_bad}
use Rattle.card.specs.Image.{image_size, last_of, out_of_range}
use Rattle.card.specs.Result.{Result, gives, refuses, told}
use Rattle.card.specs.declared.refusals.Refusal.{Refusal}

-- "Big-endian: 4 bytes L ..; version byte 1; 2 bytes g ..; 2 bytes n", with "L = 5 + 4n"
abbrev pub header_of : ℕ → ℕ → List ℕ
header_of cells n = word_bytes (5 + 4 * n) ++ 1 ∷ half_bytes cells ++ half_bytes n

-- "n instructions of 4 bytes"
unfoldable pub words_bytes : List ℕ → List ℕ
words_bytes [] = []
words_bytes (w ∷ ws) = word_bytes w ++ words_bytes ws

-- the image of a card
abbrev pub image_of : ℕ → List ℕ → List ℕ
image_of cells list = header_of cells (length list) ++ words_bytes list

-- "then the list (place: index)"
abbrev pub after_list : Scan → Result → Result
after_list (Bad number index) rest = refuses number index
after_list Fine rest = rest

-- the writer, which gives the image's size, for a buffer with so much room. Number 8: "writer's buffer under 9 + 4n
-- bytes"
unfoldable pub write_of : ℕ → List ℕ → ℕ → Result
write_of cells list room =
    cond (out_of_range cells || out_of_range (length list)) (refuses 3 5)
    (after_list (first_bad (last_of (length list)) 0 list)
    (cond (ltb room (image_size (length list))) (refuses 8 0)
    (gives (image_size (length list)))))

-- the buffer afterwards: the image and the old bytes past it, or, after a refusal, what it was
abbrev pub buffer_of : Result → ℕ → List ℕ → List ℕ → List ℕ
buffer_of (gives size) cells list buffer = image_of cells list ++ drop size buffer
buffer_of (refuses number place) cells list buffer = buffer

-- the writer's promise: its answer, and the buffer that it leaves
pub record Wrote (cells : ℕ) (list before : List ℕ) (answer : code.Result ℕ Refusal) (after : List ℕ) : Type 0 where
  pub answered : told (λ size. size) answer ≡ write_of cells list (length before)
  pub left : after ≡ buffer_of (write_of cells list (length before)) cells list before
