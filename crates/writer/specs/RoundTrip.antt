-- "Reader and writer undo each other": the two statements. Their proofs are in proofs/RoundTrip.antt.
use Rattle.std.specs.Prelude.{ℕ, ◌<◌, ◌≤◌, List, ◌++◌, ◌≡◌, length, get_or, take, drop}
use Rattle.card.specs.Code.{words_of}
use Rattle.card.specs.Image.{code_of, read_of}
use Rattle.card.specs.Result.{gives}
use Rattle.writer.specs.Writing.{buffer_of, write_of}

-- each number of a list is below a bound: 256 for the bytes of an image, 2^32 for words, which the slices' types ensure
abbrev pub Each : ℕ → List ℕ → Type 0
Each bound l = (i : ℕ) → get_or l i 0 < bound

-- whatever the writer writes, the reader accepts, and it gives back the global cells and exactly the list
abbrev pub WrittenIsRead : Type 0
WrittenIsRead =
    (cells size : ℕ) (list buffer : List ℕ) → Each 4294967296 list →
    write_of cells list (length buffer) ≡ gives size →
    let image = take size (buffer_of (gives size) cells list buffer) in
    (read_of image ≡ gives cells) × (words_of (code_of image) ≡ list)

-- for every image that the reader accepts, the writer, given its global cells and its instructions, writes that
-- image, byte for byte
abbrev pub ReadIsWritten : Type 0
ReadIsWritten =
    (cells : ℕ) (image buffer : List ℕ) → Each 256 image → length image ≤ length buffer →
    read_of image ≡ gives cells →
    let list = words_of (code_of image) in
    let answer = write_of cells list (length buffer) in
    (answer ≡ gives (length image)) × (buffer_of answer cells list buffer ≡ image ++ drop (length image) buffer)
