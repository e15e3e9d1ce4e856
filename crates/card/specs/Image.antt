-- "The card image", sentence by sentence, with the numbers 1 to 5 and their places.
use Rattle.std.specs.Prelude.{ℕ, ◌+◌, ◌*◌, ◌≤◌, Bool, cond, not, ◌||◌, List, [], ◌≡◌, refl, ltb, eqb, ℤ, pos, ◌-ℤ◌, length, drop}
use Rattle.std.specs.Borrow.{Bor}
use Rattle.instruction.specs.Bytes.{byte_of, half_at, word_at}
use Rattle.card.specs.Code.{Scan, Fine, Bad, words_of, first_bad}
use Rattle.card.specs.Result.{Result, gives, refuses}

-- "4 bytes L, the number of bytes that follow"
abbrev pub following_of : List ℕ → ℕ
following_of image = word_at image 0

-- "version byte 1", the byte at 4
abbrev pub version_of : List ℕ → ℕ
version_of image = byte_of image 4

-- "2 bytes g, the global cells", from byte 5
abbrev pub cells_of : List ℕ → ℕ
cells_of image = half_at image 5

-- "2 bytes n, the instructions", from byte 7
abbrev pub count_of : List ℕ → ℕ
count_of image = half_at image 7

-- the bytes before the instructions
abbrev pub header_size : ℕ
header_size = 9

-- the size of an image of n instructions: the 4 bytes of L and the "L = 5 + 4n" that follow
abbrev pub image_size : ℕ → ℕ
image_size n = header_size + 4 * n

-- "The longest image has 16,393 bytes"
longest : image_size 4096 ≡ 16393
longest = refl

-- number 1: "under 4 bytes, L wrong for the length, or L < 5"
abbrev pub length_wrong : List ℕ → Bool
length_wrong image = ltb (length image) 4
    || (not (eqb (4 + following_of image) (length image)) || ltb (following_of image) 5)

-- number 2: "version not 1"
abbrev pub version_wrong : List ℕ → Bool
version_wrong image = not (eqb (version_of image) 1)

-- "g and n are each 1 to 4,096"
abbrev pub out_of_range : ℕ → Bool
out_of_range x = ltb x 1 || ltb 4096 x

-- number 3: "g or n out of range, or L ≠ 5 + 4n"
abbrev pub sizes_wrong : List ℕ → Bool
sizes_wrong image = out_of_range (cells_of image)
    || (out_of_range (count_of image) || not (eqb (following_of image) (5 + 4 * count_of image)))

-- the number of a card's last instruction, n − 1, which a jump may reach
abbrev pub last_of : ℕ → ℤ
last_of n = pos n -ℤ pos 1

-- numbers 4 and 5 at "its byte" and "the instruction's first byte", which are one place: the opcode stands first
abbrev pub placed : ℕ → Scan → Result
placed cells Fine = gives cells
placed cells (Bad number index) = refuses number (header_size + 4 * index)

-- the reader's answer on the instructions
unfoldable pub read_code : List ℕ → Result
read_code image = placed (cells_of image) (first_bad (last_of (count_of image)) 0 (words_of (drop header_size image)))

-- the reader, which gives g: "in order: 1, 2, 3, then the first bad instruction (4 before 5)"
unfoldable pub read_of : List ℕ → Result
read_of image =
    cond (length_wrong image) (refuses 1 0)
    (cond (version_wrong image) (refuses 2 4)
    (cond (sizes_wrong image) (refuses 3 5)
    (read_code image)))

-- an image whose header is right, as far as the instructions' reading needs it
pub record Headed (image : List ℕ) : Type 0 where
  pub sized : length image ≡ image_size (count_of image)
  pub some : 1 ≤ count_of image
  pub most : count_of image ≤ 4096

-- "the code part of the caller's own image .. or .. an empty part on a refusal"
abbrev pub part_of : Result → List ℕ → List ℕ
part_of (gives cells) image = drop header_size image
part_of (refuses number place) image = []

unfoldable pub code_of : List ℕ → List ℕ
code_of image = part_of (read_of image) image

-- where the part begins in the image
abbrev pub start_of : Result → ℕ
start_of (gives cells) = header_size
start_of (refuses number place) = 0

-- "the caller's own image, uncopied": the part's bytes, and that they lie in the image's own memory
pub record CodePart (image part : Bor (List ℕ)) : Type 0 where
  pub bytes : part.now ≡ code_of image.now
  pub block : part.ref_ptr.0 ≡ image.ref_ptr.0
  pub offset : part.ref_ptr.1 ≡ start_of (read_of image.now) + image.ref_ptr.1
