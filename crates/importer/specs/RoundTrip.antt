-- "Either way round gives back what went in": the two statements. Their proofs are in proofs/RoundTrip.antt.
use Rattle.std.specs.Prelude.{ℕ, ◌≤◌, List, ◌++◌, ◌≡◌, drop, length, take}
use Rattle.card.specs.Image.{cells_of, read_of}
use Rattle.card.specs.Result.{gives}
use Rattle.writer.specs.RoundTrip.{Each}
use Rattle.lister.specs.Text.{listing_of}
use Rattle.importer.specs.Importing.{answer_of, imported, said}

-- importing the listing of an image that is accepted gives that image, byte for byte
abbrev pub ListedIsImported : Type 0
ListedIsImported =
    (cells : ℕ) (image buffer : List ℕ) → Each 256 image → length image ≤ length buffer →
    read_of image ≡ gives cells →
    let answer = answer_of (said (listing_of image)) (length buffer) in
    (answer ≡ gives (length image))
    × (imported answer (said (listing_of image)) buffer ≡ image ++ drop (length image) buffer)

-- whatever text is imported, its image is accepted, and the listing of that image is the text, byte for byte
abbrev pub ImportedIsListed : Type 0
ImportedIsListed =
    (size : ℕ) (text buffer : List ℕ) →
    answer_of (said text) (length buffer) ≡ gives size →
    let image = take size (imported (gives size) (said text) buffer) in
    (read_of image ≡ gives (cells_of image)) × (listing_of image ≡ text)
