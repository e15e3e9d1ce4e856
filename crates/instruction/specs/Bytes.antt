-- "Big-endian": numbers of two and of four bytes, read from a list of bytes and written out.
use Rattle.std.specs.Prelude.{ℕ, ◌+◌, ◌*◌, ◌/◌, ◌%◌, List, [], ◌∷◌, ◌++◌, get_or}

-- the byte at a place
abbrev pub byte_of : List ℕ → ℕ → ℕ
byte_of s at = get_or s at 0

-- the number of two bytes at a place
abbrev pub half_at : List ℕ → ℕ → ℕ
half_at s at = byte_of s at * 256 + byte_of s (at + 1)

-- the number of four bytes at a place
abbrev pub word_at : List ℕ → ℕ → ℕ
word_at s at = half_at s at * 65536 + half_at s (at + 2)

-- a number below 2^16 as two bytes
abbrev pub half_bytes : ℕ → List ℕ
half_bytes x = x / 256 % 256 ∷ x % 256 ∷ []

-- a number below 2^32 as four bytes
abbrev pub word_bytes : ℕ → List ℕ
word_bytes w = half_bytes (w / 65536) ++ half_bytes (w % 65536)
