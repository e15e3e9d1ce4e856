-- Lines of words, and what it is to write a text into a lent buffer.
use Rattle.std.specs.Prelude.{ℕ, ◌+◌, List, [], ◌∷◌, ◌++◌, ◌≡◌, length}
use Rattle.std.proofs.lemmas.List.Edits.{sets}

-- a line: words with a space between them, and one line feed at the end
unfoldable pub line : List ℕ → List (List ℕ) → List ℕ
line word [] = word ++ 10 ∷ []
line word (next ∷ rest) = word ++ 32 ∷ line next rest

-- a text written from byte `at` on: the buffer afterwards, every other byte as before, and the byte after the text
pub record Puts (text before : List ℕ) (at : ℕ) (after : List ℕ) (next : ℕ) : Type 0 where
  pub written : after ≡ sets before at text
  pub reached : next ≡ at + length text
