-- A card that the engine may run.
use Rattle.std.specs.Prelude.{ℕ, List, ◌≡◌}
use Rattle.card.specs.Image.{code_of, read_of}
use Rattle.card.specs.Result.{gives}

-- an image that the reader accepts, of which this is the code part
pub record Accepted (code : List ℕ) : Type 0 where
  pub image : List ℕ
  pub cells : ℕ
  pub read : read_of image ≡ gives cells
  pub part : code ≡ code_of image

-- the code part of an accepted card: there is such an image
abbrev pub Carded : List ℕ → Type 0
Carded code = ∥ Accepted code ∥₁
