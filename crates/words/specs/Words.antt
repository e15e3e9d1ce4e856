-- Texts cut at a byte: into lines at line feeds, into words at spaces.
use Rattle.std.specs.Prelude.{ℕ, Bool, true, cond, not, ◌&&◌, List, [], ◌∷◌, ◌++◌, eqb}

-- the bytes in front of the first separator
unfoldable pub up_to : ℕ → List ℕ → List ℕ
up_to sep [] = []
up_to sep (b ∷ rest) = cond (eqb b sep) [] (b ∷ up_to sep rest)

-- whether a separator isn't among the bytes
unfoldable pub lacks : ℕ → List ℕ → Bool
lacks sep [] = true
lacks sep (b ∷ rest) = not (eqb b sep) && lacks sep rest

-- a byte in front of the first part
abbrev pub onto : ℕ → List (List ℕ) → List (List ℕ)
onto b [] = (b ∷ []) ∷ []
onto b (part ∷ parts) = (b ∷ part) ∷ parts

-- the parts between separators, of which there is one more than there are separators: two in a row have an empty part
-- between them
unfoldable pub split : ℕ → List ℕ → List (List ℕ)
split sep [] = [] ∷ []
split sep (b ∷ rest) = cond (eqb b sep) ([] ∷ split sep rest) (onto b (split sep rest))

-- parts with a separator between two of them
unfoldable pub join : ℕ → List (List ℕ) → List ℕ
join sep [] = []
join sep (part ∷ []) = part
join sep (part ∷ next ∷ parts) = part ++ sep ∷ join sep (next ∷ parts)
