-- How many at the front of the line a search may pass over: threads not made, and those that ended, gather there.
use Rattle.std.specs.Prelude.{ℕ, zero, suc, false, List, [], ◌∷◌, ◌≡◌}
use Rattle.machine.specs.Tables.{Tables, is_at, lives, sent}

-- the first so many of a list don't live
abbrev pub idle : Tables → ℕ → List ℕ → Type 0
idle tables zero l = Unit
idle tables (suc k) [] = Unit
idle tables (suc k) (t ∷ rest) = (lives tables t ≡ false) × idle tables k rest

-- the first `skip` of the line don't live
abbrev pub Idle : Tables → ℕ → Type 0
Idle tables skip = idle tables skip tables.line

-- nor do they when a thread has gone to a place, whichever it is
abbrev pub IdleAfter : Tables → ℕ → ℕ → Type 0
IdleAfter tables t skip = (place : ℕ) → Idle (sent tables t place) skip

-- none of the first so many of a list is at a place
abbrev pub behind : Tables → ℕ → ℕ → List ℕ → Type 0
behind tables place zero l = Unit
behind tables place (suc k) [] = Unit
behind tables place (suc k) (t ∷ rest) = (is_at tables place t ≡ false) × behind tables place k rest

-- all of the line that are at a place stand behind its first `skip`
abbrev pub Behind : Tables → ℕ → ℕ → Type 0
Behind tables place skip = behind tables place skip tables.line
