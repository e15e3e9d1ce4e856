-- What an instruction finds that makes something: a number below its limit, with room for the thing or without, or no
-- such number.
use Rattle.std.specs.Prelude.{ℕ, Bool, cond, ltb, ℤ, Option, Some, None}
use Rattle.cells.specs.Contract.{index_of}
use Rattle.cells.specs.declared.openings.Opening.{Opening}
use Rattle.cells.specs.declared.openings.Opening.TheVariants.{Room, Full, Wrong}

-- the number is tested before the room
abbrev pub opening_at : Option ℕ → Bool → Opening
opening_at (Some a) room = cond room (Room a) Full
opening_at None room = Wrong

abbrev pub opening_of : ℤ → ℕ → ℕ → ℕ → Opening
opening_of v limit made most = opening_at (index_of v limit) (ltb made most)
