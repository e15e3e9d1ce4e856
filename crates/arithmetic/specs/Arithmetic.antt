-- Equality of two cells.
use Rattle.std.specs.Prelude.{Bool, ◌&&◌, ℤ}
use Rattle.std.specs.Int.Signed.{le_z}

-- the two numbers are equal
abbrev pub eq_z : ℤ → ℤ → Bool
eq_z a b = le_z a b && le_z b a
