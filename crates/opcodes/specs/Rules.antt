-- What an opcode's rule says of an operand.
use Rattle.std.specs.Prelude.{Bool, true, false, ◌&&◌, ℤ, pos}
use Rattle.std.specs.Int.Signed.{le_z}
use Rattle.opcodes.specs.declared.table.Rule.{Rule}
use Rattle.opcodes.specs.declared.table.Rule.TheVariants.{FromTo, ZeroToNMinus1, Zero}

-- low ≤ k ≤ high
abbrev pub is_between : ℤ → ℤ → ℤ → Bool
is_between low high k = le_z low k && le_z k high

-- the operands that a rule allows on a card whose last instruction is number `last`, n − 1
abbrev pub allows : Rule → ℤ → ℤ → Bool
allows (FromTo low high) last k = is_between low high k
allows ZeroToNMinus1 last k = is_between (pos 0) last k
allows Zero last k = is_between (pos 0) (pos 0) k

-- "where it has one, the operand": where its rule allows more than 0
abbrev pub has_operand : Rule → Bool
has_operand (FromTo low high) = true
has_operand ZeroToNMinus1 = true
has_operand Zero = false
