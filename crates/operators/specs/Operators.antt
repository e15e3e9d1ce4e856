-- The operations and the tests by their opcodes.
use Rattle.std.specs.Prelude.{ℕ, Bool, cond, not as negate, eqb, ℤ, ◌+ℤ◌, ◌-ℤ◌, ◌*ℤ◌}
use Rattle.std.specs.Int.Signed.{le_z, lt_z, quot_z, rem_z}
use Rattle.arithmetic.specs.Arithmetic.{eq_z}

-- opcodes 9 to 13
unfoldable pub computed : ℕ → ℤ → ℤ → ℤ
computed op a b =
    cond (eqb op 9) (a +ℤ b)
    (cond (eqb op 10) (a -ℤ b) (cond (eqb op 11) (a *ℤ b) (cond (eqb op 12) (quot_z a b) (rem_z a b))))

-- opcodes 15 to 18
unfoldable pub tested : ℕ → ℤ → ℤ → Bool
tested op a b =
    cond (eqb op 15) (eq_z a b) (cond (eqb op 16) (negate (eq_z a b)) (cond (eqb op 17) (lt_z a b) (le_z a b)))
