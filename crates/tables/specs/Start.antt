-- The tables at the start, number by number.
use Rattle.std.specs.Prelude.{ℕ, ◌*◌, ◌-◌, cond, eqb, ltb}
use Rattle.machine.specs.Tables.{active, unmade}

abbrev pub start_at : ℕ → ℕ → ℕ
start_at size i = cond (eqb i 0) active (cond (ltb i (4 * size)) unmade (cond (ltb i (6 * size)) size (i - 6 * size)))
