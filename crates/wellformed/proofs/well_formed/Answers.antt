-- `wellformed::well_formed` meets its contract. Assumes nothing.
use Prim.Native.Nat.{◌*◌}
use mathlib.Core.Path.{◌≡◌, sym, ◌∙◌}
use borrow.Author.Tests.{not-true, not-false}
use lib.ListN.{length}
use Rattle.machine.specs.WellFormed.{formed, well_formed}
use Rattle.cells.specs.Contract.{Made}
use Rattle.tables.specs.Good.{Good}
use Rattle.wellformed.proofs.Passed.{good, lined, made, valued}
use Rattle.wellformed.proofs.well_formed.Goals as goal
use Rattle.wellformed.proofs.well_formed.Goals.{Else-not-line_fits}

-- after the sizes and the line, the tables are in order
tidy : (c : Else-not-line_fits) → Good c.args.size c.args.tables.now
tidy c =
    good _ _ c.args.values.now c.requires (sym c.sizes_fit.ensures ∙ not-false c.sizes_fit.result c.if-not-sizes_fit.false-raw)
    (sym c.line_fits.ensures ∙ not-false c.line_fits.result c.if-not-line_fits.false-raw)

-- and after the registers, the counts are in range
counted : (c : Else-not-line_fits) → Made c.args.size c.args.r
counted c = made _ _ (sym c.registers_fit.ensures ∙ not-false c.registers_fit.result c.if-not-registers_fit.false-raw)

-- the values have their size
sized : (c : Else-not-line_fits) → length c.args.values.now
    ≡ 2 * c.args.size
sized c = valued c.args.size c.args.tables.now c.args.values.now (sym c.sizes_fit.ensures ∙ not-false c.sizes_fit.result c.if-not-sizes_fit.false-raw)

pub returns-then-not-sizes_fit : goal.returns-then-not-sizes_fit
unfolding well_formed
returns-then-not-sizes_fit c = rw (← c.sizes_fit.ensures, not-true c.sizes_fit.result c.if-not-sizes_fit.true-raw)

pub returns-then-not-registers_fit : goal.returns-then-not-registers_fit
unfolding well_formed formed
returns-then-not-registers_fit c = rw (← c.sizes_fit.ensures, not-false c.sizes_fit.result c.if-not-sizes_fit.false-raw, ← c.registers_fit.ensures, not-true c.registers_fit.result c.if-not-registers_fit.true-raw)

pub line_fits-requires : goal.line_fits-requires
line_fits-requires c = record { size_bound = c.requires; tables_len = lined c.args.size c.args.tables.now c.args.values.now (sym c.sizes_fit.ensures ∙ not-false c.sizes_fit.result c.if-not-sizes_fit.false-raw) }

pub returns-then-not-line_fits : goal.returns-then-not-line_fits
unfolding well_formed formed
returns-then-not-line_fits c = rw (← c.sizes_fit.ensures, not-false c.sizes_fit.result c.if-not-sizes_fit.false-raw, ← c.registers_fit.ensures, not-false c.registers_fit.result c.if-not-registers_fit.false-raw, ← c.line_fits.ensures, not-true c.line_fits.result c.if-not-line_fits.true-raw)

pub threads_fit-requires : goal.threads_fit-requires
threads_fit-requires c = record { good = tidy (goal.at.threads_fit-requires c).Else-not-line_fits; made = counted (goal.at.threads_fit-requires c).Else-not-line_fits }

pub owners_fit-requires : goal.owners_fit-requires
owners_fit-requires c = record { good = tidy (goal.at.owners_fit-requires c).Else-not-line_fits; made = counted (goal.at.owners_fit-requires c).Else-not-line_fits }

pub levels_fit-requires : goal.levels_fit-requires
levels_fit-requires c = record { good = tidy (goal.at.levels_fit-requires c).Else-not-line_fits; made = counted (goal.at.levels_fit-requires c).Else-not-line_fits; values_len = sized (goal.at.levels_fit-requires c).Else-not-line_fits }

pub state_fits-requires : goal.state_fits-requires
state_fits-requires c = tidy (goal.at.state_fits-requires c).Else-not-line_fits

pub returns-then-fault_fits : goal.returns-then-fault_fits
unfolding well_formed formed
returns-then-fault_fits c =
    rw (← c.sizes_fit.ensures, not-false c.sizes_fit.result c.if-not-sizes_fit.false-raw, ← c.registers_fit.ensures, not-false c.registers_fit.result c.if-not-registers_fit.false-raw, ← c.line_fits.ensures, not-false c.line_fits.result c.if-not-line_fits.false-raw, ← c.threads_fit.ensures, c.if-threads_fit.true, ← c.owners_fit.ensures, c.if-owners_fit.true, ← c.levels_fit.ensures, c.if-levels_fit.true, ← c.fault_fits.ensures, c.if-fault_fits.true)
    c.state_fits.ensures

pub returns-else-fault_fits : goal.returns-else-fault_fits
unfolding well_formed formed
returns-else-fault_fits c =
    rw (← c.sizes_fit.ensures, not-false c.sizes_fit.result c.if-not-sizes_fit.false-raw, ← c.registers_fit.ensures, not-false c.registers_fit.result c.if-not-registers_fit.false-raw, ← c.line_fits.ensures, not-false c.line_fits.result c.if-not-line_fits.false-raw, ← c.threads_fit.ensures, c.if-threads_fit.true, ← c.owners_fit.ensures, c.if-owners_fit.true, ← c.levels_fit.ensures, c.if-levels_fit.true, ← c.fault_fits.ensures, c.if-fault_fits.false)

pub returns-else-levels_fit : goal.returns-else-levels_fit
unfolding well_formed formed
returns-else-levels_fit c =
    rw (← c.sizes_fit.ensures, not-false c.sizes_fit.result c.if-not-sizes_fit.false-raw, ← c.registers_fit.ensures, not-false c.registers_fit.result c.if-not-registers_fit.false-raw, ← c.line_fits.ensures, not-false c.line_fits.result c.if-not-line_fits.false-raw, ← c.threads_fit.ensures, c.if-threads_fit.true, ← c.owners_fit.ensures, c.if-owners_fit.true, ← c.levels_fit.ensures, c.if-levels_fit.false)

pub returns-else-owners_fit : goal.returns-else-owners_fit
unfolding well_formed formed
returns-else-owners_fit c =
    rw (← c.sizes_fit.ensures, not-false c.sizes_fit.result c.if-not-sizes_fit.false-raw, ← c.registers_fit.ensures, not-false c.registers_fit.result c.if-not-registers_fit.false-raw, ← c.line_fits.ensures, not-false c.line_fits.result c.if-not-line_fits.false-raw, ← c.threads_fit.ensures, c.if-threads_fit.true, ← c.owners_fit.ensures, c.if-owners_fit.false)

pub returns-else-threads_fit : goal.returns-else-threads_fit
unfolding well_formed formed
returns-else-threads_fit c =
    rw (← c.sizes_fit.ensures, not-false c.sizes_fit.result c.if-not-sizes_fit.false-raw, ← c.registers_fit.ensures, not-false c.registers_fit.result c.if-not-registers_fit.false-raw, ← c.line_fits.ensures, not-false c.line_fits.result c.if-not-line_fits.false-raw, ← c.threads_fit.ensures, c.if-threads_fit.false)
