-- `tables::layout::line_of` meets its contract. Assumes nothing.
use Rattle.std.proofs.Common.{arith}
use Rattle.std.proofs.lemmas.Grind.{common_steps}
use Rattle.machine.specs.Tables.{tables_of}
use Rattle.tables.proofs.layout.line_of.Goals as goal

pub returns : goal.returns
unfolding tables_of
returns c = grind (arith, common_steps)
