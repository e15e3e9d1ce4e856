-- `tables::order::first_living` meets its contract. Assumes nothing.
use Rattle.std.specs.Prelude.{get_or}
use Rattle.std.proofs.Common.{rules}
use Rattle.machine.specs.Tables.{lives, tables_of}
use Rattle.tables.proofs.Idle.{idle_to}
use Rattle.tables.proofs.Tests.{first_in_range}
use Rattle.tables.proofs.order.first_living.Goals as goal

pub returns : goal.returns
returns c =
    let tables = tables_of c.args.size c.args.tables.now in
    rw c.unwrap_or.ensures
    (idle_to tables c.args.skip c.args.size c.requires.idle c.find.result
    (first_in_range _ _ _ _ _ (λ k. lives tables (get_or tables.line k 0)) c.find.ensures.ran (λ x b q h. search rules)))
