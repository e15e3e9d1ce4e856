-- `setup::start_tables` meets its contract. Assumes nothing.
use Rattle.std.proofs.Common.{arith, ◌∙◌}
use Rattle.setup.proofs.Tables.{start_slice}
use Rattle.setup.proofs.start_tables.Goals as goal

pub returns : goal.returns
returns c =
    start_slice _ c.requires.some _ (c.loop-i.auto.tables ∙ c.requires.fits) (λ k h. c.loop-i.invariant k (omega arith))
