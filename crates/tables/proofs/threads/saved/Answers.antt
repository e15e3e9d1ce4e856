-- `tables::threads::saved` meets its contract. Assumes nothing.
use Rattle.std.proofs.Common.{sym}
use Rattle.tables.proofs.Regions.{read_depth, read_frame, read_pc}
use Rattle.tables.proofs.threads.saved.Goals as goal

pub returns : goal.returns
returns c =
    record {
      pc = sym (read_pc _ _ _ c.requires.t_lt_size);
      cells = sym (read_depth _ _ _ c.requires.t_lt_size);
      fp = sym (read_frame _ _ _ c.requires.t_lt_size);
    }
