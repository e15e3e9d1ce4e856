-- `tables::threads::place` meets its contract. Assumes nothing.
use mathlib.Core.Path.{sym}
use Rattle.tables.proofs.Regions.{read_place}
use Rattle.tables.proofs.threads.place.Goals as goal

pub returns : goal.returns
returns c = sym (read_place _ _ _ c.requires.t_lt_size)
