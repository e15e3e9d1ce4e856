-- `tables::threads::has_ended` meets its contract. Assumes nothing.
use Prim.Native.Nat.{ℕ}
use mathlib.Core.Path.{sym, ap}
use lib.Dec.{eqb}
use Rattle.machine.specs.Tables.{ended}
use Rattle.tables.proofs.Regions.{read_place}
use Rattle.tables.proofs.threads.has_ended.Goals as goal

pub returns : goal.returns
returns c = ap (λ (place : ℕ). eqb place ended) (sym (read_place _ _ _ c.requires.t_lt_size))
