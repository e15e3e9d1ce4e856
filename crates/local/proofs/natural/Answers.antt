-- `local::natural` meets its contract. Assumes nothing.
use mir.Facts.{Fits-nat_abs, to_z-of_z}
use Rattle.local.proofs.Opcodes.{not_negative}
use Rattle.local.proofs.natural.Goals as goal

pub overflow_cast-result : goal.overflow_cast-result
overflow_cast-result c = rw (to_z-of_z c.ranges.k) (not_negative c.args.k c.requires, Fits-nat_abs tt c.ranges.k)
