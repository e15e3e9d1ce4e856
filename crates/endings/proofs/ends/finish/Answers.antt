-- `endings::ends::finish` meets its contract. Assumes nothing.
use mathlib.Core.Path.{ap, ◌∙◌}
use native.Mathlib.Omega.{arith}
use mir.Facts.{to_z-of_z}
use Rattle.machine.specs.State.{finished, next}
use Rattle.endings.proofs.ends.finish.Goals as goal

pub deliver-requires : goal.deliver-requires
deliver-requires c = rw c.at_end.ensures record { good = c.requires.good; store_len = c.requires.store_len; lt_from = omega arith; receivers = c.requires.receivers }

pub shape_of-values : goal.shape_of-values
shape_of-values c = c.set_result.auto.values

pub returns : goal.returns
unfolding finished
returns c =
    c.next.ensures.is _ _
    ∙ ap (next _) (rw (c.with_state.ensures, c.send.ensures.is, c.deliver.ensures.woken.is, c.deliver.ensures.given, c.at_end.ensures, c.set_result.ensures, to_z-of_z c.ranges.v))
