-- `tables::queues::wake_first` meets its contract. Assumes nothing.
use mathlib.Core.Path.{◌∙◌}
use Rattle.tables.proofs.Waking.{woken}
use Rattle.tables.proofs.queues.wake_first.Goals as goal

pub returns : goal.returns
returns c =
    let d = c.dequeue.ensures in
    record { is = c.make_ready.ensures.is ∙ woken _ _ _ _ _ c.requires d _ c.in-Some.is; good = c.make_ready.ensures.good }
