-- `tables::queues::wake_all` meets its contract. Assumes nothing.
use Rattle.std.proofs.Common.{refl, sym, ◌∙◌}
use Rattle.tables.proofs.Waking.{all_woken, woke}
use Rattle.tables.proofs.queues.wake_all.Goals as goal

pub loop-t-init : goal.loop-t-init
loop-t-init c = (c.requires.good, refl)

pub dequeue-requires : goal.dequeue-requires
dequeue-requires c = record { good = c.loop-t.invariant.0; behind = tt }

pub make_ready-requires : goal.make_ready-requires
make_ready-requires c =
    let d = c.dequeue.ensures in
    record { good = d.left.good; t_lt_size = d.real _ c.in-Some.is }

pub loop-t-smaller : goal.loop-t-smaller
loop-t-smaller c =
    let d = c.dequeue.ensures in
    (woke _ _ _ _ _ c.loop-t.invariant.0 d _ _ c.requires.lt_from c.in-Some.is c.make_ready.ensures.is).fewer

pub loop-t-preserved : goal.loop-t-preserved
loop-t-preserved c =
    let d = c.dequeue.ensures in
    let one = woke _ _ _ _ _ c.loop-t.invariant.0 d _ _ c.requires.lt_from c.in-Some.is c.make_ready.ensures.is in
    (c.make_ready.ensures.good, c.loop-t.invariant.1 ∙ one.same)

pub returns : goal.returns
returns c =
    let d = c.dequeue.ensures in
    record {
      is = all_woken _ _ _ _ _ c.loop-t.invariant.0 d c.in_default.is ∙ sym c.loop-t.invariant.1;
      good = d.left.good;
    }
