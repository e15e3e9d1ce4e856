-- `endings::delivery::deliver` meets its contract. Assumes nothing.
use Rattle.std.proofs.Common.{arith, refl, sym, ◌∙◌}
use mir.Facts.{to_z-of_z}
use Rattle.tables.proofs.Waking.{all_woken, woke}
use Rattle.endings.proofs.Giving.{all_given, gave, room, still}
use Rattle.endings.proofs.delivery.deliver.Goals as goal

pub loop-t-init : goal.loop-t-init
loop-t-init c = record { good = c.requires.good; receivers = c.requires.receivers; waking = refl; giving = refl }

pub dequeue-requires : goal.dequeue-requires
dequeue-requires c = record { good = c.loop-t.invariant.good; behind = tt }

pub saved-cells-requires : goal.saved-cells-requires
saved-cells-requires c =
    let d = c.dequeue.ensures in
    record { good = d.left.good; t_lt_size = d.real _ c.in-Some.is }

pub overflow_sub-cells : goal.overflow_sub-cells
overflow_sub-cells c =
    let left = c.loop-t.invariant in
    let d = c.dequeue.ensures in
    (room _ _ _ _ _ left.good d _ c.in-Some.is left.receivers _ c.saved-cells.ensures.cells).some

pub poke-requires : goal.poke-requires
poke-requires c =
    let left = c.loop-t.invariant in
    let d = c.dequeue.ensures in
    let cells = room _ _ _ _ _ left.good d _ c.in-Some.is left.receivers _ c.saved-cells.ensures.cells in
    record {
      small = left.good.small;
      fits = c.loop-t.auto.store ∙ c.requires.store_len;
      thread = omega (arith, d.real _ c.in-Some.is);
      cell = omega (arith, cells.some, cells.most);
    }

pub make_ready-requires : goal.make_ready-requires
make_ready-requires c =
    let d = c.dequeue.ensures in
    record { good = d.left.good; t_lt_size = d.real _ c.in-Some.is }

pub loop-t-smaller : goal.loop-t-smaller
loop-t-smaller c =
    let d = c.dequeue.ensures in
    (woke _ _ _ _ _ c.loop-t.invariant.good d _ _ c.requires.lt_from c.in-Some.is c.make_ready.ensures.is).fewer

pub loop-t-preserved : goal.loop-t-preserved
loop-t-preserved c =
    let left = c.loop-t.invariant in
    let d = c.dequeue.ensures in
    let high = c.requires.lt_from in
    let on = c.make_ready.ensures.is in
    record {
      good = c.make_ready.ensures.good;
      receivers = still _ _ _ _ _ left.good d _ c.in-Some.is left.receivers _ high on;
      waking = left.waking ∙ (woke _ _ _ _ _ left.good d _ _ high c.in-Some.is on).same;
      giving =
          left.giving
          ∙ rw c.poke.ensures
          (gave _ _ _ _ _ left.good d _ c.in-Some.is left.receivers _ high on _ _ _ c.saved-cells.ensures.cells);
    }

pub returns : goal.returns
returns c =
    let left = c.loop-t.invariant in
    let d = c.dequeue.ensures in
    record {
      given = sym (rw (to_z-of_z c.ranges.v) at (left.giving ∙ all_given _ _ _ _ _ left.good d _ _ c.in_default.is));
      woken =
          record {
            is = all_woken _ _ _ _ _ left.good d c.in_default.is ∙ sym left.waking;
            good = d.left.good;
          };
    }
