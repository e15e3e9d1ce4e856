-- `ranges::order::line_fits` meets its contract. Assumes nothing.
use Rattle.std.specs.Prelude.{◌≡◌, ◌*◌, length}
use Rattle.std.proofs.Common.{arith, ap, refl, sym, ◌∙◌, length-drop}
use Rattle.machine.specs.Tables.{tables_of}
use Rattle.ranges.proofs.Loops.{below_end, below_more, below_not}
use Rattle.ranges.proofs.Seen.{not_once, seen_all, seen_more, seen_none, seen_twice}
use Rattle.ranges.proofs.order.line_fits.Goals as goal
use Rattle.ranges.proofs.order.line_fits.Goals.{then-size-t-via-then-size-t, then-size-t-via-else-size-t+then-seen-t}

pub loop-t-init : goal.loop-t-init
loop-t-init c = (refl, seen_none _)

pub returns-then-size-t : goal.returns-then-size-t
returns-then-size-t c =
    let there = c.loop-t-test.true in
    rw (← c.line_of-t-items.ensures)
    (elim c.then-size-t.branch [
      | then-size-t-via-then-size-t w ↦ rw (c.loop-t.invariant.0, below_not _ _ _ there w.if-size-t.true) refl
      | then-size-t-via-else-size-t+then-seen-t w ↦
          sym (not_once _ _ _ w.if-size-t.false (seen_twice _ _ _ _ c.loop-t.invariant.1 there (omega arith) w.if-seen-t.true))
    ])

pub loop-t-preserved : goal.loop-t-preserved
loop-t-preserved c =
    let there = c.loop-t-test.true in (
      c.loop-t.invariant.0 ∙ below_more _ _ _ there c.if-size-t.false,
      seen_more _ _ _ _ c.loop-t.invariant.1 there (omega arith) c.if-seen-t.false,
    )

pub returns : goal.returns
unfolding tables_of
returns c =
    let past = c.loop-t-test.false in
    let all = c.loop-t.invariant.0 ∙ below_end _ _ _ past in
    let line = c.line_of-t-items.ensures in
    let long : length c.line_of-t-items.result.now ≡ c.args.size =
    ap length line ∙ length-drop (6 * c.args.size) c.args.tables.now ∙ (omega arith) in
    rw (← line) (sym (rw all (seen_all _ _ _ _ _ c.requires.size_bound long all past c.loop-t.invariant.1)))
