-- `engine::stretches::stretch` meets its contract. Assumes nothing.
use Prim.Native.Nat.{◌+◌, ◌-◌}
use mathlib.Core.Path.{◌≡◌}
use native.Mathlib.Nat.{sub-zero}
use native.Mathlib.Omega.{arith}
use Rattle.engine.proofs.Inside.{allowed, enter, fits, one_more}
use Rattle.engine.proofs.stretches.stretch.Goals as goal

pub loop-done-init : goal.loop-done-init
loop-done-init c = rw sub-zero (enter c.args.card.now.carded)

pub execute-requires : goal.execute-requires
execute-requires c =
    let card = c.args.card.now in
    let below = c.if-words-pc.false in
    let all = card.unpacked (omega (arith, below)) in
    record {
      fit = fits card.carded c.loop-done.invariant c.requires.housed (rw all at below) c.requires.size_bound;
      permitted = allowed card.carded c.loop-done.invariant all below;
    }

pub returns-in_default : goal.returns-in_default
returns-in_default c = rw c.in_default.ensures.kept c.loop-done.invariant

pub loop-done-preserved : goal.loop-done-preserved
loop-done-preserved c =
    let card = c.args.card.now in
    let below = c.if-words-pc.false in
    let all = card.unpacked (omega (arith, below)) in
    let next : c.args.m - (c.loop-done.done + 1) ≡ c.args.m - c.loop-done.done - 1 = omega arith in
    rw next (one_more card.carded c.loop-done.invariant all below c.in-Some.ensures (omega arith))

pub returns : goal.returns
returns c =
    let none : c.args.m - c.loop-done.done ≡ 0 = omega arith in
    rw none at c.loop-done.invariant
