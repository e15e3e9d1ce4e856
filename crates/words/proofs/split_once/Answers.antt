-- `words::split_once` meets its contract. Assumes nothing.
use Prim.Native.Nat.{◌<◌}
use native.Mathlib.Omega.{arith}
use lib.ListN.{length}
use Rattle.words.proofs.Cuts.{never_once, once}
use Rattle.words.proofs.split_once.Goals as goal

pub returns-then-end-text-clause-parts : goal.returns-then-end-text-clause-parts
returns-then-end-text-clause-parts c =
    never_once c.args.sep c.args.text.now c.find-end.result c.find-end.ensures.value c.if-end-text.true

pub returns-clause-parts : goal.returns-clause-parts
returns-clause-parts c =
    let inside : c.find-end.result < length c.args.text.now =
    omega (arith, c.find-end.ensures.upper_bound, c.if-end-text.false) in
    once c.args.sep c.args.text.now c.find-end.result c.find-end.ensures.value inside
