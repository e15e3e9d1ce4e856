-- `opcodes::rules` meets its contract. The loop's invariant: the rules in front of k stand in their places. Assumes
-- nothing.
use Prim.Native.Nat.{◌<◌}
use mathlib.Core.Path.{refl, ap}
use native.Mathlib.Omega.{arith}
use lib.ListN.{length}
use Rattle.opcodes.specs.Page.{page}
use Rattle.opcodes.specs.declared.table.Entry.{Entry}
use Rattle.opcodes.proofs.Rows.{all_lines, one_more}
use Rattle.opcodes.proofs.table.rules.Goals as goal

pub loop-k-init : goal.loop-k-init
unfolding page
loop-k-init c = record { long = refl; rule = λ j other h. absurd (omega (arith, h)) }

pub bounds-rules-k : goal.bounds-rules-k
bounds-rules-k c = c.loop-k-test.true

pub loop-k-smaller : goal.loop-k-smaller
loop-k-smaller c = omega (arith, all_lines, c.loop-k-test.true)

pub loop-k-preserved : goal.loop-k-preserved
loop-k-preserved c =
    let known : c.loop-k.k < length page = omega (arith, all_lines, c.loop-k-test.true) in
    let looked = c.all-table.ensures.line _ _ known in
    one_more _ _ _ c.loop-k.invariant known (ap (λ (e : Entry). e.rule) looked)

pub returns : goal.returns
returns c =
    record {
      rule = λ opcode other h. c.loop-k.invariant.rule opcode other (omega (arith, all_lines, h, c.loop-k-test.false));
    }
