-- `importer::lines::read_lines` meets its contract. Assumes nothing.
use mathlib.Core.Path.{sym, ◌∙◌}
use native.Mathlib.Omega.{arith}
use Rattle.card.proofs.Refused.{handed_on}
use Rattle.importer.proofs.Following.{ended, goes_on, on, stopped}
use Rattle.importer.proofs.lines.read_lines.Goals as goal

pub returns-in_err-word : goal.returns-in_err-word
returns-in_err-word c =
    let r = stopped c.loop-at.invariant.0 _ _ _ c.loop-at-test.true (sym c.next_line.ensures ∙ c.in_err-word.was)
    (handed_on _ _ _ c.from_residual.ensures.1) in
    record { value = r.answered; stores = r.kept }

pub loop-at-preserved : goal.loop-at-preserved
loop-at-preserved c =
    let read = sym c.next_line.ensures ∙ c.in_ok-word.was in
    let s = goes_on c.args.text.now c.loop-at.index c.loop-at.at c.loop-at-test.true _ _ read in
    (on c.loop-at.invariant.0 _ _ _ s c.store.ensures, omega (arith, c.loop-at.invariant.1, s.further), s.inside)

pub returns : goal.returns
returns c = let r = ended c.loop-at.invariant.0 c.loop-at-test.false in record { value = r.answered; stores = r.kept }
