-- `card::checking::scan` meets its contract. Assumes nothing.
use Rattle.std.proofs.Common.{sym, ◌∙◌, arith}
use Rattle.std.proofs.lemmas.Result.{err_from_is_err_and}
use mir.Facts.{to_z-of_z}
use Rattle.card.proofs.Search.{ends, goes_on, stops}
use Rattle.card.proofs.checking.scan.Goals as goal

pub returns-in_err-check : goal.returns-in_err-check
returns-in_err-check g c =
    let p = err_from_is_err_and c.from_residual.result c.from_residual.ensures.1 in
    let bad = stops _ _ _ (omega arith) _ c.word.ensures _ _ c.loop-index.invariant c.in_err-check.ensures in
    rw (p.1, p.2) (rw (to_z-of_z c.ranges.last) at bad)

pub loop-index-preserved : goal.loop-index-preserved
loop-index-preserved g c =
    c.loop-index.invariant ∙ goes_on _ _ _ (omega arith) _ c.word.ensures c.in_ok-check.ensures

pub returns : goal.returns
returns g c =
    sym (rw (to_z-of_z c.ranges.last) at (c.loop-index.invariant ∙ ends _ _ _ (omega arith)))
