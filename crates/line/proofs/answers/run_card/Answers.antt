-- `line::answers::run_card` meets its contract. Assumes nothing.
use Rattle.line.proofs.Runs.{goes_on, left_as, stops, was_refused}
use Rattle.line.proofs.answers.run_card.Goals as goal

pub returns-then-is_refused : goal.returns-then-is_refused
returns-then-is_refused c =
    let e = was_refused c.set_up-up.ensures c.is_refused.ensures c.if-is_refused.true in
    rw (stops _ _ _ e) c.set_up-up.ensures

pub returns : goal.returns
returns c =
    let e = was_refused c.set_up-up.ensures c.is_refused.ensures c.if-is_refused.false in
    rw (goes_on _ _ _ e, ← left_as c.set_up-up.ensures) c.run.ensures
