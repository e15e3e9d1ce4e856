-- `cma::calls::step` meets its contract: a step is a run of one. Assumes nothing.
use Rattle.machine.proofs.Runs.{step_is_run}
use Rattle.machine.specs.Calls.{boxed}
use Rattle.machine.specs.Size.{full}
use Rattle.cma.proofs.calls.step.Goals as goal

pub returns : goal.returns
returns c =
    let given = c.args in
    let box = boxed given.store.now given.tables.now given.values.now given.r in
    rw (step_is_run full given.image.now box) c.call.ensures
