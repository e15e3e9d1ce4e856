-- `leprahoon::calls::leprahoon_step` meets its contract. Assumes nothing.
use Rattle.leprahoon.proofs.Reports.{reported}
use Rattle.leprahoon.proofs.calls.leprahoon_step.Goals as goal

pub returns : goal.returns
returns c = rw (← c.take_registers.ensures) (reported c.step-o.ensures c.put_outcome.ensures.registers_after c.put_outcome.ensures.report_after)
