-- `leprahoon::calls::leprahoon_run` meets its contract. Assumes nothing.
use Rattle.leprahoon.proofs.Reports.{reported}
use Rattle.leprahoon.proofs.calls.leprahoon_run.Goals as goal

pub returns : goal.returns
returns c = rw (← c.take_registers.ensures) (reported c.run-o.ensures c.put_outcome.ensures.registers_after c.put_outcome.ensures.report_after)
