-- `leprahoon::calls::leprahoon_set_up` meets its contract. Assumes nothing.
use Rattle.leprahoon.proofs.Reports.{reported}
use Rattle.leprahoon.proofs.calls.leprahoon_set_up.Goals as goal

pub returns : goal.returns
returns c = reported c.set_up-o.ensures c.put_outcome.ensures.registers_after c.put_outcome.ensures.report_after
