-- `threads::turns::block` meets its contract. Assumes nothing.
use Rattle.threads.proofs.Idle.{idle_gone}
use Rattle.threads.proofs.turns.block.Goals as goal

pub next-requires-clause-idle : goal.next-requires-clause-idle
next-requires-clause-idle c = idle_gone _ c.args.skip _ _ _ _ _ c.leave-gone.ensures c.requires.idle_after
