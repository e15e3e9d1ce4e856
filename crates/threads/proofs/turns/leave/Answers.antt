-- `threads::turns::leave` meets its contract. Assumes nothing.
use Rattle.machine.specs.State.{left}
use Rattle.threads.proofs.turns.leave.Goals as goal

pub returns : goal.returns
unfolding left
returns c =
    record {
      is = λ store values. rw (c.with_state.ensures, c.send.ensures.is, c.save.ensures.is);
      good = c.send.ensures.good;
    }
