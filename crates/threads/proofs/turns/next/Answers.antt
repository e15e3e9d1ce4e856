-- `threads::turns::next` meets its contract. Assumes nothing.
use native.Mathlib.Omega.{arith}
use Rattle.machine.specs.Tables.{ready, tables_of}
use Rattle.tables.proofs.Idle.{idle_behind}
use Rattle.tables.proofs.Waking.{took_first, took_tables}
use Rattle.threads.proofs.Ready.{first_runs, nobody_runs}
use Rattle.threads.proofs.turns.next.Goals as goal

pub dequeue-requires : goal.dequeue-requires
dequeue-requires c = record { good = c.requires.good; behind = idle_behind (tables_of c.args.size c.args.tables.now) ready c.args.skip c.requires.idle (omega arith) }

pub returns-in_default : goal.returns-in_default
returns-in_default c =
    let d = c.dequeue.ensures in
    let none = c.in_default.is in
    record {
      is = λ store values. rw c.idle.ensures (nobody_runs _ store values _ _ _ (took_first _ _ _ _ _ _ d none) (took_tables _ _ _ _ _ _ d none));
      good = d.left.good;
    }

pub returns : goal.returns
returns c =
    let d = c.dequeue.ensures in
    let who = c.in-Some.is in
    let context = c.saved-pc.ensures in
    record {
      is =
          λ store values.
          rw (c.switch.ensures, context.pc, context.cells, context.fp)
          (first_runs _ store values _ _ _ _ (took_first _ _ _ _ _ _ d who) (took_tables _ _ _ _ _ _ d who));
      good = d.left.good;
    }
