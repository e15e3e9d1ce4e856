-- `locks::mutexes::unlock_mutex` meets its contract. Assumes nothing.
use native.Mathlib.Omega.{arith}
use Rattle.machine.specs.Tables.{at_mutex, tables_of}
use Rattle.tables.proofs.Idle.{idle_behind}
use Rattle.tables.proofs.Waking.{took_first, took_tables}
use Rattle.locks.proofs.Owners.{freed, passed_on}
use Rattle.locks.proofs.mutexes.unlock_mutex.Goals as goal

pub dequeue-requires : goal.dequeue-requires
dequeue-requires c = rw c.at_mutex.ensures record { good = c.requires.good; behind = idle_behind (tables_of c.args.size c.args.tables.now) (at_mutex c.args.m.0) c.args.skip c.requires.idle (omega arith) }

pub returns-in_default : goal.returns-in_default
returns-in_default c =
    let d = rw c.at_mutex.ensures at c.dequeue.ensures in
    let none = c.in_default.is in
    record {
      is = freed _ _ _ _ _ (took_first _ _ _ _ _ _ d none) (took_tables _ _ _ _ _ _ d none) c.own.ensures.is;
      good = c.own.ensures.good;
    }

pub make_ready-requires : goal.make_ready-requires
make_ready-requires c = record { good = c.own-2.ensures.good; t_lt_size = c.dequeue.ensures.real _ c.in-Some.is }

pub returns : goal.returns
returns c =
    let d = rw c.at_mutex.ensures at c.dequeue.ensures in
    let who = c.in-Some.is in
    record {
      is =
          passed_on _ _ _ _ _ _ _ (c.requires.good.line.once _ (d.real _ who)) (took_first _ _ _ _ _ _ d who) (took_tables _ _ _ _ _ _ d who) c.own-2.ensures.is c.make_ready.ensures.is;
      good = c.make_ready.ensures.good;
    }
