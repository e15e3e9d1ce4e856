use Prim.Native.Nat.{◌-◌}
use Rattle.engine.specs.Contract.{Inside}
use Rattle.engine.proofs.stretches.stretch.Given as goal

abbrev pub invariant-loop-done : goal.invariant-loop-done
invariant-loop-done l =
    Inside l.size l.card.code.now l.m l.initial.store l.t l.initial.context l.store l.context (l.m - l.done)
