-- `tables::order::find` meets its contract. Assumes nothing.
use Rattle.std.proofs.Common.{arith, eq-eqb}
use Rattle.tables.proofs.Line.{first_found, none_found}
use Rattle.tables.proofs.order.find.Goals as goal

pub returns-then-place : goal.returns-then-place
returns-then-place c =
    let there = c.in_line-t.ensures.entry in
    first_found _ _ c.requires.good _ _ c.requires.behind _ _ there (omega arith)
    (rw (← there, ← c.place.ensures) (eq-eqb _ _ c.if-place.true)) c.loop-k.invariant

pub returns : goal.returns
returns c =
    none_found _ _ c.requires.good _ _ c.requires.behind (λ k low below. c.loop-k.invariant k low (omega arith))
