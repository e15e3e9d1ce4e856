-- `line::words::put_result` meets its contract. Assumes nothing.
use mathlib.Core.Path.{sym, ap, ◌∙◌}
use borrow.Author.Rules.{rules, sfits_of}
use mir.Facts.{to_z-of_z}
use mir.Syntax.{w32}
use Rattle.text.specs.Decimal.{signed}
use Rattle.text.proofs.Lines.{of}
use Rattle.line.proofs.words.put_result.Goals as goal

pub returns-then-has_ended : goal.returns-then-has_ended
returns-then-has_ended c =
    let v = c.read in
    let read = to_z-of_z (sfits_of {w = w32} {z = v.result} v.type_inv) ∙ v.ensures in
    record { puts = rw (sym c.has_ended.ensures ∙ c.if-has_ended.true) (of (ap signed read) c.put_signed.ensures.puts); upper_bound = search rules }

pub returns-else-has_ended : goal.returns-else-has_ended
returns-else-has_ended c = record { puts = rw (sym c.has_ended.ensures ∙ c.if-has_ended.false) c.put_byte.ensures; upper_bound = search rules }
