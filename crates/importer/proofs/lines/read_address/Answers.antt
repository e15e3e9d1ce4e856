-- `importer::lines::read_address` meets its contract. Assumes nothing.
use mathlib.Core.Path.{sym, ◌∙◌}
use borrow.Author.Tests.{not-false}
use Rattle.importer.proofs.Numbers.{four_digits}
use Rattle.importer.proofs.lines.read_address.Goals as goal

pub returns : goal.returns
returns c =
    four_digits c.args.word.now _ c.if-word-ne4.false
    (sym c.all_digits.ensures ∙ not-false _ c.if-not-all_digits.false-raw) c.value.ensures
