-- `importer::operands::read_operand` meets its contract. Assumes nothing.
use mathlib.Core.Path.{◌∙◌, ap}
use Rattle.importer.specs.Coding.{coded_operand}
use Rattle.importer.specs.Forms.{minus_read}
use Rattle.importer.proofs.Numbers.{minus_first, other_first}
use Rattle.importer.proofs.operands.read_operand.Goals as goal

pub returns-in-Some : goal.returns-in-Some
returns-in-Some c =
    let minus = c.in-Some.ensures.cases in
    c.read_minus.ensures ∙ ap coded_operand (ap minus_read minus.1 ∙ minus_first _ minus.0)

pub returns-in-None : goal.returns-in-None
returns-in-None c = c.read_plain.ensures ∙ ap coded_operand (other_first _ c.in-None.ensures.cases)
