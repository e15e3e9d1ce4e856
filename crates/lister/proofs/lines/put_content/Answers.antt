-- `lister::lines::put_content` meets its contract. Assumes nothing.
use mathlib.Core.Path.{ap}
use Rattle.text.proofs.Lines.{both, of}
use Rattle.opcodes.specs.Page.{name_of}
use Rattle.lister.proofs.Spelled.{instruction_content}
use Rattle.lister.proofs.lines.put_content.Goals as goal

pub returns-clause-puts : goal.returns-clause-puts
returns-clause-puts c =
    let name = of (ap name_of c.opcode.ensures) c.put_name-next.ensures.puts in
    of (instruction_content c.args.line _ c.if-line-eq0.false)
    (both c.put_byte-next.ensures (both name c.put_operand.ensures.puts))
