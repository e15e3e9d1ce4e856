-- `lister::lines::put_start` meets its contract. Assumes nothing.
use Rattle.text.proofs.Lines.{of}
use Rattle.opcodes.specs.Ascii.{bytes}
use Rattle.lister.proofs.Spelled.{header_start}
use Rattle.lister.proofs.lines.put_start.Goals as goal

pub returns-then-line-eq0-clause-puts : goal.returns-then-line-eq0-clause-puts
unfolding bytes
returns-then-line-eq0-clause-puts c = of (header_start _ c.if-line-eq0.true) c.put_bytes.ensures
