-- `importer::lines::next_line` meets its contract. Assumes nothing.
use mathlib.Core.Path.{sym, ◌∙◌}
use Rattle.importer.proofs.Following.{line_at}
use Rattle.importer.proofs.lines.next_line.Goals as goal

pub returns-in-Ok : goal.returns-in-Ok
returns-in-Ok c =
    sym (line_at c.args.text.now _ _ c.args.at c.args.index _ c.requires c.in-Some.ensures.parts
    (sym c.read_line.ensures ∙ c.in-Ok.is))

pub returns-in-Err : goal.returns-in-Err
returns-in-Err c =
    sym (line_at c.args.text.now _ _ c.args.at c.args.index _ c.requires c.in-Some.ensures.parts
    (sym c.read_line.ensures ∙ c.in-Err.is))
