-- `importer::header::read_header` meets its contract. Assumes nothing.
use mathlib.Core.Path.{sym, ◌∙◌, ap}
use native.Mathlib.Numerals.{add-one}
use Rattle.importer.specs.Coding.{coded_header}
use Rattle.importer.proofs.Following.{header_cut}
use Rattle.importer.proofs.header.read_header.Goals as goal

pub returns : goal.returns
returns c =
    let cells = sym c.read_cells.ensures ∙ c.in_ok-cells.was in
    sym (ap coded_header c.in_ok-line.ensures.parts ∙ header_cut _ _ ∙ rw (cells, add-one))
