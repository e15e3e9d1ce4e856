-- `importer::importing::import` meets its contract. Assumes nothing.
use mathlib.Core.Path.{refl, sym, ◌∙◌}
use native.Mathlib.Omega.{arith}
use Rattle.card.proofs.Refused.{handed_on}
use Rattle.importer.proofs.Cards.{all_right, starts_inside, wrong_header, wrong_line}
use Rattle.importer.proofs.importing.import.Goals as goal

pub returns-in_err-header : goal.returns-in_err-header
returns-in_err-header c =
    wrong_header _ _ _ _ _ c.from_residual.ensures.1 c.in_err-header.ensures.value c.read_header.ensures

pub read_lines-requires : goal.read_lines-requires
read_lines-requires c =
    starts_inside c.args.text.now c.in_ok-header.header.cells c.in_ok-header.header.next
    (sym c.read_header.ensures ∙ c.in_ok-header.ensures.ok_part)

pub returns-in_err-count : goal.returns-in_err-count
returns-in_err-count c =
    wrong_line c.args.text.now c.in_ok-header.header.cells c.in_ok-header.header.next
    (sym c.read_header.ensures ∙ c.in_ok-header.ensures.ok_part) _ _ _ _ _ refl (sym c.in_err-count.ensures.value)
    (handed_on _ _ _ c.from_residual-in_err-count.ensures.1)

pub returns : goal.returns
returns c =
    all_right c.args.text.now c.in_ok-header.header.cells c.in_ok-header.header.next
    (sym c.read_header.ensures ∙ c.in_ok-header.ensures.ok_part) _ _ _ _ _ _ _ refl (sym c.in_ok-count.ensures.value)
    (omega arith) c.read_lines.ensures.stores c.write_card.ensures
