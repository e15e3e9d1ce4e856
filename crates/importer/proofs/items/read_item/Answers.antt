-- `importer::items::read_item` meets its contract. Assumes nothing.
use mathlib.Core.Path.{sym, ◌∙◌, ap}
use native.Mathlib.Omega.{arith}
use Rattle.names.proofs.Table.{named_is}
use Rattle.opcodes.proofs.Rows.{all_lines}
use Rattle.importer.specs.Coding.{coded_entry}
use Rattle.importer.proofs.Spelling.{bare_item_lem, full_item_lem, unknown, unknown_alone}
use Rattle.importer.proofs.items.read_item.Goals as goal

pub returns-in_err-opcode_named-in-None : goal.returns-in_err-opcode_named-in-None
returns-in_err-opcode_named-in-None c =
    let unnamed = sym c.opcode_named.ensures ∙ c.in_err-opcode_named-in-None.was in
    c.from_residual.ensures ∙ sym (ap coded_entry (unknown_alone _ c.in-None.ensures.parts unnamed))

pub bare-requires : goal.bare-requires
bare-requires c =
    omega (arith, (named_is _ _ (sym c.opcode_named.ensures ∙ c.in_ok-opcode_named-in-None.was)).0, all_lines)

pub returns-in_ok-opcode_named-in-None : goal.returns-in_ok-opcode_named-in-None
returns-in_ok-opcode_named-in-None c =
    let named = sym c.opcode_named.ensures ∙ c.in_ok-opcode_named-in-None.was in
    c.bare.ensures ∙ ap coded_entry (bare_item_lem _ c.in-None.ensures.parts _ named)

pub returns-in_err-opcode_named-in-Some : goal.returns-in_err-opcode_named-in-Some
returns-in_err-opcode_named-in-Some c =
    let unnamed = sym c.opcode_named-in-Some.ensures ∙ c.in_err-opcode_named-in-Some.was in
    c.from_residual-in_err-opcode_named-in-Some.ensures
    ∙ sym (ap coded_entry (unknown _ _ _ c.in-Some.ensures.parts unnamed))

pub full-requires : goal.full-requires
full-requires c =
    omega (arith, (named_is _ _ (sym c.opcode_named-in-Some.ensures ∙ c.in_ok-opcode_named-in-Some.was)).0, all_lines)

pub returns-in_ok-opcode_named-in-Some : goal.returns-in_ok-opcode_named-in-Some
returns-in_ok-opcode_named-in-Some c =
    let named = sym c.opcode_named-in-Some.ensures ∙ c.in_ok-opcode_named-in-Some.was in
    c.full.ensures ∙ ap coded_entry (full_item_lem _ _ _ c.in-Some.ensures.parts _ named)
