-- `card::checking::check` meets its contract. Assumes nothing.
use Rattle.std.proofs.Common.{◌≡◌, ◌<◌, ◌≤◌, ℕ, ℤ, Bool, true, false, cond, not, sym, refl, ◌∙◌, arith, length}
use borrow.Author.Tests.{leb-false, leb-true}
use mir.Facts.{to_z-of_z}
use Rattle.std.proofs.lemmas.Result.{err_from_is_err_and}
use Rattle.opcodes.specs.Page.{last_opcode, page, rule_of}
use Rattle.opcodes.specs.Rules.{allows}
use Rattle.opcodes.proofs.Rows.{all_lines}
use Rattle.instruction.specs.Rules.{check_of}
use Rattle.instruction.specs.Word.{opcode_of, operand_of}
use Rattle.instruction.proofs.Checks.{against, fine, over}
use Rattle.card.specs.Code.{Fine, Bad, scan_of}
use Rattle.card.proofs.Refused.{found_if}
use Rattle.card.proofs.checking.check.Goals as goal

-- the answer on a known opcode's operand
by_operand : (last : ℤ) (w index : ℕ) → opcode_of w ≤ last_opcode → (permitted : Bool) →
    permitted ≡ allows (rule_of (opcode_of w)) last (operand_of w) →
    cond (not permitted) (Bad 5 index) Fine ≡ scan_of (check_of last w) index
by_operand last w index known true e = rw (fine last w known (sym e)) refl
by_operand last w index known false e = rw (against last w known (sym e)) refl

pub returns-in_err-refuse_if : goal.returns-in_err-refuse_if
returns-in_err-refuse_if c =
    let p = err_from_is_err_and c.from_residual.result c.from_residual.ensures.1 in
    let past = leb-true _ _ c.in_err-refuse_if.ensures.0 in
    let over_last : last_opcode < opcode_of c.args.w = omega (arith, past, c.opcode-opcode.ensures, all_lines) in
    rw (p.1, p.2, c.in_err-refuse_if.ensures.1, over c.args.last c.args.w over_last) refl

pub returns : goal.returns
returns c =
    let known = leb-false _ _ c.in_ok-refuse_if.ensures in
    let within : c.opcode-opcode.result < length page = omega (arith, known, all_lines) in
    let permitted =
    rw (to_z-of_z c.ranges.last, c.requires.rule _ _ within, c.opcode-opcode.ensures, c.bits.ensures)
    at c.permits-permitted.ensures in
    let at_most : opcode_of c.args.w ≤ last_opcode = omega (arith, known, c.opcode-opcode.ensures, all_lines) in
    found_if _ _ _ _ c.refuse_if-2.ensures ∙ by_operand c.args.last c.args.w c.args.index at_most _ permitted
