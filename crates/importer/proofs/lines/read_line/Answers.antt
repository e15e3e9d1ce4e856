-- `importer::lines::read_line` meets its contract. Assumes nothing.
use Prim.Native.Nat.{ℕ}
use mathlib.Core.Path.{◌≡◌, sym, ◌∙◌, ap}
use Rattle.std.specs.Prelude.{Option, None, Some}
use Rattle.words.specs.Words.{split}
use Rattle.importer.specs.Coding.{coded_line}
use Rattle.importer.specs.Forms.{Line, line_read}
use Rattle.importer.proofs.Spelling.{in_place, line_right, line_wrong, lone, out_of_place, placed_line, wrong_part}
use Rattle.importer.proofs.lines.read_line.Goals as goal
use Rattle.importer.proofs.lines.read_line.Goals.{After-read_address}

-- the line by its first word and what follows it
spelled : (c : After-read_address) → (a : Option ℕ) → c.read_address.result ≡ a →
    placed_line a c.in_ok-word.word c.args.index ≡ coded_line (line_read (split 32 c.args.line.now)) c.args.index
spelled c a e =
    line_right _ _ _ c.in-Some.ensures.parts c.in_ok-word.word c.args.index a
    (sym c.read_item.ensures ∙ c.in_ok-word.ensures.ok_part) (sym e ∙ c.read_address.ensures)

pub returns-in_default : goal.returns-in_default
returns-in_default c =
    sym (ap (λ (l : Line). coded_line l c.args.index) (ap line_read c.in_default.ensures.parts ∙ lone _))

pub returns-in_err-word : goal.returns-in_err-word
returns-in_err-word c =
    let item = sym c.read_item.ensures ∙ c.in_err-word.ensures.ok_part in
    wrong_part _ _ _ c.from_residual.ensures.1 c.in_err-word.ensures.value
    ∙ sym (ap (λ (l : Line). coded_line l c.args.index) (line_wrong _ _ _ c.in-Some.ensures.parts item))

pub returns-in_err-address : goal.returns-in_err-address
returns-in_err-address c =
    wrong_part _ _ _ c.from_residual-in_err-address.ensures.1 c.in_err-address.ensures.value
    ∙ spelled (goal.at.returns-in_err-address c).After-read_address None c.in_err-address.ensures.ok_part

pub returns-then-address-index : goal.returns-then-address-index
returns-then-address-index c =
    let at = goal.at.returns-then-address-index c in
    out_of_place c.in_ok-address.address c.in_ok-word.word c.args.index c.if-address-index.true
    ∙ spelled at.After-read_address (Some c.in_ok-address.address) c.in_ok-address.ensures.ok_part

pub returns : goal.returns
returns c =
    in_place c.in_ok-address.address c.in_ok-word.word c.args.index c.if-address-index.false
    ∙ spelled (goal.at.returns c).After-read_address (Some c.in_ok-address.address) c.in_ok-address.ensures.ok_part
