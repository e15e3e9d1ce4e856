-- `importer::header::read_cells` meets its contract. Assumes nothing.
use Prim.Native.Nat.{ℕ}
use mathlib.Core.List.{List}
use mathlib.Core.Path.{sym, ◌∙◌, ap}
use borrow.Author.Tests.{not-false, not-true}
use Rattle.opcodes.specs.Ascii.{bytes}
use Rattle.words.proofs.Walks.{same_listed}
use Rattle.importer.specs.Coding.{coded_cells}
use Rattle.importer.specs.Forms.{header_read}
use Rattle.importer.proofs.Spelling.{header_is, no_number, other_header}
use Rattle.importer.proofs.header.read_cells.Goals as goal

pub returns-in_err-word : goal.returns-in_err-word
returns-in_err-word c =
    c.from_residual.ensures
    ∙ sym (ap (λ (ps : List (List ℕ)). coded_cells (header_read ps)) c.in_err-word.ensures.parts ∙ no_number _)

pub returns-then-ne : goal.returns-then-ne
unfolding bytes
returns-then-ne c =
    let other = rw c.as_slice.ensures at (not-true _ (sym c.ne.ensures ∙ c.if-ne.true)) in
    sym (other_header _ _ _ c.in_ok-word.ensures.parts (sym (same_listed _ _) ∙ other))

pub returns : goal.returns
unfolding bytes
returns c =
    let named = rw c.as_slice.ensures at (not-false _ (sym c.ne.ensures ∙ c.if-ne.false)) in
    c.read_decimal.ensures ∙ header_is _ _ _ c.in_ok-word.ensures.parts (sym (same_listed _ _) ∙ named)
