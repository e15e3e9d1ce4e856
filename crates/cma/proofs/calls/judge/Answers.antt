-- `cma::calls::judge` meets its contract. Assumes nothing.
use Rattle.std.proofs.Common.{◌≡◌, ◌∙◌, ℕ, List, IsErrAnd, Ok, Err, sym}
use borrow.Author.Tests.{not-false, not-true}
use Rattle.std.specs.declared.result.Result as code
use Rattle.card.specs.Result.{number}
use Rattle.card.specs.declared.refusals.Refusal.{Refusal}
use Rattle.machine.proofs.Runs.{run_misfit, run_unformed, run_unread}
use Rattle.machine.specs.Calls.{Box, refused, run_call}
use Rattle.cma.specs.Contract.{Judges}
use Rattle.cma.proofs.calls.judge.Goals as goal

module _ {A : Type 0} (size : ℕ) (image : List ℕ) (box : Box) where
  -- a refusal that `?` hands on
  refuses_as : (answer : code.Result A Refusal) (r : Refusal) → IsErrAnd answer (λ e. e ≡ r) →
      ((m : ℕ) → run_call size image m box ≡ refused (number r.reason) r.place box) → Judges size image box answer
  refuses_as (Ok x) r h e = absurd h
  refuses_as (Err d) r h e = rw h e

pub returns-in_err-read : goal.returns-in_err-read
returns-in_err-read c =
    refuses_as _ _ _ _ _ c.from_residual.ensures.1 (λ m. run_unread _ _ _ _ _ m (sym c.in_err-read.ensures))

pub returns-in_err-refuse_if : goal.returns-in_err-refuse_if
returns-in_err-refuse_if c =
    let wrong = c.in_err-refuse_if.ensures in
    let misfit = not-true _ wrong.0 in
    refuses_as _ _ _ _ _ c.from_residual-in_err-refuse_if.ensures.1
    (λ m. rw wrong.1 (run_misfit _ _ _ _ m (sym c.in_ok-read.ensures) misfit))

pub returns-in_err-refuse_if-2 : goal.returns-in_err-refuse_if-2
returns-in_err-refuse_if-2 c =
    let wrong = c.in_err-refuse_if-2.ensures in
    let store = not-false _ c.in_ok-refuse_if.ensures in
    let unformed = sym c.well_formed-formed.ensures ∙ not-true _ wrong.0 in
    refuses_as _ _ _ _ _ c.from_residual-in_err-refuse_if-2.ensures.1
    (λ m. rw wrong.1 (run_unformed _ _ _ _ m (sym c.in_ok-read.ensures) store unformed))

pub returns : goal.returns
returns c =
    let formed = sym c.well_formed-formed.ensures ∙ not-false _ c.in_ok-refuse_if-2.ensures in
    record {
      cells = _;
      read = sym c.in_ok-read.ensures;
      sound = record { store = not-false _ c.in_ok-refuse_if.ensures; formed = formed };
    }
