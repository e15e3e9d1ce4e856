-- `opening::check` meets its contract. Assumes nothing.
use Rattle.std.proofs.Common.{◌≡◌, ℕ, List, IsErrAnd, Ok, Err}
use borrow.Author.Tests.{not-false, not-true}
use Rattle.std.specs.declared.result.Result as code
use Rattle.card.specs.Result.{number}
use Rattle.card.specs.declared.refusals.Refusal.{Refusal}
use Rattle.machine.specs.Calls.{Box, refused_set_up, set_up}
use Rattle.opening.specs.Tests.{Opens}
use Rattle.opening.proofs.check.Goals as goal

module _ (size : ℕ) (image : List ℕ) (box : Box) where
  -- a refusal that `?` hands on
  refuses_as : (answer : code.Result ℕ Refusal) (r : Refusal) → IsErrAnd answer (λ e. e ≡ r) →
      set_up size image box ≡ refused_set_up (number r.reason) r.place box → Opens size image box answer
  refuses_as (Ok cells) r h e = absurd h
  refuses_as (Err d) r h e = rw h e

pub returns-in_err-cells : goal.returns-in_err-cells
unfolding set_up
returns-in_err-cells c = refuses_as _ _ _ _ _ c.from_residual.ensures.1 (rw (← c.in_err-cells.ensures))

pub returns-in_err-refuse_if : goal.returns-in_err-refuse_if
unfolding set_up
returns-in_err-refuse_if c =
    let wrong = c.in_err-refuse_if.ensures in
    refuses_as _ _ _ _ _ c.from_residual-in_err-refuse_if.ensures.1 (rw (wrong.1, ← c.in_ok-cells.ensures, wrong.0))

pub returns-in_err-refuse_if-2 : goal.returns-in_err-refuse_if-2
unfolding set_up
returns-in_err-refuse_if-2 c =
    let wrong = c.in_err-refuse_if-2.ensures in
    refuses_as _ _ _ _ _ c.from_residual-in_err-refuse_if-2.ensures.1
    (rw (wrong.1, ← c.in_ok-cells.ensures, c.in_ok-refuse_if.ensures, not-true _ wrong.0))

pub returns-in_err-refuse_if-3 : goal.returns-in_err-refuse_if-3
unfolding set_up
returns-in_err-refuse_if-3 c =
    let wrong = c.in_err-refuse_if-3.ensures in
    refuses_as _ _ _ _ _ c.from_residual-in_err-refuse_if-3.ensures.1
    (rw (
      wrong.1,
      ← c.in_ok-cells.ensures,
      c.in_ok-refuse_if.ensures,
      not-false _ c.in_ok-refuse_if-2.ensures,
      not-true _ wrong.0,
    ))
