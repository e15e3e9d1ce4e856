-- What the tests of a call promise.
use Rattle.std.specs.Prelude.{ℕ, List, ◌≡◌, Ok, Err}
use Rattle.std.specs.declared.result.Result as code
use Rattle.card.specs.Image.{read_of}
use Rattle.card.specs.Result.{gives, number}
use Rattle.card.specs.declared.refusals.Refusal.{Refusal}
use Rattle.machine.specs.Calls.{Box, refused, run_call}
use Rattle.machine.specs.Laws.{Sound}

-- a card that is accepted, and a box that 6 and 7 let through
pub record Ready (size : ℕ) (image : List ℕ) (box : Box) : Type 0 where
  pub cells : ℕ
  pub read : read_of image ≡ gives cells
  pub sound : Sound size box

-- tests that refuse give what a run of any number of steps answers
abbrev pub Judges : {A : Type 0} → ℕ → List ℕ → Box → code.Result A Refusal → Type 0
Judges size image box (Ok x) = Ready size image box
Judges size image box (Err r) = (m : ℕ) → run_call size image m box ≡ refused (number r.reason) r.place box
