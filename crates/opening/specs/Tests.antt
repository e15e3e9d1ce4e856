-- What the tests of a set-up promise.
use Rattle.std.specs.Prelude.{ℕ, List, ◌≡◌, true, Ok, Err}
use Rattle.std.specs.declared.result.Result as code
use Rattle.card.specs.Image.{read_of}
use Rattle.card.specs.Result.{gives, number}
use Rattle.card.specs.declared.refusals.Refusal.{Refusal}
use Rattle.machine.specs.Calls.{Box, refused_set_up, set_up, store_fits}
use Rattle.machine.specs.WellFormed.{tables_fit}

-- a card that is accepted, and a box of the right sizes
pub record Fitting (size : ℕ) (image : List ℕ) (box : Box) (cells : ℕ) : Type 0 where
  pub read : read_of image ≡ gives cells
  pub store : store_fits size box.store ≡ true
  pub tables : tables_fit size box.tables box.values ≡ true

-- tests that refuse give what the set-up answers
abbrev pub Opens : ℕ → List ℕ → Box → code.Result ℕ Refusal → Type 0
Opens size image box (Ok cells) = Fitting size image box cells
Opens size image box (Err r) = set_up size image box ≡ refused_set_up (number r.reason) r.place box
