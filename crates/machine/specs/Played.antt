-- "What demand 3 speaks of": the lists of calls after a set-up that wasn't refused, and what such a list gives.
use Rattle.std.specs.Prelude.{ℕ, ◌≤◌, List, [], ◌∷◌, ◌++◌, ◌⊎◌, ◌≢◌, ◌≡◌, length}
use Rattle.card.specs.Image.{read_of}
use Rattle.card.specs.Result as result
use Rattle.machine.specs.Book.{Entry}
use Rattle.machine.specs.Calls.{Box, Called, Report, refused_by, run_call, set_up, step_call}
use Rattle.machine.specs.Lists.{Each}
use Rattle.machine.specs.Size.{full, shared, store_size, tables_size, values_size}

-- a call of the list, with its image
pub data Call : Type 0 where
  step_on : List ℕ → Call
  run_on : List ℕ → ℕ → Call

abbrev pub image_of : Call → List ℕ
image_of (step_on image) = image
image_of (run_on image m) = image

abbrev pub call_of : ℕ → Call → Box → Called
call_of size (step_on image) box = step_call size image box
call_of size (run_on image m) box = run_call size image m box

-- "Its image is the card's, or one refused by 1 to 5"
abbrev pub Fitting : List ℕ → Call → Type 0
Fitting card call =
    (image_of call ≡ card) ⊎ ((number : ℕ) × (place : ℕ) × (read_of (image_of call) ≡ result.refuses number place))

-- what a list of calls gives: all answers, all that was carried out, and the box at the end
pub record Played : Type 0 where
  pub answers : List Report
  pub trace : List Entry
  pub box : Box

-- "Each gets store, tables and registers as the call before, or the setting up, left them"
unfoldable pub played : ℕ → List Call → Box → Played
played size [] box = record { answers = []; trace = []; box = box }
played size (call ∷ rest) box =
    let one = call_of size call box in
    let more = played size rest one.box in
    record { answers = one.answer ∷ more.answers; trace = one.trace ++ more.trace; box = more.box }

-- "no call gets 7"
abbrev pub NotDamaged : Report → Type 0
NotDamaged answer = (place : ℕ) → answer ≢ refused_by 7 place

-- something holds of a card, a list of calls and the box that set-up leaves
abbrev pub Holds : Type 1
Holds = List ℕ → List Call → Box → Type 0

-- it does so in a box of any size: for any accepted card whose global cells it has, any lent memory of the right
-- sizes, any list of step and run calls
abbrev pub AfterCalls : ℕ → Holds → Type 0
AfterCalls size P =
    (card : List ℕ) (cells : ℕ) (lent : Box) (calls : List Call) →
    read_of card ≡ result.gives cells →
    cells ≤ shared size →
    length lent.store ≡ store_size size →
    length lent.tables ≡ tables_size size →
    length lent.values ≡ values_size size →
    Each (Fitting card) calls →
    P card calls (set_up size card lent).box

-- and in the paper's box, where every accepted card's global cells are there
abbrev pub InPaperBox : Holds → Type 0
InPaperBox P =
    (card : List ℕ) (cells : ℕ) (lent : Box) (calls : List Call) →
    read_of card ≡ result.gives cells →
    length lent.store ≡ 8192 →
    length lent.tables ≡ tables_size full →
    length lent.values ≡ 64 →
    Each (Fitting card) calls →
    P card calls (set_up full card lent).box
