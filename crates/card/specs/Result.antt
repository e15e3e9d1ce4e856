-- What a function hands back, as the paper has it: a value, or a refusal "by number and place". In code it hands back
-- an Ok with the value, or an Err with the reason and the place; `told` sets out which of these every case is, and the
-- promises are stated with it.
use Rattle.std.specs.Prelude.{ℕ, List, [], ◌∷◌, Ok, Err}
use Rattle.std.specs.declared.result.Result as code
use Rattle.card.specs.declared.refusals.Reason.{Reason}
use Rattle.card.specs.declared.refusals.Reason.TheVariants as reason
use Rattle.card.specs.declared.refusals.Refusal.{Refusal}

pub data Result : Type 0 where
  gives : ℕ → Result
  refuses : ℕ → ℕ → Result

-- the number in the paper's table, 0 where nothing is refused
abbrev pub number_of : Result → ℕ
number_of (gives value) = 0
number_of (refuses number place) = number

-- its place, 0 where nothing is refused
abbrev pub place_of : Result → ℕ
place_of (gives value) = 0
place_of (refuses number place) = place

-- the value, 0 on a refusal, as "g 0 .. on a refusal"
abbrev pub value_of : Result → ℕ
value_of (gives value) = value
value_of (refuses number place) = 0

-- all three, as a list that a program in C is given
abbrev pub report_of : Result → List ℕ
report_of r = number_of r ∷ place_of r ∷ value_of r ∷ []

-- the numbers of "Numbers given when it can't be done", and those of the paper on a card's text
abbrev pub number : Reason → ℕ
number reason.Length = 1
number reason.Version = 2
number reason.Sizes = 3
number reason.Opcode = 4
number reason.Operand = 5
number reason.Store = 6
number reason.Tables = 7
number reason.NoRoom = 8
number reason.TextHeader = 40
number reason.TextLine = 41
number reason.TextAddress = 42
number reason.TextNoRoom = 43

-- the answer of a function in code, with the number that its value is
abbrev pub told : {A : Type 0} → (A → ℕ) → code.Result A Refusal → Result
told value (Ok x) = gives (value x)
told value (Err r) = refuses (number r.reason) r.place
