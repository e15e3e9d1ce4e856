-- What the runner's function promises: its answer, and the contents of the lent buffer.
use Rattle.std.specs.Prelude.{ℕ, ◌≤◌, cond, List, ◌++◌, ◌≡◌, ltb, length, drop, ℤ, Some, None}
use Rattle.std.specs.declared.option.Option.{Option}
use Rattle.card.specs.Result.{Result, gives, refuses}
use Rattle.machine.specs.Calls.{Box}
use Rattle.machine.specs.Calls as calls
use Rattle.machine.specs.Runner.{answer_line, runner_line}
use Rattle.machine.specs.Size.{full}
use Rattle.machine.specs.declared.answers.Answer.{Answer}
use Rattle.text.specs.Lines.{Puts}

-- the line of an answer, in any box with this running thread, these tables and these values
abbrev pub PutsLine : Answer → ℕ → ℕ → List ℕ → List ℤ → List ℕ → List ℕ → ℕ → Type 0
PutsLine answer steps thread tables values before after next =
    (box : Box) → box.regs.thread ≡ thread → box.tables ≡ tables → box.values ≡ values →
    Puts (answer_line full (calls.told answer) steps box) before 0 after next

-- room for every line: the longest is `fault`, four numbers of 20 digits, a space before each, and the line feed
abbrev pub room : ℕ
room = 90

-- the answer, which gives the line's length, for a buffer with so many bytes. The paper has no number for a buffer
-- without room here: it is that of a card's text, 43 at 0
abbrev pub line_answer : List ℕ → ℕ → Result
line_answer input bytes = cond (ltb bytes room) (refuses 43 0) (gives (length (runner_line full input)))

-- the number, place and length of each case of the answer
abbrev pub told : Option ℕ → Result
told (Some n) = gives n
told None = refuses 43 0

-- the buffer afterwards: the line and the old bytes past it, or what it was
abbrev pub line_left : Result → List ℕ → List ℕ → List ℕ
line_left (gives n) input buffer = runner_line full input ++ drop n buffer
line_left (refuses number place) input buffer = buffer

pub record Prints (input before : List ℕ) (answer : Option ℕ) (after : List ℕ) : Type 0 where
  pub answered : told answer ≡ line_answer input (length before)
  pub left : after ≡ line_left (line_answer input (length before)) input before
  -- so what was written is in the buffer
  pub inside : (n : ℕ) → answer ≡ Some n → n ≤ room
