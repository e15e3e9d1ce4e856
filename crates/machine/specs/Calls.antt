-- The calls: setting up, step and run with everything that a call can meet.
use Rattle.std.specs.Prelude.{ℕ, Bool, cond, not as negate, List, [], eqb, ℤ, length}
use Rattle.card.specs.Code.{words_of}
use Rattle.card.specs.Image.{code_of, read_of}
use Rattle.card.specs.Result.{Result}
use Rattle.card.specs.Result as result
use Rattle.machine.specs.Book.{Entry}
use Rattle.machine.specs.Registers.{faulted, halted, running, stuck, zeros}
use Rattle.machine.specs.Size.{store_size}
use Rattle.machine.specs.State.{State, start}
use Rattle.machine.specs.Step.{Ran, run, step}
use Rattle.machine.specs.Tables.{slice_of, tables_of}
use Rattle.machine.specs.WellFormed.{tables_fit, well_formed}
use Rattle.machine.specs.declared.answers.Answer.{Answer}
use Rattle.machine.specs.declared.answers.Answer.TheVariants.{Halted, Running, Stuck, Faulted, Refused}
use Rattle.machine.specs.declared.registers.Registers.{Registers}

-- what a call is lent, and what it leaves: the store, the tables, the values (what the ended threads ended with, and
-- the semaphores' counts), and the registers
pub record Box : Type 0 where
  pub store : List ℤ
  pub tables : List ℕ
  pub values : List ℤ
  pub regs : Registers

-- what a call is lent, with its registers
abbrev pub boxed : List ℤ → List ℕ → List ℤ → Registers → Box
boxed store tables values r = record { store = store; tables = tables; values = values; regs = r }

abbrev pub state_of : ℕ → Box → State
state_of size box =
    record { store = box.store; tables = tables_of size box.tables; values = box.values; regs = box.regs }

abbrev pub box_of : State → Box
box_of s = record { store = s.store; tables = slice_of s.tables; values = s.values; regs = s.regs }

-- what a call answers, by numbers: the machine's state, or that the call was refused; the number in the paper's
-- table, of a fault or a refusal; and its place
pub record Report : Type 0 where
  pub state : ℕ
  pub number : ℕ
  pub place : ℕ

-- halted, running or stuck: no number, no place
abbrev pub in_state : ℕ → Report
in_state state = record { state = state; number = 0; place = 0 }

abbrev pub faulted_by : ℕ → ℕ → Report
faulted_by number place = record { state = faulted; number = number; place = place }

-- beside the machine's four states
abbrev pub refused_state : ℕ
refused_state = 4

abbrev pub refused_by : ℕ → ℕ → Report
refused_by number place = record { state = refused_state; number = number; place = place }

-- the state, number and place of each case of the calls' enum
abbrev pub told : Answer → Report
told Halted = in_state halted
told Running = in_state running
told Stuck = in_state stuck
told (Faulted number place) = faulted_by number place
told (Refused r) = refused_by (result.number r.reason) r.place

-- what a call gives: its answer, the instructions carried out, and the box
pub record Called : Type 0 where
  pub answer : Report
  pub trace : List Entry
  pub box : Box

-- the call's count
abbrev pub count_of : Called → ℕ
count_of c = length c.trace

-- "It answers the state again, a faulted one with its number and place"
abbrev pub answer_of : Registers → Report
answer_of r =
    cond (eqb r.state running) (in_state running)
    (cond (eqb r.state stuck) (in_state stuck)
    (cond (eqb r.state faulted) (faulted_by r.fault r.pc)
    (in_state halted)))

-- "Numbers 1 to 8 alter nothing, and the registers come back as given with count 0"
abbrev pub refused : ℕ → ℕ → Box → Called
refused number place box = record { answer = refused_by number place; trace = []; box = box }

abbrev pub ran_of : Ran → Called
ran_of r = record { answer = answer_of r.state.regs; trace = r.trace; box = box_of r.state }

-- 6: "store not 8,192 cells"
abbrev pub store_fits : ℕ → List ℤ → Bool
store_fits size store = eqb (length store) (store_size size)

-- a call on an accepted card: 6, then 7, "tables not well formed"
abbrev pub accepted : ℕ → Box → Ran → Called
accepted size box ran =
    cond (negate (store_fits size box.store)) (refused 6 0 box)
    (cond (negate (well_formed size box.regs box.tables box.values)) (refused 7 0 box)
    (ran_of ran))

-- "In order: 1, 2, 3, then the first bad instruction (4 before 5), 6, 7"; "numbers 1 to 7 are tested before that, by
-- a run of 0 steps too"
abbrev pub judged : ℕ → Result → Box → Ran → Called
judged size (result.refuses number place) box ran = refused number place box
judged size (result.gives cells) box ran = accepted size box ran

-- the words of a card
abbrev pub card_of : List ℕ → List ℕ
card_of image = words_of (code_of image)

unfoldable pub step_call : ℕ → List ℕ → Box → Called
step_call size image box = judged size (read_of image) box (step size (card_of image) (state_of size box))

unfoldable pub run_call : ℕ → List ℕ → ℕ → Box → Called
run_call size image m box = judged size (read_of image) box (run size (card_of image) (state_of size box) m)

-- "a refused set-up gives all registers 0, halted"
abbrev pub refused_set_up : ℕ → ℕ → Box → Called
refused_set_up number place box =
    refused number place (record { store = box.store; tables = box.tables; values = box.values; regs = zeros })

-- "Setting up gives 7 only for a lent table of the wrong size"
abbrev pub set_up_of : ℕ → Result → Box → Called
set_up_of size (result.refuses number place) box = refused_set_up number place box
set_up_of size (result.gives cells) box =
    cond (negate (store_fits size box.store)) (refused_set_up 6 0 box)
    (cond (negate (tables_fit size box.tables box.values)) (refused_set_up 7 0 box)
    (record { answer = in_state running; trace = []; box = box_of (start size cells) }))

unfoldable pub set_up : ℕ → List ℕ → Box → Called
set_up size image box = set_up_of size (read_of image) box
