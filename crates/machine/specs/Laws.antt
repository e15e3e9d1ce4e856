-- Laws of the definitions, over every box and every call: what a call keeps, what a refusal and a fault change, what
-- a run counts, and that none of this is empty. Their proofs are in proofs/Laws.antt, proofs/RunLaws.antt and
-- proofs/NotEmpty.antt.
use Rattle.std.specs.Prelude.{ℕ, ◌+◌, ◌≤◌, ◌<◌, true, false, List, [], ◌∷◌, ◌++◌, ◌⊎◌, ◌≢◌, ◌≡◌, negsuc, pos, length}
use Rattle.card.specs.Image.{read_of}
use Rattle.card.specs.Result as result
use Rattle.machine.specs.Book.{Entry, ends, joins, unlocks}
use Rattle.machine.specs.Calls.{Box, Called, answer_of, box_of, card_of, count_of, in_state, refused_by, run_call, set_up, state_of, step_call, store_fits}
use Rattle.machine.specs.Cards.{card, create, down, exit, join, loadc, lock, newmutex, newsema, unlock, yield}
use Rattle.machine.specs.Delivery.{top_of}
use Rattle.machine.specs.Order.{entry_at}
use Rattle.machine.specs.Played.{Call, Played, call_of, played, run_on}
use Rattle.machine.specs.Registers.{is_fault, is_running, running, stopped, zeros}
use Rattle.machine.specs.Runner.{lent}
use Rattle.machine.specs.Size.{full, shared, store_size, tables_size, values_size}
use Rattle.machine.specs.State.{State, semaphore_count, start, with_regs}
use Rattle.machine.specs.Step.{carried, run}
use Rattle.machine.specs.Step as steps
use Rattle.machine.specs.Tables.{Tables, at_end, at_mutex, at_semaphore, owner_of, queue}
use Rattle.machine.specs.WellFormed.{well_formed}

-- a box that numbers 6 and 7 let through: its store fits, and it is well formed
pub record Sound (size : ℕ) (box : Box) : Type 0 where
  pub store : store_fits size box.store ≡ true
  pub formed : well_formed size box.regs box.tables box.values ≡ true

-- "Damaged is not well formed: no call gets 7." Every call, with any image and any m, leaves such a box as such a box.
abbrev pub KeepsFormed : Type 0
KeepsFormed = (size : ℕ) (call : Call) (box : Box) → Sound size box → Sound size (call_of size call box).box

-- "Setting up clears the store and, whatever the lent tables held, leaves nothing made but thread 0": a set-up that
-- isn't refused leaves one definite box, which is such a box
abbrev pub SetUpForms : Type 0
SetUpForms =
    (size : ℕ) (image : List ℕ) (cells : ℕ) (box : Box) →
    1 ≤ size →
    read_of image ≡ result.gives cells →
    cells ≤ shared size →
    length box.store ≡ store_size size →
    length box.tables ≡ tables_size size →
    length box.values ≡ values_size size →
    (set_up size image box ≡ record { answer = in_state running; trace = []; box = box_of (start size cells) })
    × Sound size (set_up size image box).box

-- "Faults 20 up mark the machine faulted and change no cell, thread or queue": an instruction is carried out, which
-- is one entry, or nothing is entered and only the registers' state and fault are changed
abbrev pub FaultKeeps : Type 0
FaultKeeps =
    (size : ℕ) (words : List ℕ) (s : State) →
    ((entry : Entry) × ((carried size words s).trace ≡ entry ∷ []))
    ⊎ ((number : ℕ) × (carried size words s ≡ record { state = with_regs s (stopped s.regs number); trace = [] }))

-- "one of the table from 20 up": a fault's number, in a box that 6 and 7 let through and with an accepted card
abbrev pub FaultNumbers : Type 0
FaultNumbers =
    (size : ℕ) (image : List ℕ) (cells : ℕ) (box : Box) (number : ℕ) →
    read_of image ≡ result.gives cells →
    Sound size box →
    is_running box.regs ≡ true →
    carried size (card_of image) (state_of size box)
    ≡ record { state = with_regs (state_of size box) (stopped box.regs number); trace = [] } →
    is_fault number ≡ true

-- "Numbers 1 to 8 alter nothing, and the registers come back as given with count 0"
abbrev pub RefusedKeeps : Type 0
RefusedKeeps =
    (size : ℕ) (call : Call) (box : Box) (number place : ℕ) →
    (call_of size call box).answer ≡ refused_by number place →
    ((call_of size call box).box ≡ box) × ((call_of size call box).trace ≡ [])

-- "a refused set-up gives all registers 0, halted", and alters nothing else
abbrev pub RefusedSetUp : Type 0
RefusedSetUp =
    (size : ℕ) (image : List ℕ) (box : Box) (number place : ℕ) →
    (set_up size image box).answer ≡ refused_by number place →
    ((set_up size image box).box ≡ record { store = box.store; tables = box.tables; values = box.values; regs = zeros })
    × ((set_up size image box).trace ≡ [])

-- one call after another: the answer and the box are the second's, and what was carried out is appended
abbrev pub then : Called → Called → Called
then first second = record { answer = second.answer; trace = first.trace ++ second.trace; box = second.box }

-- "Runs of a and then b equal one of a + b, counts added": of the calls, for every input. Where one is refused, all
-- are refused alike.
abbrev pub RunsAdd : Type 0
RunsAdd =
    (size : ℕ) (image : List ℕ) (box : Box) (a b : ℕ) →
    (run_call size image (a + b) box
    ≡ then (run_call size image a box) (run_call size image b (run_call size image a box).box))
    × (count_of (run_call size image (a + b) box)
    ≡ count_of (run_call size image a box) + count_of (run_call size image b (run_call size image a box).box))

-- a step is a run of one, answer and all
abbrev pub StepIsRun : Type 0
StepIsRun = (size : ℕ) (image : List ℕ) (box : Box) → step_call size image box ≡ run_call size image 1 box

-- "A run of m steps stops early when the machine does. Its count is the instructions carried out"
pub record Counted (size : ℕ) (words : List ℕ) (s : State) (m : ℕ) : Type 0 where
  -- at most m are carried out, ..
  pub most : steps.count_of (run size words s m) ≤ m
  -- .. and fewer only where the machine has stopped
  pub fewer : steps.count_of (run size words s m) < m → is_running (run size words s m).state.regs ≡ false
  -- "A step on one not running changes nothing and counts 0"
  pub stays : is_running s.regs ≡ false → run size words s m ≡ record { state = s; trace = [] }

abbrev pub RunCounts : Type 0
RunCounts = (size : ℕ) (words : List ℕ) (s : State) (m : ℕ) → Counted size words s m

-- the same of the calls, for every input: a refused one counts 0, and doesn't answer that the machine is running
pub record CallCounted (size : ℕ) (image : List ℕ) (box : Box) (m : ℕ) : Type 0 where
  pub most : count_of (run_call size image m box) ≤ m
  pub fewer : count_of (run_call size image m box) < m → (run_call size image m box).answer ≢ in_state running
  pub stays : is_running box.regs ≡ false → ((run_call size image m box).box ≡ box)
      × ((run_call size image m box).trace ≡ [])

abbrev pub CallCounts : Type 0
CallCounts = (size : ℕ) (image : List ℕ) (box : Box) (m : ℕ) → CallCounted size image box m

-- "It answers the state again, a faulted one with its number and place": a run of any m on a box that isn't running
abbrev pub AnswersAgain : Type 0
AnswersAgain =
    (size : ℕ) (image : List ℕ) (cells : ℕ) (box : Box) (m : ℕ) →
    read_of image ≡ result.gives cells →
    Sound size box →
    is_running box.regs ≡ false →
    run_call size image m box ≡ record { answer = answer_of box.regs; trace = []; box = box }

-- a card on which two threads want one mutex, and the first hands it on; the second begins at 8
abbrev pub contended : List ℕ
contended =
    card
    (newmutex ∷ lock ∷ loadc (pos 8) ∷ loadc (pos 0) ∷ create ∷ yield ∷ loadc (pos 0) ∷ unlock
    ∷ loadc (pos 0) ∷ lock ∷ [])

-- what two runs on it give, of 8 steps and then of 2, in the paper's box
abbrev pub contention : Played
contention = played full (run_on contended 8 ∷ run_on contended 2 ∷ []) (set_up full contended (lent full)).box

-- the tables between them
abbrev pub between : Tables
between = (state_of full (played full (run_on contended 8 ∷ []) (set_up full contended (lent full)).box).box).tables

-- a card on which a semaphore with a starting count of 1 is lowered three times, twice by others; these begin at 9
-- (change request Four)
abbrev pub lowered : List ℕ
lowered =
    card
    (loadc (pos 1) ∷ newsema ∷ down ∷ loadc (pos 9) ∷ loadc (pos 0) ∷ create ∷ yield ∷ loadc (pos 0) ∷ down
    ∷ loadc (pos 0) ∷ down ∷ [])

-- the box after a run of 11 steps on it: the machine is stuck
abbrev pub awaited : State
awaited = state_of full (played full (run_on lowered 11 ∷ []) (set_up full lowered (lent full)).box).box

-- a card on which threads 1 and 2, from 9 on, join thread 0, which then ends with 7; thread 1 joins it once more, late
-- (change request Six)
abbrev pub joining : List ℕ
joining =
    card
    (loadc (pos 9) ∷ loadc (pos 0) ∷ create ∷ loadc (pos 9) ∷ loadc (pos 0) ∷ create ∷ yield ∷ loadc (pos 7) ∷ exit
    ∷ loadc (pos 0) ∷ join ∷ loadc (pos 0) ∷ join ∷ exit ∷ [])

-- what a run of so many steps on it gives
abbrev pub joiners : ℕ → Played
joiners steps = played full (run_on joining steps ∷ []) (set_up full joining (lent full)).box

-- none of this is empty: an accepted card exists, and after a list of calls a mutex has an owner and somebody waits
-- for it, who has it after the owner's unlock; on another card two wait for a semaphore, whose count says so; on a
-- third two wait for a thread's end, which delivers its result to both
pub record NotEmpty : Type 0 where
  pub accepted : read_of contended ≡ result.gives 1
  pub owner : owner_of between 0 ≡ 0
  pub waiters : queue between (at_mutex 0) ≡ 1 ∷ []
  pub released : entry_at contention.trace 9 ≡ record { thread = 0; event = unlocks 0 }
  pub handed_on : owner_of (state_of full contention.box).tables 0 ≡ 1
  pub semaphore : awaited.regs.semaphores ≡ 1
  pub count : semaphore_count full awaited.values 0 ≡ negsuc 1
  pub in_line : queue awaited.tables (at_semaphore full 0) ≡ 1 ∷ 0 ∷ []
  -- threads 1 and 2 executed join, and wait; ..
  pub joined_first : entry_at (joiners 13).trace 8 ≡ record { thread = 1; event = joins 0 }
  pub joined_second : entry_at (joiners 13).trace 10 ≡ record { thread = 2; event = joins 0 }
  pub both_wait : queue (state_of full (joiners 12).box).tables (at_end full 0) ≡ 1 ∷ 2 ∷ []
  -- .. thread 0 ends with 7: thread 1 goes on with it on top, and thread 2 has it there; ..
  pub ended_with : entry_at (joiners 13).trace 12 ≡ record { thread = 0; event = ends (pos 7) }
  pub goes_on : (state_of full (joiners 13).box).regs.thread ≡ 1
  pub first_has : top_of full (state_of full (joiners 13).box) 1 ≡ pos 7
  pub second_has : top_of full (state_of full (joiners 13).box) 2 ≡ pos 7
  -- .. and a late join has it at once
  pub late : entry_at (joiners 15).trace 14 ≡ record { thread = 1; event = joins 0 }
  pub late_has : top_of full (state_of full (joiners 15).box) 1 ≡ pos 7
