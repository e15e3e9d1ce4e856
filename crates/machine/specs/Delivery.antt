-- What change request Six asks to be shown of join and of a thread's end, over the same lists of calls as demand 3. A
-- claim about the state that calls leave speaks of every state on the way too: by `cut` of demand 3, the state after
-- any number of instructions is one that a list of calls leaves. The proofs are in proofs/Delivery.antt.
use Rattle.std.specs.Prelude.{ℕ, ◌-◌, ◌<◌, cond, List, [], ◌∷◌, ◌++◌, ◌⊎◌, ◌≢◌, ◌≡◌, eqb, ℤ, pos, get_or, length}
use Rattle.machine.specs.Book.{Entry, ends, joins}
use Rattle.machine.specs.Calls.{Box, card_of, state_of}
use Rattle.machine.specs.Fair.{runner_of}
use Rattle.machine.specs.Order.{entry_at}
use Rattle.machine.specs.Played.{AfterCalls, Call, InPaperBox, played}
use Rattle.machine.specs.Size.{full, stack_at}
use Rattle.machine.specs.State.{State}
use Rattle.machine.specs.Step.{step}
use Rattle.machine.specs.Tables.{at_end, ended, place_of, queue, ready}

-- the last that a thread executed is instruction number i, join on a thread
pub record Joined (trace : List Entry) (t u i : ℕ) : Type 0 where
  pub carried : i < length trace
  pub join : entry_at trace i ≡ record { thread = t; event = joins u }
  pub nothing_since : (j : ℕ) → i < j → j < length trace → (entry_at trace j).thread ≢ t

-- a thread ended in instruction number i, with a result: top by exit, cell FP − 2 by return, see `event_of`
pub record Ended (trace : List Entry) (u i : ℕ) (v : ℤ) : Type 0 where
  pub carried : i < length trace
  pub end : entry_at trace i ≡ record { thread = u; event = ends v }

-- how many cells are on a thread's stack: of the running one the registers have that, of another the tables
abbrev pub depth_of : State → ℕ → ℕ
depth_of s t = cond (eqb t s.regs.thread) s.regs.cells (get_or s.tables.depths t 0)

-- the top cell of a thread's own stack: where it is in the store, and what it holds
abbrev pub top_at : ℕ → State → ℕ → ℕ
top_at size s t = stack_at size t (depth_of s t - 1)

abbrev pub top_of : ℕ → State → ℕ → ℤ
top_of size s t = get_or s.store (top_at size s t) (pos 0)

-- a result was delivered: the awaited thread has ended, and what it ended with is on top of the other's own stack
pub record Delivered (size : ℕ) (s : State) (trace : List Entry) (t u : ℕ) : Type 0 where
  pub instruction : ℕ
  pub result : ℤ
  pub ended : Ended trace u instruction result
  pub on_top : top_of size s t ≡ result

-- it is still awaited: the thread is in the queue of the other, which has not ended
pub record Awaiting (size : ℕ) (s : State) (trace : List Entry) (t u : ℕ) : Type 0 where
  pub queued : place_of s.tables t ≡ at_end size u
  pub not_ended : (i : ℕ) (v : ℤ) → ¬ Ended trace u i v

-- what an end leaves: the result on top of the stack of each who waited for it, and every other cell as it was; and
-- those who waited at the ready tail, in their order, with the first of all who are ready running (Next)
pub record Ending (size : ℕ) (before after : State) (u : ℕ) (v : ℤ) : Type 0 where
  pub received : (t : ℕ) → t < size → place_of before.tables t ≡ at_end size u →
      top_of size after t ≡ v
  pub no_other : (a : ℕ) →
      ((t : ℕ) → t < size → place_of before.tables t ≡ at_end size u → a ≢ top_at size before t) →
      get_or after.store a (pos 0) ≡ get_or before.store a (pos 0)
  pub as_long : length after.store ≡ length before.store
  pub in_order : runner_of size after ++ queue after.tables ready
      ≡ queue before.tables ready ++ queue before.tables (at_end size u)

-- what holds of a state and of all that was carried out on the way to it
pub record Delivering (size : ℕ) (words : List ℕ) (s : State) (trace : List Entry) : Type 0 where
  -- a thread that executed join on a thread goes on with that thread's result on top, the result that the thread
  -- ended with: where it runs, having executed nothing since, ..
  pub goes_on : (t u i : ℕ) → Joined trace t u i → s.regs.thread ≡ t → Delivered size s trace t u
  -- .. and before it runs it awaits that end, or stands ready with the result on top already
  pub until : (t u i : ℕ) → Joined trace t u i → Awaiting size s trace t u ⊎ Delivered size s trace t u
  -- a thread ends once at most, so it has one result, and that is kept
  pub once : (u i j : ℕ) (v w : ℤ) → Ended trace u i v → Ended trace u j w → i ≡ j
  pub kept : (u i : ℕ) (v : ℤ) → Ended trace u i v → (place_of s.tables u ≡ ended)
      × (get_or s.values u (pos 0) ≡ v)
  -- "an end changes no other cell of the store": where the next step is one
  pub ending : (u : ℕ) (v : ℤ) → (step size words s).trace ≡ record { thread = u; event = ends v } ∷ [] →
      Ending size s (step size words s).state u v

-- of a list of calls
abbrev pub Delivers : ℕ → List ℕ → List Call → Box → Type 0
Delivers size card calls box =
    Delivering size (card_of card) (state_of size (played size calls box).box) (played size calls box).trace

-- for a box of any size, as demand 3
abbrev pub DeliveryFor : ℕ → Type 0
DeliveryFor size = AfterCalls size (Delivers size)

-- and for the paper's box
abbrev pub Delivery6 : Type 0
Delivery6 = InPaperBox (Delivers full)
