-- What a call keeps, and what a refusal and a fault change: the first laws of specs/Laws.antt. Assumes nothing.
use Prim.Native.Nat.{ℕ, ◌<◌, ◌≤◌}
use mathlib.Core.Path.{◌≡◌, ap, refl}
use mathlib.Core.List.{List, [], ◌∷◌, ◌++◌}
use mathlib.Core.Logic.{◌⊎◌, ◌≢◌, inl, inr}
use native.Mathlib.Omega.{arith}
use lib.Dec.{eqb, ltb}
use lib.IntN.{ℤ}
use lib.ListN.{length, get_or}
use borrow.Author.Tests.{eq-eqb, eqb-true}
use Rattle.card.proofs.Header.{accepts}
use Rattle.card.specs.Image.{read_of}
use Rattle.card.specs.Result.{Result}
use Rattle.card.specs.Result as result
use Rattle.machine.specs.Book.{Book, Entry, blank, book_of}
use Rattle.machine.specs.Calls.{Box, Report, card_of, in_state, ran_of, refused, refused_by, refused_state, run_call, set_up, set_up_of, state_of, store_fits}
use Rattle.machine.specs.Fair.{holder_of}
use Rattle.machine.specs.Played.{Call, call_of, image_of, run_on, step_on}
use Rattle.machine.specs.Execution.{Outcome, done, exec, fault}
use Rattle.machine.specs.Instructions.{Instruction, decoded}
use Rattle.machine.specs.Laws.{FaultKeeps, FaultNumbers, KeepsFormed, RefusedKeeps, RefusedSetUp, SetUpForms, Sound}
use Rattle.machine.specs.Plain.{Formed}
use Rattle.machine.specs.Registers.{running, stopped, zeros}
use Rattle.machine.specs.Size.{semaphore_limit, tables_size}
use Rattle.machine.specs.State.{State, start, with_regs}
use Rattle.machine.specs.Step.{carried, entered, onward, run}
use Rattle.machine.specs.Tables.{Tables, at_mutex, at_semaphore, lives, queue, tables_of}
use Rattle.machine.specs.WellFormed.{tables_fit, well_formed}
use Rattle.machine.specs.declared.registers.Registers.{Registers}
use Rattle.machine.proofs.Every.{and_first, and_second}
use Rattle.machine.proofs.Held.{Held, card_call, card_of_lem, held, held_formed, held_store, set_up_lem}
use Rattle.machine.proofs.Lists.{cases, less_or_not}
use Rattle.machine.proofs.Permits.{permits_counted, permits_passing, permits_for}
use Rattle.machine.proofs.Plain.{plain}
use Rattle.machine.proofs.Queues.{no_queue}
use Rattle.machine.proofs.Runs.{run_done, run_misfit, run_unformed, run_unread, step_is_run}
use Rattle.machine.proofs.Slices.{slice_sizes}
use Rattle.machine.proofs.Start.{start_right}
use Rattle.machine.proofs.Steady.{Right}
use Rattle.machine.proofs.Steps.{carried_right}

-- ---- a book for any box

-- the book that a box could have: who lives is alive, and who holds a mutex or waits for it is a name left
abbrev pub book_for : ℕ → Box → Book
book_for size box =
    let tables : Tables = tables_of size box.tables in
    record {
      living = lives tables;
      names = λ m. holder_of size tables m ++ queue tables (at_mutex m);
      releases = λ m. 0;
      permits = permits_for size box.regs.semaphores tables box.values;
    }

-- nobody waits for a semaphore that isn't made
unawaited : (size : ℕ) (r : Registers) (tables : Tables) (values : List ℤ) → Formed size r tables values →
    (k : ℕ) → k < semaphore_limit size → r.semaphores ≤ k → queue tables (at_semaphore size k) ≡ []
unawaited size r tables values f k h past =
    no_queue tables (at_semaphore size k)
    (λ t there e.
    let below : t < size = less_or_not t size (λ i. i) (λ i. absurd (omega (arith, f.tidy.line.no_other t i))) in
    omega (arith, (f.tidy.placed t below).awaited.for_semaphore k h e))

-- a box that 6 and 7 let through is right beside that book
pub sound_held : (size : ℕ) (box : Box) → Sound size box → Held size box (book_for size box)
unfolding well_formed
sound_held size box h =
    let fits = and_first (tables_fit size box.tables box.values) _ h.formed in
    let sized : length box.tables ≡ tables_size size = eqb-true _ _ (and_first _ _ fits) in
    let f = plain size box.regs (tables_of size box.tables) box.values (and_second (tables_fit size box.tables box.values) _ h.formed) in
    record {
      right =
          record {
            steady =
                record {
                  both =
                      record {
                        kempt = record { sizes = slice_sizes size box.tables sized; tidy = f.tidy };
                        booked = record { alive = λ t. refl; counted = λ m below. omega arith; ordered = λ m below. refl };
                        passing = permits_passing size box.regs.semaphores (tables_of size box.tables) box.values f.levels (unawaited size box.regs (tables_of size box.tables) box.values f);
                      };
                  frame = f.frame;
                  free_least = f.free_least;
                  free_most = f.free_most;
                  stored = eqb-true _ _ h.store;
                  valued = eqb-true _ _ (and_second (eqb (length box.tables) (tables_size size)) _ fits);
                  counted = permits_counted size box.regs.semaphores (tables_of size box.tables) box.values f.levels;
                };
            mode = f.mode;
            number = f.number;
          };
      sized = sized;
    }

pub held_sound : (size : ℕ) (box : Box) (book : Book) → Held size box book → Sound size box
held_sound size box book h = record { store = held_store size box book h; formed = held_formed size box book h }

-- ---- what a call can meet

-- a call on a box, whatever its number of steps: it is refused, or it runs
pub data Meets (size : ℕ) (image : List ℕ) (box : Box) : Type 0 where
  refuses : (number place : ℕ) → ((m : ℕ) → run_call size image m box ≡ refused number place box) → Meets size image box
  goes : (cells : ℕ) → read_of image ≡ result.gives cells → Sound size box →
      ((m : ℕ) → run_call size image m box ≡ ran_of (run size (card_of image) (state_of size box) m)) → Meets size image box

pub meets : (size : ℕ) (image : List ℕ) (box : Box) → Meets size image box
meets size image box = by_card (read_of image) refl
  where
    by_card : (r : Result) → read_of image ≡ r → Meets size image box
    by_card (result.refuses number place) r = refuses number place (λ m. run_unread size image box number place m r)
    by_card (result.gives cells) r =
        cases (store_fits size box.store)
        (λ f.
        cases (well_formed size box.regs box.tables box.values)
        (λ w. goes cells r (record { store = f; formed = w }) (λ m. run_done size image box cells m r f w))
        (λ w. refuses 7 0 (λ m. run_unformed size image box cells m r f w)))
        (λ f. refuses 6 0 (λ m. run_misfit size image box cells m r f))

-- a call of the list is a run call: a step is a run of one
abbrev pub steps_of : Call → ℕ
steps_of (step_on image) = 1
steps_of (run_on image m) = m

pub call_run : (size : ℕ) (call : Call) (box : Box) →
    call_of size call box ≡ run_call size (image_of call) (steps_of call) box
call_run size (step_on image) box = step_is_run size image box
call_run size (run_on image m) box = refl

-- ---- what a call keeps

pub keeps_formed : KeepsFormed
keeps_formed size call box h = by_meeting (meets size (image_of call) box)
  where
    by_meeting : Meets size (image_of call) box → Sound size (call_of size call box).box
    by_meeting (refuses number place e) = rw (call_run size call box, e (steps_of call)) h
    by_meeting (goes cells r sound e) =
        held_sound size _ _ (card_call size call box (book_for size box) cells r (sound_held size box h)).box

pub set_up_forms : SetUpForms
unfolding set_up
set_up_forms size image cells box some e fits store tables values =
    let a = accepts image cells e in
    let least : 1 ≤ cells = rw a.globals at a.sized.cells.some in (
      rw (e, eq-eqb _ _ store, eq-eqb _ _ tables, eq-eqb _ _ values),
      rw (set_up_lem size image cells box some e fits store tables values)
          (held_sound size _ _ (held size (start size cells) blank (start_right size some cells least fits))),
    )

-- ---- refusals

pub refused_keeps : RefusedKeeps
refused_keeps size call box number place e = by_meeting (meets size (image_of call) box)
  where
    by_meeting : Meets size (image_of call) box → ((call_of size call box).box ≡ box) × ((call_of size call box).trace ≡ [])
    by_meeting (refuses a b k) = rw (call_run size call box, k (steps_of call)) (refl, refl)
    by_meeting (goes cells r sound k) =
        absurd ((card_call size call box (book_for size box) cells r (sound_held size box sound)).answer number place e)

-- a box with all registers 0
abbrev zeroed : Box → Box
zeroed box = record { store = box.store; tables = box.tables; values = box.values; regs = zeros }

no_refusal : (number place : ℕ) → in_state running ≢ refused_by number place
no_refusal number place e = let other : running ≡ refused_state = ap (λ (r : Report). r.state) e in omega arith

set_up_keeps : (size : ℕ) (r : Result) (box : Box) (number place : ℕ) →
    (set_up_of size r box).answer ≡ refused_by number place →
    ((set_up_of size r box).box ≡ zeroed box) × ((set_up_of size r box).trace ≡ [])
set_up_keeps size (result.refuses a b) box number place e = (refl, refl)
set_up_keeps size (result.gives cells) box number place e =
    cases (store_fits size box.store)
    (λ f.
    cases (tables_fit size box.tables box.values)
    (λ t. absurd (no_refusal number place (rw (f, t) at e)))
    (λ t. rw (f, t) (refl, refl)))
    (λ f. rw f (refl, refl))

pub refused_set_up_lem : RefusedSetUp
unfolding set_up
refused_set_up_lem size image box number place e = set_up_keeps size (read_of image) box number place e

-- ---- faults

-- an instruction's outcome is entered, or is a fault and nothing is
entry_or_fault : (size : ℕ) (s from : State) (i : Instruction) (o : Outcome) →
    ((entry : Entry) × ((entered size s from i o).trace ≡ entry ∷ []))
    ⊎ ((number : ℕ) × (entered size s from i o ≡ record { state = with_regs s (stopped s.regs number); trace = [] }))
entry_or_fault size s from i (done u) = inl (_, refl)
entry_or_fault size s from i (fault number) = inr (number, refl)

pub fault_keeps : FaultKeeps
unfolding carried
fault_keeps size words s =
    cases (ltb s.regs.pc (length words))
    (λ k.
    let i : Instruction = decoded (get_or words s.regs.pc 0) in
    rw k (entry_or_fault size s (onward s) i (exec size (length words) (onward s) i)))
    (λ k. rw k (inr (20, refl)))

pub fault_numbers : FaultNumbers
fault_numbers size image cells box number r h runs e =
    let s : State = state_of size box in
    let after = carried_right size (card_of image) (card_of_lem image cells r) s (book_for size box) (sound_held size box h).right runs in
    let here : Right size (with_regs s (stopped s.regs number)) (book_of (book_for size box) []) = rw e at after.right in
    here.number.listed refl
