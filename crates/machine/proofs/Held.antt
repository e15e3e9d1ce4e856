-- A box that calls leave: right, and of the right sizes. A call with the card goes on, and one with a refused image changes nothing.
-- Assumes nothing.
use Prim.Native.Nat.{ℕ, ◌+◌, ◌*◌, ◌<◌, ◌≤◌}
use mathlib.Core.Path.{◌≡◌, ap, sym}
use mathlib.Core.Bool.{Bool, true, false, cond}
use mathlib.Core.List.{List}
use mathlib.Core.Logic.{◌≢◌}
use native.Mathlib.Omega.{arith}
use lib.Dec.{eqb}
use lib.ListN.{length, get_or, drop, length-drop}
use borrow.Author.Tests.{eq-eqb}
use Rattle.card.proofs.Header.{accepts, code_part}
use Rattle.card.proofs.Words.{count as count_words}
use Rattle.card.specs.Code.{first_bad, words_of}
use Rattle.instruction.proofs.Checks.{passed}
use Rattle.card.specs.Image.{count_of, last_of, read_of}
use Rattle.card.specs.Code as scan
use Rattle.card.specs.Result as result
use Rattle.machine.specs.Book.{Book, Permits, book_of}
use Rattle.machine.specs.Calls.{Box, Called, Report, accepted, answer_of, box_of, card_of, faulted_by, in_state, ran_of, refused_by, refused_state, refused, run_call, set_up, state_of, step_call, store_fits}
use Rattle.machine.specs.Registers.{faulted, halted, running, stuck}
use Rattle.machine.specs.Played.{Call, call_of, image_of, step_on, run_on}
use Rattle.machine.specs.Plain.{Formed}
use Rattle.machine.specs.Size.{semaphore_limit, shared, store_size, tables_size, values_size}
use Rattle.machine.specs.State.{State, semaphore_count, start}
use Rattle.machine.specs.Step.{Ran, run, step}
use Rattle.machine.specs.Tables.{at_semaphore, queue, tables_of}
use Rattle.machine.specs.WellFormed.{shortfall, tables_fit, well_formed}
use Rattle.machine.proofs.Every.{true_and}
use Rattle.machine.proofs.Permits.{short}
use Rattle.machine.proofs.Plain.{tested}
use Rattle.machine.proofs.Queues.{queue_short}
use Rattle.machine.proofs.Releases.{Lawful}
use Rattle.machine.proofs.Slices.{length_slice, tables_slice}
use Rattle.machine.proofs.Steady.{Right}
use Rattle.machine.proofs.Steps.{After, run_right, step_right}
use Rattle.machine.proofs.Targets.{Card, all_fine, target_in}

-- ---- the card

pub card_of_lem : (image : List ℕ) (cells : ℕ) → read_of image ≡ result.gives cells → Card (card_of image)
card_of_lem image cells e =
    let a = accepts image cells e in
    let words : List ℕ = words_of (drop 9 image) in
    let code : length (drop 9 image) ≡ 4 * count_of image = omega (arith, length-drop 9 image, a.long.follows, a.sized.exact) in
    let n : length words ≡ count_of image = count_words (drop 9 image) (count_of image) code in
    let fine : first_bad (last_of (length words)) 0 words ≡ scan.Fine = rw n a.code in
    rw (code_part image cells e)
    (record {
      some = rw n a.sized.count.some;
      most = rw n a.sized.count.most;
      opcodes = λ i h. (passed (last_of (length words)) (get_or words i 0) (all_fine (length words) 0 words fine i h)).0;
      permitted = λ i h. (passed (last_of (length words)) (get_or words i 0) (all_fine (length words) 0 words fine i h)).1;
      targets = λ i h. target_in (length words) (get_or words i 0) (rw n a.sized.count.some) (all_fine (length words) 0 words fine i h);
    })

-- ---- boxes

-- "the number waiting is the larger of 0 and minus the count"
pub level : (size : ℕ) (s : State) (book : Book) → Right size s book → (k : ℕ) → k < s.regs.semaphores →
    length (queue s.tables (at_semaphore size k)) ≡ shortfall (semaphore_count size s.values k)
level size s book r k made =
    let p : Permits = book.permits in
    let limit : k < semaphore_limit size = omega (arith, r.steady.both.kempt.tidy.counts.semaphores_fit) in
    rw (r.steady.both.passing.left k limit, length-drop (p.starting k + p.ups k) (p.downs k), r.steady.counted.count k made)
    (sym (short (p.starting k + p.ups k) (length (p.downs k))))

-- .. which is at most the number of threads
pub few_wait : (size : ℕ) (s : State) (book : Book) → Right size s book → (k : ℕ) → k < s.regs.semaphores →
    shortfall (semaphore_count size s.values k) ≤ size
few_wait size s book r k made =
    rw (← (level size s book r k made)) (omega (arith, queue_short s.tables (at_semaphore size k), r.steady.both.kempt.sizes.line))

-- the plain reading of a right machine
pub right_formed : (size : ℕ) (s : State) (book : Book) → Right size s book →
    Formed size s.regs s.tables s.values
right_formed size s book r =
    record {
      tidy = r.steady.both.kempt.tidy;
      frame = r.steady.frame;
      free_least = r.steady.free_least;
      free_most = r.steady.free_most;
      levels = level size s book r;
      mode = r.mode;
      number = r.number;
    }

-- what a right machine leaves is read back as it was
pub read_back : (size : ℕ) (s : State) (book : Book) → Right size s book → state_of size (box_of s) ≡ s
read_back size s book r =
    λ i. record { store = s.store; tables = tables_slice size s.tables r.steady.both.kempt.sizes i; values = s.values; regs = s.regs }

-- a box, and the book beside it
pub record Held (size : ℕ) (box : Box) (book : Book) : Type 0 where
  pub right : Right size (state_of size box) book
  pub sized : length box.tables ≡ tables_size size

pub held : (size : ℕ) (s : State) (book : Book) → Right size s book → Held size (box_of s) book
held size s book r =
    record {
      right = rw (read_back size s book r) r;
      sized = length_slice size s.tables r.steady.both.kempt.sizes;
    }

-- numbers 6 and 7 are not given
pub held_store : (size : ℕ) (box : Box) (book : Book) → Held size box book → store_fits size box.store ≡ true
held_store size box book h = eq-eqb _ _ h.right.steady.stored

pub held_formed : (size : ℕ) (box : Box) (book : Book) → Held size box book →
    well_formed size box.regs box.tables box.values ≡ true
unfolding well_formed
held_formed size box book h =
    true_and (tables_fit size box.tables box.values) _
    (true_and (eqb (length box.tables) (tables_size size)) _ (eq-eqb _ _ h.sized) (eq-eqb _ _ h.right.steady.valued))
    (tested size box.regs (tables_of size box.tables) box.values (right_formed size (state_of size box) book h.right))

-- a call on such a box goes on
pub goes_on : (size : ℕ) (box : Box) (book : Book) (ran : Ran) → Held size box book → accepted size box ran ≡ ran_of ran
goes_on size box book ran h = rw (held_store size box book h, held_formed size box book h)

-- ---- calls

-- an answer that is no refusal
answers : (size : ℕ) (s : State) (number place : ℕ) → answer_of s.regs ≢ refused_by number place
answers size s number place e = by_state (eqb s.regs.state running) (eqb s.regs.state stuck) (eqb s.regs.state faulted) e
  where
    by_state : (a b c : Bool) → cond a (in_state running) (cond b (in_state stuck) (cond c (faulted_by s.regs.fault s.regs.pc) (in_state halted))) ≢ refused_by number place
    by_state true b c k = let other : running ≡ refused_state = ap (λ (r : Report). r.state) k in omega arith
    by_state false true c k = let other : stuck ≡ refused_state = ap (λ (r : Report). r.state) k in omega arith
    by_state false false true k = let other : faulted ≡ refused_state = ap (λ (r : Report). r.state) k in omega arith
    by_state false false false k = let other : halted ≡ refused_state = ap (λ (r : Report). r.state) k in omega arith

-- a refused image changes nothing at all
pub refused_call : (size : ℕ) (call : Call) (box : Box) (number place : ℕ) →
    read_of (image_of call) ≡ result.refuses number place →
    call_of size call box ≡ refused number place box
unfolding step_call run_call
refused_call size (step_on image) box number place e = rw e
refused_call size (run_on image m) box number place e = rw e

-- what a call with the card leaves
pub record Went (size : ℕ) (book : Book) (called : Called) : Type 0 where
  pub box : Held size called.box (book_of book called.trace)
  pub lawful : Lawful book called.trace
  pub answer : (number place : ℕ) → called.answer ≢ refused_by number place

went : (size : ℕ) (box : Box) (book : Book) (ran : Ran) → Held size box book → After size book ran →
    Went size book (accepted size box ran)
went size box book ran h r =
    rw (goes_on size box book ran h)
    (record { box = held size ran.state (book_of book ran.trace) r.right; lawful = r.lawful; answer = answers size ran.state })

pub card_call : (size : ℕ) (call : Call) (box : Box) (book : Book) (cells : ℕ) →
    read_of (image_of call) ≡ result.gives cells → Held size box book →
    Went size book (call_of size call box)
unfolding step_call run_call
card_call size (step_on image) box book cells e h =
    rw e (went size box book (step size (card_of image) (state_of size box)) h (step_right size (card_of image) (card_of_lem image cells e) (state_of size box) book h.right))
card_call size (run_on image m) box book cells e h =
    rw e (went size box book (run size (card_of image) (state_of size box) m) h (run_right size (card_of image) (card_of_lem image cells e) (state_of size box) book h.right m))

-- ---- setting up

pub set_up_lem : (size : ℕ) (image : List ℕ) (cells : ℕ) (lent : Box) → 1 ≤ size → read_of image ≡ result.gives cells →
    cells ≤ shared size →
    length lent.store ≡ store_size size → length lent.tables ≡ tables_size size → length lent.values ≡ values_size size →
    (set_up size image lent).box ≡ box_of (start size cells)
unfolding set_up
set_up_lem size image cells lent some e fits store tables values =
    rw (e, eq-eqb _ _ store, eq-eqb _ _ tables, eq-eqb _ _ values)
