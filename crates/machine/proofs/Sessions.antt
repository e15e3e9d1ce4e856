-- The tables of sessions hold: a test is computed over all rows, and a law turns it into what each row says. Assumes nothing.
use Prim.Native.Nat.{ℕ}
use mathlib.Core.Bool.{Bool, true, false, ◌&&◌}
use mathlib.Core.List.{List, [], ◌∷◌}
use mathlib.Core.Path.{◌≡◌, refl}
use lib.Dec.{eqb}
use borrow.Author.Tests.{eqb-true}
use Rattle.opcodes.specs.Page.{page}
use Rattle.card.specs.Code.{first_bad, words_of}
use Rattle.card.specs.Image.{code_of, read_code, read_of}
use Rattle.writer.specs.Writing.{words_bytes}
use Rattle.opcodes.specs.Ascii.{bytes}
use Rattle.opcodes.proofs.Same.{same_z_lem, same_z}
use Rattle.text.specs.Decimal.{decimal, places}
use Rattle.text.specs.Lines.{line}
use Rattle.machine.specs.Book.{event_of}
use Rattle.machine.specs.Calls.{Called, run_call, set_up}
use Rattle.machine.specs.Execution.{exec, fits, frame, needs, opening, owns, rooms, within}
use Rattle.machine.specs.Instructions.{instruction_of}
use Rattle.machine.specs.Lists.{Each, count, every, keep, some, to_end, up_to}
use Rattle.machine.specs.Mistakes.{Excluded, few, mistakes}
use Rattle.machine.specs.Runner.{judged_part, line_of, runner_call, runner_in, runner_line}
use Rattle.machine.specs.Sessions.{Gives, Hold, Result, Session, ended_of, results_of, sessions}
use Rattle.machine.specs.Size.{full}
use Rattle.machine.specs.State.{delivered, finished, left, next, start}
use Rattle.machine.specs.Step.{carried, run}
use Rattle.machine.specs.Tables.{all_ready, any_live, first, owned, owns_any, queue, saved, sent, slice_of, tables_of}
use Rattle.machine.specs.WellFormed.{all_below, formed, well_formed}
use Rattle.machine.proofs.Every.{and_first, and_second, never}

-- ---- two lists that agree, member by member, in a test

unfoldable agree : {A : Type 0} → (A → A → Bool) → List A → List A → Bool
agree test [] [] = true
agree test [] (y ∷ ys) = false
agree test (x ∷ xs) [] = false
agree test (x ∷ xs) (y ∷ ys) = test x y && agree test xs ys

agree_is : {A : Type 0} (test : A → A → Bool) → ((x y : A) → test x y ≡ true → x ≡ y) → (xs ys : List A) →
    agree test xs ys ≡ true → xs ≡ ys
unfolding agree
agree_is test is [] [] e = refl
agree_is test is [] (y ∷ ys) e = never e
agree_is test is (x ∷ xs) [] e = never e
agree_is test is (x ∷ xs) (y ∷ ys) e =
    rw (is x y (and_first (test x y) (agree test xs ys) e), agree_is test is xs ys (and_second (test x y) (agree test xs ys) e))

same_result : Result → Result → Bool
same_result a b = eqb a.thread b.thread && same_z a.value b.value

same_result_lem : (a b : Result) → same_result a b ≡ true → a ≡ b
unfolding same_result
same_result_lem a b e =
    let thread = eqb-true a.thread b.thread (and_first (eqb a.thread b.thread) (same_z a.value b.value) e) in
    let value = same_z_lem a.value b.value (and_second (eqb a.thread b.thread) (same_z a.value b.value) e) in
    λ i. record { thread = thread i; value = value i }

-- ---- the test of a row, and what it tells

-- the call is named once, so that it is computed once
passes : ℕ → Session → Bool
passes size s =
    let called : Called = runner_call size (judged_part s.image) in
    agree eqb (line_of size called) (bytes s.line) && agree same_result (results_of size called.box) s.results

all : ℕ → List Session → Bool
all size [] = true
all size (s ∷ rest) = passes size s && all size rest

passed : (size : ℕ) (s : Session) → passes size s ≡ true → Gives size s
unfolding passes runner_line
passed size s e =
    let called : Called = runner_call size (judged_part s.image) in
    let lines : Bool = agree eqb (line_of size called) (bytes s.line) in
    let results : Bool = agree same_result (results_of size called.box) s.results in
    (agree_is eqb eqb-true _ _ (and_first lines results e), agree_is same_result same_result_lem _ _ (and_second lines results e))

each : (size : ℕ) (l : List Session) → all size l ≡ true → Each (Gives size) l
unfolding all Each
each size [] e = tt
each size (s ∷ rest) e = (passed size s (and_first (passes size s) (all size rest) e), each size rest (and_second (passes size s) (all size rest) e))

-- ---- the tables

pub hold : Hold
unfolding
    all passes same_result agree bytes ended_of runner_in line_of line decimal places set_up run_call run carried exec needs rooms within fits frame owns event_of
    instruction_of start next left delivered finished tables_of slice_of queue any_live first sent owned owns_any saved all_ready keep count to_end up_to every some all_below formed
    well_formed read_of read_code code_of first_bad page words_of words_bytes
hold = each full sessions refl

pub excluded : Excluded
unfolding
    all passes same_result agree bytes ended_of runner_in line_of line decimal places set_up run_call run carried exec needs rooms within fits frame opening owns event_of
    instruction_of start next left delivered finished tables_of slice_of queue any_live first sent owned owns_any saved all_ready keep count to_end up_to every some all_below formed
    well_formed read_of read_code code_of first_bad page words_of words_bytes
excluded = each few mistakes refl
