-- What any list of calls leaves: a right machine beside its book, rightful releases, and no answer of 7. Assumes nothing.
use Prim.Native.Nat.{ℕ, ◌≤◌}
use mathlib.Core.Path.{◌≡◌, sym, ap, ◌∙◌}
use mathlib.Core.List.{List, [], ◌∷◌}
use mathlib.Core.Logic.{inl, inr}
use native.Mathlib.Omega.{arith}
use Rattle.card.proofs.Header.{accepts, refused_number}
use Rattle.card.specs.Image.{read_of}
use Rattle.card.specs.Result as result
use Rattle.machine.specs.Book.{Book, blank, book_of}
use Rattle.machine.specs.Calls.{Box, Report, box_of}
use Rattle.machine.specs.Lists.{Each}
use Rattle.machine.specs.Played.{AfterCalls, Call, Fitting, NotDamaged, call_of, image_of, played}
use Rattle.machine.specs.State.{start}
use Rattle.machine.proofs.Held.{Held, card_call, held, refused_call, set_up_lem}
use Rattle.machine.proofs.Releases.{Lawful, lawful_append}
use Rattle.machine.proofs.Start.{start_right}
use Rattle.machine.proofs.Steps.{book_append}

-- what one call of the list leaves
pub record Kept (size : ℕ) (book : Book) (call : Call) (before : Box) : Type 0 where
  pub box : Held size (call_of size call before).box (book_of book (call_of size call before).trace)
  pub lawful : Lawful book (call_of size call before).trace
  pub answer : NotDamaged (call_of size call before).answer

pub one_call : (size : ℕ) (card : List ℕ) (cells : ℕ) → read_of card ≡ result.gives cells → (call : Call) →
    Fitting card call →
    (before : Box) (book : Book) → Held size before book → Kept size book call before
unfolding book_of Lawful
one_call size card cells e call (inl same) before book h =
    let w = card_call size call before book cells (ap read_of same ∙ e) h in
    record { box = w.box; lawful = w.lawful; answer = λ place. w.answer 7 place }
one_call size card cells e call (inr bad) before book h =
    let number : ℕ = bad.0 in
    let place : ℕ = bad.1 in
    let is = refused_call size call before number place bad.2 in
    let small = refused_number (image_of call) number place bad.2 in
    record {
      box = rw is h;
      lawful = rw is tt;
      answer = λ p k. let mine : number ≡ 7 = ap (λ (r : Report). r.number) (sym (ap (λ c. c.answer) is) ∙ k) in omega arith;
    }

-- what a list of calls leaves
pub record Led (size : ℕ) (book : Book) (calls : List Call) (before : Box) : Type 0 where
  pub box : Held size (played size calls before).box (book_of book (played size calls before).trace)
  pub lawful : Lawful book (played size calls before).trace
  pub answers : Each NotDamaged (played size calls before).answers

list : (size : ℕ) (card : List ℕ) (cells : ℕ) → read_of card ≡ result.gives cells → (calls : List Call) →
    Each (Fitting card) calls →
    (before : Box) (book : Book) → Held size before book → Led size book calls before
unfolding played Each book_of Lawful
list size card cells e [] all before book h = record { box = h; lawful = tt; answers = tt }
list size card cells e (call ∷ rest) all before book h =
    let one = one_call size card cells e call all.0 before book h in
    let more = list size card cells e rest all.1 (call_of size call before).box (book_of book (call_of size call before).trace) one.box in
    record {
      box = rw (book_append book (call_of size call before).trace (played size rest (call_of size call before).box).trace) more.box;
      lawful = lawful_append book (call_of size call before).trace (played size rest (call_of size call before).box).trace one.lawful more.lawful;
      answers = (one.answer, more.answers);
    }

-- after set-up
pub led_for : (size : ℕ) → 1 ≤ size → AfterCalls size (λ card calls box. Led size blank calls box)
led_for size some card cells lent calls e fits store tables values all =
    let a = accepts card cells e in
    let least : 1 ≤ cells = rw a.globals at a.sized.cells.some in
    rw (set_up_lem size card cells lent some e fits store tables values)
    (list size card cells e calls all (box_of (start size cells)) blank (held size (start size cells) blank (start_right size some cells least fits)))
