-- A step, and a run, keep the machine right and the book beside it. Assumes nothing.
use Prim.Native.Nat.{ℕ, zero, suc, ◌<◌}
use mathlib.Core.Path.{◌≡◌, refl, sym, subst}
use mathlib.Core.Bool.{true, cond}
use mathlib.Core.List.{List, [], ◌∷◌, ◌++◌}
use mathlib.Core.Logic.{◌≢◌}
use native.Mathlib.Omega.{arith}
use lib.Dec.{eqb, ltb}
use lib.ListN.{length, get_or}
use borrow.Author.Tests.{eqb-true, ltb-true, ne_eqb}
use Rattle.machine.specs.Book.{Book, Entry, book_of, event_of, fed}
use Rattle.machine.specs.Execution.{Outcome, done, exec, fault}
use Rattle.machine.specs.Instructions.{Instruction, decoded}
use Rattle.machine.specs.Registers.{faulted, is_fault, is_running, running}
use Rattle.machine.specs.State.{State}
use Rattle.machine.specs.Order.{Rightful}
use Rattle.machine.specs.Step.{Ran, carried, entered, faulted_at, joined, onward, run, step, still}
use Rattle.machine.proofs.Booked.{entry}
use Rattle.machine.proofs.Every.{never}
use Rattle.machine.proofs.Execution.{exec_right}
use Rattle.machine.proofs.Lists.{cases}
use Rattle.machine.proofs.Outcomes.{Ends}
use Rattle.machine.proofs.Runs.{run_more, run_stopped}
use Rattle.machine.proofs.Releases.{Lawful, exec_rightful, lawful_append}
use Rattle.machine.proofs.Steady.{Landed, Marked, Right, Runs}
use Rattle.machine.proofs.Targets.{Card}

-- what a run must leave: a right machine, and of what was carried out each release is rightful
pub record After (size : ℕ) (book : Book) (ran : Ran) : Type 0 where
  pub right : Right size ran.state (book_of book ran.trace)
  pub lawful : Lawful book ran.trace

-- nothing was carried out
pub still_after : (size : ℕ) (s : State) (book : Book) → Right size s book → After size book (still s)
unfolding book_of Lawful
still_after size s book r = record { right = r; lawful = tt }

-- a fault marks the machine and changes nothing else
pub fault_right : (size : ℕ) (s : State) (book : Book) → Right size s book → s.regs.thread ≢ size → (k : ℕ) →
    is_fault k ≡ true → After size book (faulted_at s k)
fault_right size s book r some k listed =
    still_after size (faulted_at s k).state book
    (record {
      steady =
          record {
            both = r.steady.both;
            frame = r.steady.frame;
            free_least = r.steady.free_least;
            free_most = r.steady.free_most;
            stored = r.steady.stored;
            valued = r.steady.valued;
            counted = r.steady.counted;
          };
      mode =
          record {
            known = omega arith;
            has_thread = λ e. some;
            fault_thread = λ e. some;
            stuck_none = λ e. absurd (omega (arith, e));
            stuck_unready = λ e. absurd (omega (arith, e));
            stuck_lives = λ e. absurd (omega (arith, e));
            halted_empty = λ e. absurd (omega (arith, e));
          };
      number = record { listed = λ e. listed; none = λ e. absurd (e refl) };
    })

-- a running machine has a running thread and no fault
marked : (size : ℕ) (s : State) (book : Book) → Right size s book → is_running s.regs ≡ true → Marked s
marked size s book r e =
    let runs : s.regs.state ≡ running = eqb-true _ _ e in
    record { runs = runs; sound = r.number.none (λ k. omega (arith, k)) }

pub some_thread : (size : ℕ) (s : State) (book : Book) → Right size s book → is_running s.regs ≡ true →
    s.regs.thread ≢ size
some_thread size s book r e = r.mode.has_thread (eqb-true _ _ e)

module _ (size : ℕ) (words : List ℕ) (card : Card words) where
  -- an instruction was carried out, or is a fault
  outcome : (s : State) (book : Book) → Right size s book → s.regs.thread ≢ size → (i : Instruction) (o : Outcome) →
      Ends (λ u. Landed size u (fed book (entry s.regs.thread (event_of size (onward s) i u)))) o →
      Ends (λ u. Rightful book (entry s.regs.thread (event_of size (onward s) i u))) o → After size book (entered size s (onward s) i o)
  unfolding book_of Lawful
  outcome s book r some i (done u) e by = record { right = e.right; lawful = (by, tt) }
  outcome s book r some i (fault k) e by = fault_right size s book r some k e

  -- PC has advanced to one that is in the card or just past it
  pub onward_runs : (s : State) (book : Book) → Right size s book → is_running s.regs ≡ true →
      s.regs.pc < length words → Runs size (onward s) book
  onward_runs s book r e below =
      record {
        steady =
            record {
              both = r.steady.both;
              frame =
                  record {
                    pc_fits = omega (arith, card.most);
                    cells_fit = r.steady.frame.cells_fit;
                    fp_least = r.steady.frame.fp_least;
                    fp_most = r.steady.frame.fp_most;
                  };
              free_least = r.steady.free_least;
              free_most = r.steady.free_most;
              stored = r.steady.stored;
              valued = r.steady.valued;
              counted = r.steady.counted;
            };
        marked = let m = marked size s book r e in record { runs = m.runs; sound = m.sound };
        some = some_thread size s book r e;
      }

  -- the instruction's outcome, where PC is in the card
  landed : (s : State) (book : Book) → Right size s book → is_running s.regs ≡ true → s.regs.pc < length words →
      let i = decoded (get_or words s.regs.pc 0) in
      Ends (λ u. Landed size u (fed book (entry s.regs.thread (event_of size (onward s) i u)))) (exec size (length words) (onward s) i)
  landed s book r e below =
      exec_right size (length words) (onward s) book (onward_runs s book r e below) card.most (decoded (get_or words s.regs.pc 0))
      (card.targets s.regs.pc below)

  -- an instruction that was carried out counts 1, and a fault 0: the state afterwards tells which it was
  counted : (s : State) (book : Book) (i : Instruction) (o : Outcome) →
      Ends (λ u. Landed size u (fed book (entry s.regs.thread (event_of size (onward s) i u)))) o →
      cond (eqb (entered size s (onward s) i o).state.regs.state faulted) 0 1 ≡ length (entered size s (onward s) i o).trace
  counted s book i (done u) e = rw (ne_eqb u.regs.state faulted (λ k. never (rw e.sound at (e.right.number.listed k))))
  counted s book i (fault k) e = refl

  pub carried_count : (s : State) (book : Book) → Right size s book → is_running s.regs ≡ true →
      cond (eqb (carried size words s).state.regs.state faulted) 0 1 ≡ length (carried size words s).trace
  unfolding carried
  carried_count s book r e =
      cases (ltb s.regs.pc (length words))
      (λ k. rw k (counted s book (decoded (get_or words s.regs.pc 0)) (exec size (length words) (onward s) (decoded (get_or words s.regs.pc 0))) (landed s book r e (ltb-true _ _ k))))
      (λ k. rw k)

  pub carried_right : (s : State) (book : Book) → Right size s book → is_running s.regs ≡ true →
      After size book (carried size words s)
  unfolding carried
  carried_right s book r e =
      cases (ltb s.regs.pc (length words))
      (λ k.
      let below : s.regs.pc < length words = ltb-true _ _ k in
      let i : Instruction = decoded (get_or words s.regs.pc 0) in
      rw k
      (outcome s book r (some_thread size s book r e) i (exec size (length words) (onward s) i)
      (landed s book r e below)
      (exec_rightful size (length words) (onward s) book (onward_runs s book r e below) card.most i (card.targets s.regs.pc below))))
      (λ k. rw k (fault_right size s book r (some_thread size s book r e) 20 refl))

  pub step_right : (s : State) (book : Book) → Right size s book → After size book (step size words s)
  unfolding step
  step_right s book r = cases (is_running s.regs) (λ e. rw e (carried_right s book r e)) (λ e. rw e (still_after size s book r))

-- the book after two traces
pub book_append : (book : Book) (a b : List Entry) → book_of book (a ++ b) ≡ book_of (book_of book a) b
unfolding book_of
book_append book [] b = refl
book_append book (e ∷ a) b = book_append (fed book e) a b

-- one run after another
joined_after : (size : ℕ) (book : Book) (first second : Ran) → After size book first →
    After size (book_of book first.trace) second →
    After size book (joined first second)
joined_after size book first second a b =
    record {
      right = rw (book_append book first.trace second.trace) b.right;
      lawful = lawful_append book first.trace second.trace a.lawful b.lawful;
    }

pub run_right : (size : ℕ) (words : List ℕ) → Card words → (s : State) (book : Book) → Right size s book → (m : ℕ) →
    After size book (run size words s m)
run_right size words card s book r zero = unfold run in still_after size s book r
run_right size words card s book r (suc m) =
    cases (is_running s.regs)
    (λ e.
    let one : Ran = carried size words s in
    let more : Ran = run size words one.state m in
    let went = carried_right size words card s book r e in
    subst (After size book) (sym (run_more size words s m e))
    (joined_after size book one more went (run_right size words card one.state (book_of book one.trace) went.right m)))
    (λ e. subst (After size book) (sym (run_stopped size words s (suc m) e)) (still_after size s book r))
