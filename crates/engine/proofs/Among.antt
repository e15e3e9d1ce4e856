-- Turns under way: threads that run one after another, whatever values stand beside. Assumes nothing.
use Prim.Native.Nat.{ℕ, ◌-◌, ◌<◌, ◌≤◌}
use mathlib.Core.Path.{◌≡◌, ap, sym, ◌∙◌}
use mathlib.Core.Bool.{true}
use mathlib.Core.List.{List}
use mathlib.Core.Logic.{◌≢◌}
use native.Mathlib.Omega.{arith}
use lib.IntN.{ℤ, pos}
use lib.ListN.{length}
use Rattle.card.specs.Code.{instruction_at, words_of}
use Rattle.cells.specs.Contract.{Acts}
use Rattle.dispatch.specs.Contract.{Turning, Working}
use Rattle.engine.specs.Accepted.{Carded}
use Rattle.engine.specs.Contract.{Carries, Housed, Inside, Seated, Under, context_of, state_at}
use Rattle.engine.proofs.Course.{entered, one_done, one_fault, onward_from}
use Rattle.engine.proofs.Taking.{only_turn, same_turn, stays_idle}
use Rattle.engine.proofs.Working.{at_pc, runner_lives, working}
use Rattle.machine.specs.Calls.{boxed}
use Rattle.machine.specs.Context.{in_context}
use Rattle.machine.specs.Instructions.{Instruction, instruction_of}
use Rattle.machine.specs.Laws.{Sound}
use Rattle.machine.specs.Registers.{faulted, running}
use Rattle.machine.specs.State.{State}
use Rattle.machine.specs.Step.{executed}
use Rattle.machine.specs.Tables.{lives, tables_of}
use Rattle.machine.specs.declared.context.Context.{Context}
use Rattle.machine.specs.declared.registers.Registers.{Registers}
use Rattle.tables.specs.Idle.{Idle}

-- turns of a running machine that began with m left have come to this, and so many at the front of the line don't live
pub record Among (size : ℕ) (code : List ℕ) (r : Registers) (m : ℕ) (store₀ : List ℤ)
    (tables₀ : List ℕ) (t₀ : ℕ) (c₀ : Context) (store : List ℤ) (tables : List ℕ) (t : ℕ) (c : Context)
    (left skip : ℕ) : Type 0 where
  pub card : Carded code
  pub small : size ≤ 32
  pub runs : r.state ≡ running
  pub seat : Seated size store₀ tables₀ (in_context r t₀ c₀)
  pub under : (values : List ℤ) → Sound size (boxed store₀ tables₀ values (in_context r t₀ c₀)) →
      Under size code m store₀ tables₀ values (in_context r t₀ c₀) store tables values (in_context r t c) left
  pub idle : Idle (tables_of size tables) skip

-- the next instruction is yield, lock or unlock, and was taken: it left these tables and registers
pub record Taken (size : ℕ) (code : List ℕ) (store : List ℤ) (tables : List ℕ) (r : Registers) (left : ℕ)
    (tables' : List ℕ) (q : Registers) : Type 0 where
  pub below : r.pc < length (words_of code)
  pub some : 1 ≤ left
  pub turning : Turning (instruction_at code r.pc).opcode
  pub same : length tables' ≡ length tables
  pub acts : Acts size (instruction_of (instruction_at code r.pc).opcode (pos 0)) store tables r store tables' q

module _ {size : ℕ} {code : List ℕ} {r : Registers} {m : ℕ} {store₀ : List ℤ}
    {tables₀ : List ℕ} {t₀ : ℕ} {c₀ : Context} where
  pub among : Carded code → size ≤ 32 → r.state ≡ running →
      Seated size store₀ tables₀ (in_context r t₀ c₀) →
      Among size code r m store₀ tables₀ t₀ c₀ store₀ tables₀ t₀ c₀ m 0
  among card small runs seat =
      record {
        card = card;
        small = small;
        runs = runs;
        seat = seat;
        under = λ values h. entered card h;
        idle = tt;
      }

  module _ {store : List ℤ} {tables : List ℕ} {t : ℕ} {c : Context} {left skip : ℕ}
      (a : Among size code r m store₀ tables₀ t₀ c₀ store tables t c left skip) where
    somewhere : Under size code m store₀ tables₀ a.seat.values (in_context r t₀ c₀)
        store tables a.seat.values (in_context r t c) left
    somewhere = a.under a.seat.values a.seat.sound

    pub live : lives (tables_of size tables) t ≡ true
    live = runner_lives size store tables a.seat.values (in_context r t c) somewhere.sound a.runs

    module _ (below : c.pc < length (words_of code)) where
      -- what the next instruction asks
      pub works : Working size (in_context r t c) (length store) tables a.seat.values
      works =
          working code a.card size store tables a.seat.values (in_context r t c) somewhere.sound a.runs a.small below

    module _ {tables' : List ℕ} {q : Registers}
        (taken : Taken size code store tables (in_context r t c) left tables' q) where
      abbrev before : List ℤ → State
      before values = state_at size store tables values (in_context r t c)

      abbrev after : List ℤ → Instruction → State
      after values i = (executed size (length (words_of code)) (before values) i).state

      does : (values : List ℤ) →
          state_at size store tables' values q ≡ after values (instruction_of (instruction_at code c.pc).opcode (pos 0))
      does values = taken.acts (length (words_of code)) values

      is : (values : List ℤ) → Carries size code store tables values (in_context r t c) store tables' values q
      is values =
          does values
          ∙ ap (after values) (sym (same_turn _ (instruction_at code c.pc).operand taken.turning))
          ∙ at_pc code a.card size (before values) taken.below

      -- it is a fault, ..
      pub turn_faults : q.state ≡ faulted → (values : List ℤ) →
          Sound size (boxed store₀ tables₀ values (in_context r t₀ c₀)) →
          Under size code m store₀ tables₀ values (in_context r t₀ c₀) store tables' values q left
      turn_faults wrong values h = one_fault a.card (a.under values h) taken.some a.runs taken.same (is values) wrong

      -- .. or it was carried out, ..
      pub turn_done : q.state ≢ faulted → (values : List ℤ) →
          Sound size (boxed store₀ tables₀ values (in_context r t₀ c₀)) →
          Under size code m store₀ tables₀ values (in_context r t₀ c₀) store tables' values q (left - 1)
      turn_done fine values h = one_done a.card (a.under values h) taken.some a.runs taken.same (is values) fine

      module _ (on : q.state ≡ running) where
        -- .. and the machine runs on: some thread, in its context
        only : q ≡ in_context r q.thread (context_of q)
        only =
            let regs = ap (λ (s : State). s.regs) (does a.seat.values) in
            let kept = only_turn size (length (words_of code)) (before a.seat.values) _ taken.turning in
            (rw (← regs) at kept) on

        next : (values : List ℤ) → Sound size (boxed store₀ tables₀ values (in_context r t₀ c₀)) →
            Under size code m store₀ tables₀ values (in_context r t₀ c₀)
            store tables' values (in_context r q.thread (context_of q)) (left - 1)
        next values h = rw (← only) (turn_done (λ e. omega (arith, on, e)) values h)

        pub houses : Housed size store q.thread (context_of q)
        houses =
            record {
              tables = tables';
              values = a.seat.values;
              r = r;
              runs = a.runs;
              sound = (next a.seat.values a.seat.sound).sound;
            }

        -- with a stretch of that thread behind it
        pub among_more : {store' : List ℤ} {c' : Context} {rest skip' : ℕ} → Idle (tables_of size tables) skip' →
            Inside size code (left - 1) store q.thread (context_of q) store' c' rest →
            Among size code r m store₀ tables₀ t₀ c₀ store' tables' q.thread c' rest skip'
        among_more {skip'} idle inside =
            record {
              card = a.card;
              small = a.small;
              runs = a.runs;
              seat = a.seat;
              under = λ values h.
                  onward_from a.card (next values h) (inside tables' values r a.runs (next values h).sound);
              idle =
                  rw (ap (λ (s : State). s.tables) (does a.seat.values))
                  (stays_idle size (length (words_of code)) skip' _ (before a.seat.values) taken.turning live idle);
            }

-- turns that began with a stretch
pub joined : {size : ℕ} {code : List ℕ} (card : Carded code) {r : Registers} → r.state ≡ running →
    {m : ℕ} {store : List ℤ} {tables : List ℕ} {store₀ : List ℤ} {c₀ : Context} {left₀ : ℕ} →
    Inside size code m store r.thread (context_of r) store₀ c₀ left₀ →
    {store' : List ℤ} {tables' : List ℕ} {q : Registers} {rest : ℕ} →
    ((values : List ℤ) → Sound size (boxed store₀ tables values (in_context r r.thread c₀)) →
    Under size code left₀ store₀ tables values (in_context r r.thread c₀) store' tables' values q rest) →
    (values : List ℤ) → Sound size (boxed store tables values r) →
    Under size code m store tables values r store' tables' values q rest
joined card {r} runs {tables} inside more values h =
    let u = inside tables values r runs h in onward_from card u (more values u.sound)
