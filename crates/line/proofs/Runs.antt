-- The runner's two calls, set-up and run, as one, and the line that follows them. Assumes nothing.
use Prim.Native.Nat.{ℕ, ◌<◌, ◌≤◌}
use mathlib.Core.Bool.{Bool, true, false}
use mathlib.Core.List.{List}
use mathlib.Core.Path.{◌≡◌, sym, ap, ◌∙◌}
use native.Mathlib.Nat.{zero-add}
use native.Mathlib.Omega.{arith}
use borrow.Author.Tests.{le-ltb, lt-ltb}
use lib.IntN.{ℤ}
use lib.ListN.{length}
use lib.Seq.{sets-eq}
use Rattle.std.specs.Prelude.{Some, None}
use Rattle.outcome.specs.Outcome.{Gives}
use Rattle.outcome.specs.declared.Outcome.{Outcome}
use Rattle.machine.specs.Calls.{Box, Called, boxed, run_call, set_up, told}
use Rattle.machine.specs.Runner.{is_refused, judged_part, line_of, runner_call, runner_in, runner_line, step_limit}
use Rattle.machine.specs.Size.{full}
use Rattle.machine.specs.declared.registers.Registers.{Registers}
use Rattle.text.specs.Lines.{Puts}
use Rattle.line.specs.Line.{Prints, PutsLine, room}

-- a refused set-up is the whole of it
pub stops : (size : ℕ) (image : List ℕ) (box : Box) → is_refused (set_up size image box).answer ≡ true →
    runner_in size image box ≡ set_up size image box
unfolding runner_in
stops size image box e = rw e

-- else the run follows
pub goes_on : (size : ℕ) (image : List ℕ) (box : Box) → is_refused (set_up size image box).answer ≡ false →
    runner_in size image box ≡ run_call size image step_limit (set_up size image box).box
unfolding runner_in
goes_on size image box e = rw e

-- whether a call was refused, as its answer says
pub was_refused : {called : Called} {o : Outcome} {store : List ℤ} {tables : List ℕ} {values : List ℤ} {test outcome : Bool} →
    Gives called o store tables values → test ≡ is_refused (told o.answer) → test ≡ outcome → is_refused called.answer ≡ outcome
was_refused g e f = ap is_refused (sym g.answered) ∙ sym e ∙ f

-- the box that a call left
pub left_as : {called : Called} {o : Outcome} {store : List ℤ} {tables : List ℕ} {values : List ℤ} →
    Gives called o store tables values → boxed store tables values o.registers ≡ called.box
left_as g = rw (g.registers, g.in_store, g.in_tables, g.in_values)

-- the line of a call's result
pub lined : {called : Called} {o : Outcome} {store : List ℤ} {tables : List ℕ} {values : List ℤ} {before after : List ℕ} {next : ℕ} →
    Gives called o store tables values → PutsLine o.answer o.count o.registers.thread tables values before after next →
    Puts (line_of full called) before 0 after next
unfolding line_of
lined {called} g p =
    rw (← g.answered, ← g.counted)
    (p called.box (sym (ap (λ (r : Registers). r.thread) g.registers)) (sym g.in_tables) (sym g.in_values))

-- the line of an input is that of its judged part
pub judged_line : (input : List ℕ) {image : List ℕ} → judged_part input ≡ image →
    runner_line full input ≡ line_of full (runner_call full image)
unfolding runner_line
judged_line input e = ap (λ (part : List ℕ). line_of full (runner_call full part)) e

-- no room: nothing is written
pub shut : {input before : List ℕ} → length before < room → Prints input before None before
shut h =
    record {
      answered = rw (lt-ltb _ _ h);
      left = rw (lt-ltb _ _ h);
      inside = λ n e. absurd (let w : ◌≡◌ {A = ℕ} 0 1 = cc in omega arith);
    }

-- a line in a buffer with room is what is printed
pub printed : {input text before after : List ℕ} {n : ℕ} → runner_line full input ≡ text → room ≤ length before →
    Puts text before 0 after n → n ≤ room →
    Prints input before (Some n) after
printed {input} {text} {before} {after} {n} line h p short =
    let size : n ≡ length text = omega (arith, p.reached) in
    record {
      answered = rw (le-ltb _ _ h, line, size);
      left = rw (le-ltb _ _ h, line) (p.written ∙ sets-eq text before 0 (omega arith) ∙ rw zero-add);
      inside = λ m e. let same : n ≡ m = cc in omega arith;
    }
