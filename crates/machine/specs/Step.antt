-- One step, and a run: what was carried out is kept as a trace, and its length is the count.
use Rattle.std.specs.Prelude.{ℕ, zero, suc, cond, List, [], ◌∷◌, ◌++◌, ltb, length, get_or}
use Rattle.machine.specs.Book.{Entry, event_of}
use Rattle.machine.specs.Execution.{Outcome, done, fault, exec}
use Rattle.machine.specs.Instructions.{Instruction, decoded}
use Rattle.machine.specs.Registers.{advanced, is_running, stopped}
use Rattle.machine.specs.State.{State, with_regs}

-- a state, and the instructions that were carried out on the way to it
pub record Ran : Type 0 where
  pub state : State
  pub trace : List Entry

-- "Its count is the instructions carried out"
abbrev pub count_of : Ran → ℕ
count_of r = length r.trace

-- nothing was carried out
abbrev pub still : State → Ran
still s = record { state = s; trace = [] }

-- "Faults 20 up mark the machine faulted and change no cell, thread or queue"; PC stays at the instruction
abbrev pub faulted_at : State → ℕ → Ran
faulted_at s number = still (with_regs s (stopped s.regs number))

-- an instruction was carried out from a state, and is entered; "a faulting one isn't counted"
abbrev pub entered : ℕ → State → State → Instruction → Outcome → Ran
entered size s from i (done u) =
    record { state = u; trace = record { thread = from.regs.thread; event = event_of size from i u } ∷ [] }
entered size s from i (fault number) = faulted_at s number

-- "PC advances past the instruction first"
abbrev pub onward : State → State
onward s = with_regs s (advanced s.regs)

abbrev pub executed : ℕ → ℕ → State → Instruction → Ran
executed size n s i = entered size s (onward s) i (exec size n (onward s) i)

-- the instruction at PC; 20: "PC ≥ n"
unfoldable pub carried : ℕ → List ℕ → State → Ran
carried size words s =
    cond (ltb s.regs.pc (length words)) (executed size (length words) s (decoded (get_or words s.regs.pc 0)))
    (faulted_at s 20)

-- "A step on one not running changes nothing and counts 0"
unfoldable pub step : ℕ → List ℕ → State → Ran
step size words s =
    let one = carried size words s in
    cond (is_running s.regs) one (still s)

-- one run after another
abbrev pub joined : Ran → Ran → Ran
joined first second = record { state = second.state; trace = first.trace ++ second.trace }

-- "A run of m steps stops early when the machine does"
unfoldable pub run : ℕ → List ℕ → State → ℕ → Ran
run size words s zero = still s
run size words s (suc m) =
    let one = carried size words s in
    let more = joined one (run size words one.state m) in
    cond (is_running s.regs) more (still s)
