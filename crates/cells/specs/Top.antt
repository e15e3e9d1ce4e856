-- A number that an instruction finds on the stack: of a thread, a mutex, a condition or a semaphore.
use Rattle.std.specs.Prelude.{ℕ, ◌-◌, cond, List, ltb, ℤ, pos, get_or, Option, Some, None, Result, Ok, Err}
use Rattle.cells.specs.Contract.{index_of}
use Rattle.machine.specs.Size.{stack_at}
use Rattle.machine.specs.declared.faults.Fault.{Fault}
use Rattle.machine.specs.declared.faults.Fault.TheVariants.{StackUnderflow}
use Rattle.machine.specs.declared.registers.Registers.{Registers}

abbrev pub named : Option ℕ → Fault → Result ℕ Fault
named (Some a) missing = Ok a
named None missing = Err missing

-- the cell `at` from the top: 21 where there is none, and `missing` where it is no number below the limit
unfoldable pub number_at : ℕ → List ℤ → Registers → ℕ → ℕ → Fault → Result ℕ Fault
number_at size store r at limit missing =
    cond (ltb r.cells at) (Err StackUnderflow)
    (named (index_of (get_or store (stack_at size r.thread (r.cells - at)) (pos 0)) limit) missing)

-- the number of the thing that was found, or the fault
abbrev pub number_found : {K : Type 0} → (K → ℕ) → Result K Fault → Result ℕ Fault
number_found number (Ok k) = Ok (number k)
number_found number (Err f) = Err f
