-- Registers and answers as lists of numbers, as C can lend them.
use Rattle.std.specs.Prelude.{ℕ, List, [], ◌∷◌, ◌≡◌, refl, get_or}
use Rattle.machine.specs.Calls.{Report}
use Rattle.machine.specs.declared.registers.Registers.{Registers}

-- the registers as eleven numbers
abbrev pub list_of : Registers → List ℕ
list_of r =
    r.state ∷ r.fault ∷ r.thread ∷ r.pc ∷ r.cells ∷ r.fp ∷ r.free ∷ r.threads ∷ r.mutexes ∷ r.conditions
    ∷ r.semaphores ∷ []

-- and back
abbrev pub registers_of : List ℕ → Registers
registers_of l =
    record {
      state = get_or l 0 0;
      fault = get_or l 1 0;
      thread = get_or l 2 0;
      pc = get_or l 3 0;
      cells = get_or l 4 0;
      fp = get_or l 5 0;
      free = get_or l 6 0;
      threads = get_or l 7 0;
      mutexes = get_or l 8 0;
      conditions = get_or l 9 0;
      semaphores = get_or l 10 0;
    }

there_and_back : (r : Registers) → registers_of (list_of r) ≡ r
there_and_back r = refl

-- an answer and a count as four numbers
abbrev pub answer_list : Report → ℕ → List ℕ
answer_list answer count = answer.state ∷ answer.number ∷ answer.place ∷ count ∷ []
