-- What the way back from a call promises.
use Rattle.std.specs.Prelude.{ℕ, ◌-◌, ◌<◌, List, ◌≡◌, ℤ, pos, get_or, Result, IsOk}
use Rattle.cells.specs.Attempts.{TriesIn}
use Rattle.machine.specs.Instructions.{return}
use Rattle.machine.specs.Size.{stack_at}
use Rattle.machine.specs.State.{minus_one}
use Rattle.machine.specs.declared.context.Context.{Context}
use Rattle.machine.specs.declared.faults.Fault.{Fault}

-- a thread's first frame: "At −1 the thread ends"
abbrev pub FirstFrame : ℕ → List ℤ → ℕ → Context → Type 0
FirstFrame size store t c = (c.fp < c.cells) × (get_or store (stack_at size t (c.fp - 1)) (pos 0) ≡ minus_one)

-- from any other frame it is return as the definitions say it; from a first frame it is never carried out
pub record GoesBack (size n : ℕ) (store : List ℤ) (t : ℕ) (c : Context) (tried : Result Context Fault) : Type 0 where
  pub tries : (FirstFrame size store t c → ⊥) → TriesIn size n return store t c store tried
  pub other : IsOk tried → FirstFrame size store t c → ⊥
