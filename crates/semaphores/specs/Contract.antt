-- What newsema promises.
use Rattle.std.specs.Prelude.{ℕ, List, ◌≡◌, ℤ}
use Rattle.machine.specs.Instructions.{Instruction}
use Rattle.machine.specs.Tables.{Tables}
use Rattle.machine.specs.declared.registers.Registers.{Registers}
use Rattle.cells.specs.Contract.{after, at}

-- an instruction on cells and values does what the definitions say, for every card and tables
abbrev pub DoesWith : ℕ → Instruction → List ℤ → List ℤ → Registers → List ℤ → List ℤ → Registers → Type 0
DoesWith size i store values r store' values' q =
    (n : ℕ) (tables : Tables) → at store' tables values' q ≡ after size n (at store tables values r) i
