-- A thread's context: PC, the number of cells and FP.
use Rattle.std.specs.Prelude.{ℕ}
use Rattle.machine.specs.Registers.{switched}
use Rattle.machine.specs.declared.context.Context.{Context}
use Rattle.machine.specs.declared.registers.Registers.{Registers}

-- registers with this thread running in this context
abbrev pub in_context : Registers → ℕ → Context → Registers
in_context r t c = switched r t c.pc c.cells c.fp
