-- `opcodes::entry_at` meets its contract. Assumes nothing.
use native.Mathlib.Omega.{arith}
use Rattle.opcodes.proofs.Rows.{all_lines}
use Rattle.opcodes.proofs.table.entry_at.Goals as goal

pub offset_bounds-all-opcode : goal.offset_bounds-all-opcode
offset_bounds-all-opcode c = record { fits = omega (arith, all_lines, c.requires) }

pub bounds-all-opcode : goal.bounds-all-opcode
bounds-all-opcode c = omega (arith, all_lines, c.requires)

pub returns : goal.returns
returns c = c.all.ensures.line _ _ c.requires
