-- `names::has_operand` meets its contract: the rule in each arm, as the table has it. Assumes nothing.
use mathlib.Core.Path.{sym}
use native.Mathlib.Omega.{arith}
use Rattle.opcodes.proofs.Rows.{all_lines}
use Rattle.names.proofs.Table.{no_rule}
use Rattle.names.proofs.has_operand.Goals as goal

pub returns-then-at-ge-COUNT : goal.returns-then-at-ge-COUNT
returns-then-at-ge-COUNT c = sym (no_rule _ (omega (arith, all_lines, c.if-at-ge-COUNT.true)))

pub entry_at-entry-requires : goal.entry_at-entry-requires
entry_at-entry-requires c = omega (arith, all_lines, c.if-at-ge-COUNT.false)
