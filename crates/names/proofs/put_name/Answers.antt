-- `names::put_name` meets its contract. Assumes nothing.
use Prim.Native.Nat.{◌<◌}
use native.Mathlib.Omega.{arith}
use lib.ListN.{length}
use Rattle.opcodes.specs.Page.{page}
use Rattle.opcodes.proofs.Rows.{all_lines}
use Rattle.text.proofs.Lines.{of}
use Rattle.names.proofs.Table.{no_name, spelled}
use Rattle.names.proofs.put_name.Goals as goal

pub returns-then-opcode-ge-COUNT-clause-puts : goal.returns-then-opcode-ge-COUNT-clause-puts
returns-then-opcode-ge-COUNT-clause-puts c = no_name _ _ _ (omega (arith, all_lines, c.if-opcode-ge-COUNT.true))

pub entry_at-entry-requires : goal.entry_at-entry-requires
entry_at-entry-requires c = omega (arith, all_lines, c.if-opcode-ge-COUNT.false)

pub returns-clause-puts : goal.returns-clause-puts
returns-clause-puts c =
    let inside : c.args.opcode < length page = omega (arith, all_lines, c.if-opcode-ge-COUNT.false) in
    of (spelled _ _ _ inside c.entry_at-entry.ensures c.find-end.ensures.value) c.put_bytes.ensures
