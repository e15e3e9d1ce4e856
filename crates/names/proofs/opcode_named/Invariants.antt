use mathlib.Core.Path.{◌≡◌}
use lib.ListN.{drop}
use Rattle.opcodes.specs.Page.{page}
use Rattle.names.specs.Names.{named_in, opcode_named}
use Rattle.names.proofs.opcode_named.Given as goal

abbrev pub invariant-loop-entry : goal.invariant-loop-entry
invariant-loop-entry l = opcode_named l.word ≡ named_in (drop l.entry-index page) l.word
