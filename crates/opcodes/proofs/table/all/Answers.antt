-- `opcodes::all` meets its contract: the test of the table, computed. Assumes nothing.
use mathlib.Core.Path.{refl}
use Rattle.opcodes.specs.Ascii.{bytes, same}
use Rattle.opcodes.specs.Page.{page}
use Rattle.opcodes.proofs.Rows.{is_page}
use Rattle.opcodes.proofs.table.all.Goals as goal

pub returns : goal.returns
unfolding bytes page same
returns c = is_page _ refl refl
