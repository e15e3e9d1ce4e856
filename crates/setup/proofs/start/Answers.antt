-- `setup::start` meets its contract. Assumes nothing.
use Rattle.std.proofs.Common.{refl}
use Rattle.machine.specs.State.{start}
use Rattle.setup.proofs.start.Goals as goal

pub returns : goal.returns
unfolding start
returns c =
    let cells = c.fill.ensures.after (λ y h. h) in
    let values = c.fill-2.ensures.after (λ y h. h) in
    record {
      in_store = rw (c.poke-3.ensures, c.poke-2.ensures, c.poke.ensures, cells, c.requires.cells_fit);
      in_tables = c.start_tables.ensures;
      in_values = rw (values, c.requires.values_fit);
      in_registers = refl;
    }
