-- `opening::set_up_box` meets its contract. Assumes nothing.
use mathlib.Core.Path.{refl}
use Rattle.machine.specs.Calls.{set_up}
use Rattle.opening.proofs.set_up_box.Goals as goal

pub returns-in-Ok : goal.returns-in-Ok
unfolding set_up
returns-in-Ok c =
    let fits = c.in-Ok.ensures in
    let s = c.start-registers.ensures in
    rw (fits.read, fits.store, fits.tables)
    (record {
      answered = refl;
      counted = refl;
      registers = s.in_registers;
      in_store = s.in_store;
      in_tables = s.in_tables;
      in_values = s.in_values;
    })
