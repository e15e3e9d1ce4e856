-- `threads::makes::make_thread` meets its contract. Assumes nothing.
use mathlib.Core.Path.{refl}
use mir.Facts.{to_z-of_z}
use Rattle.threads.proofs.makes.make_thread.Goals as goal

pub returns : goal.returns
returns c = record {
  result_value = refl;
  store_after = rw (to_z-of_z c.ranges.v) at c.new_stack.ensures;
  left = record {
    is = rw (← c.save.ensures.is) c.make_ready.ensures.is;
    good = c.make_ready.ensures.good;
  };
}
