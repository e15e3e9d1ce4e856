-- `threads::makes::new_stack` meets its contract. Assumes nothing.
use mir.Facts.{to_z-of_z}
use Rattle.threads.proofs.makes.new_stack.Goals as goal

pub returns : goal.returns
returns c = rw (c.poke-3.ensures, c.poke-2.ensures, c.poke.ensures, to_z-of_z c.ranges.v)
