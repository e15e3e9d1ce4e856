-- `cells::poke` meets its contract. Assumes nothing.
use Prim.Native.Nat.{◌+◌, ◌*◌, ◌-◌}
use native.Mathlib.Omega.{arith}
use borrow.Rule.Slice.PartMut.{mid_len, set_mid_at}
use lib.ListN.{length}
use mir.Facts.{to_z-of_z}
use Rattle.cells.proofs.cells.poke.Goals as goal

pub returns : goal.returns
returns c =
    let args = c.args in
    let store = args.store.now in
    let at = 128 * (args.size + args.t) in
    let long = length store - at in
    rw (to_z-of_z c.ranges.v)
    (set_mid_at at long args.i store args.v
    (rw (mid_len at (length store) store (omega arith)) (omega (arith, c.requires.fits, c.requires.thread))))
