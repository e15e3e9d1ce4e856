-- Demand 3, put together from its parts. Assumes nothing.
use Prim.Native.Nat.{ℕ, ◌≤◌}
use lib.Dec.{lit≤}
use Rattle.card.proofs.Header.{accepts}
use Rattle.machine.specs.Book.{blank, book_of}
use Rattle.machine.specs.Calls.{Box, set_up, state_of}
use Rattle.machine.specs.Demand.{Demand3, DemandFor}
use Rattle.machine.specs.Fair.{Fair}
use Rattle.machine.specs.Played.{played}
use Rattle.machine.specs.Size.{full}
use Rattle.machine.proofs.Cuts.{cut}
use Rattle.machine.proofs.Fairness.{fair}
use Rattle.machine.proofs.Order.{exclusive, in_order, owners}
use Rattle.machine.proofs.Played.{led_for}

pub demand_for : (size : ℕ) → 1 ≤ size → DemandFor size
demand_for size some card cells lent calls e fits store tables values all =
    let box : Box = (set_up size card lent).box in
    let led = led_for size some card cells lent calls e fits store tables values all in
    let fairly : Fair size (state_of size (played size calls box).box) (book_of blank (played size calls box).trace) = fair size _ _ led.box.right in
    record {
      fair = fairly;
      owners = owners size (played size calls box).box (book_of blank (played size calls box).trace) fairly;
      in_order = in_order size some card cells lent calls e fits store tables values all;
      exclusive = exclusive size some card cells lent calls e fits store tables values all;
      cut = cut size card calls all box;
      sound = led.answers;
    }

-- the paper's box
pub demand3 : Demand3
demand3 card cells lent calls e store tables values all =
    let a = accepts card cells e in
    let most : cells ≤ 4096 = rw a.globals at a.sized.cells.most in
    demand_for full (lit≤ tt) card cells lent calls e most store tables values all
