-- `lister::listing::list_accepted` meets its contract. Assumes nothing.
use borrow.Author.Tests.{ltb-false, ltb-true}
use Rattle.lister.proofs.Listed.{copied, no_room, past}
use Rattle.lister.proofs.listing.list_accepted.Goals as goal

pub returns-then-n-line : goal.returns-then-n-line
returns-then-n-line c = past _ _ _ (rw c.half_at-n.ensures.0 at c.if-n-line.true)

pub returns-in_err-refuse_if : goal.returns-in_err-refuse_if
returns-in_err-refuse_if c =
    let full = c.in_err-refuse_if.ensures in
    no_room _ _ _ _ _ (rw c.half_at-n.ensures.0 at c.if-n-line.false) c.content_of.ensures c.put_one-length.ensures.puts
    (ltb-true _ _ full.0) _ _ full.1 c.from_residual.ensures.1

pub returns : goal.returns
returns c =
    copied _ _ _ _ _ (rw c.half_at-n.ensures.0 at c.if-n-line.false) c.content_of.ensures c.put_one-length.ensures.puts
    (ltb-false _ _ c.in_ok-refuse_if.ensures) c.put_one-length.ensures.upper_bound c.put_bytes.ensures
