-- `lister::listing::list_line` meets its contract. Assumes nothing.
use mathlib.Core.Path.{sym, ◌∙◌}
use Rattle.lister.proofs.Listed.{head, listed_as, refused}
use Rattle.lister.proofs.listing.list_line.Goals as goal

pub returns-in_err-read : goal.returns-in_err-read
returns-in_err-read c =
    refused _ _ _ _ _ (sym c.read.ensures ∙ rw c.in_err-read.was) c.from_residual.ensures.1

pub list_accepted-requires : goal.list_accepted-requires
list_accepted-requires c = head _ c.in_ok-read.field-0 (sym c.read.ensures ∙ rw c.in_ok-read.was)

pub returns : goal.returns
returns c =
    let accepted = sym c.read.ensures ∙ rw c.in_ok-read.was in
    rw (listed_as c.args.image.now c.args.out.now c.args.line c.in_ok-read.field-0 accepted) c.list_accepted.ensures
