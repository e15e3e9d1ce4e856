-- `cma::calls::proceed` meets its contract. Assumes nothing.
use mathlib.Core.Path.{◌∙◌}
use Rattle.cma.proofs.Called.{carded, header, its_code, ran}
use Rattle.cma.proofs.calls.proceed.Goals as goal

pub slice_bounds-code-count : goal.slice_bounds-code-count
slice_bounds-code-count c = header _ _ c.requires.ready.read

pub slice_bounds-code-start : goal.slice_bounds-code-start
slice_bounds-code-start c = header _ _ c.requires.ready.read

pub new-card-requires : goal.new-card-requires
new-card-requires c = let read = c.requires.ready.read in carded _ _ _ read (its_code _ _ read)

pub returns : goal.returns
returns c =
    let ready = c.requires.ready in
    ran ready (c.new-card.ensures ∙ its_code _ _ ready.read) c.run-p.ensures c.ended.ensures
