use mathlib.Core.Path.{◌≡◌}
use lib.ListN.{drop}
use Rattle.card.specs.Code.{first_bad}
use Rattle.card.proofs.checking.scan.Given as goal

-- from the index on the search finds what the whole search finds
abbrev pub invariant-loop-index : goal.invariant-loop-index
invariant-loop-index g l =
    let ws = g.W.WordList.words l.words in
    first_bad l.last 0 ws ≡ first_bad l.last l.index (drop l.index ws)
