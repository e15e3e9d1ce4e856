-- `tables::order::waiting` meets its contract. Assumes nothing.
use Rattle.std.proofs.Common.{rules, arith, refl, ◌∙◌}
use Rattle.std.proofs.lemmas.Iterator.{YieldsList-from_range}
use Rattle.std.proofs.lemmas.Iterator.Consumers.{YieldsList-at, YieldsList-from_filter, count_from_yields_List}
use Rattle.tables.proofs.Line.{standing, waiting_count}
use Rattle.tables.proofs.order.waiting.Goals as goal

pub returns : goal.returns
returns c =
    let there = standing c.args.size c.args.tables.now c.args.place in
    count_from_yields_List _ _ c.count.ensures.ran
    (YieldsList-from_filter _ there
    (YieldsList-at c.filter.ensures.source (YieldsList-from_range 0 c.args.size c.args.size refl (omega arith)))
    c.filter.ensures.closure (λ x b q h. search rules))
    ∙ waiting_count _ _ c.requires c.args.place
