-- `words::find` meets its contract. Assumes nothing.
use mathlib.Core.Path.{◌≡◌}
use native.Mathlib.Omega.{arith}
use borrow.Author.Rules.{rules}
use borrow.Author.Tests.{tests}
use lib.Dec.{eqb}
use lib.ListN.{drop, length-drop}
use Rattle.std.proofs.lemmas.Iterator.{YieldsList-from_slice}
use Rattle.std.proofs.lemmas.Iterator.Search.{position_from_yields_List}
use Rattle.words.proofs.Walks.{at_none, at_some, from_at, up_to_most}
use Rattle.words.proofs.find.Goals as goal
use Rattle.words.proofs.find.Goals.{After-position-found}

walked : (c : After-position-found) →
    c.position-found.result ≡ from_at c.args.sep c.args.text.now c.args.at
walked c =
    position_from_yields_List (λ b. eqb b c.args.sep) _ _ c.position-found.result c.position-found.ensures.ran
    (YieldsList-from_slice _ c.iter.ensures.rest) (λ b t f called. search (rules, tests))

pub returns-in-Some : goal.returns-in-Some
returns-in-Some c =
    let value = at_some _ _ _ _ (walked (goal.at.returns-in-Some c).After-position-found) _ c.in-Some.is in
    record {
      value = value;
      upper_bound =
          omega (
            arith,
            value,
            up_to_most c.args.sep (drop c.args.at c.args.text.now),
            length-drop c.args.at
                c.args.text.now,
          );
    }

pub returns-in-None : goal.returns-in-None
returns-in-None c =
    record {
      value = at_none _ _ _ _ (walked (goal.at.returns-in-None c).After-position-found) c.in-None.is c.requires;
      upper_bound = omega arith;
    }
