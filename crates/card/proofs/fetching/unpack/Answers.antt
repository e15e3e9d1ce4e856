-- `card::fetching::unpack` meets its contract. Assumes nothing.
use Rattle.std.proofs.Common.{◌≢◌, ◌∙◌, ◌<◌, below_more, get_or-set_other, get_or-set_same, length, arith}
use Rattle.std.proofs.lemmas.List.{get_or_append_left, length-take-le}
use Rattle.card.proofs.Words.{word}
use Rattle.card.proofs.fetching.unpack.Goals as goal

pub word-requires : goal.word-requires
word-requires c =
    let items = length-take-le c.args.n c.args.words.now c.if-words-n.false in
    (word _ _ (omega (arith, items, c.requires, c.loop-i-test.true))).there

pub loop-i-preserved : goal.loop-i-preserved
loop-i-preserved c =
    let items = length-take-le c.args.n c.args.words.now c.if-words-n.false in
    let w = word c.args.code.now c.loop-i.i (omega (arith, items, c.requires, c.loop-i-test.true)) in
    below_more _ _
    (λ k h. let ne : k ≢ c.loop-i.i = omega (arith, h) in rw get_or-set_other (c.loop-i.invariant k h))
    (let lt : c.loop-i.i < length c.loop-i.w-items = omega (arith, c.loop-i.auto, c.loop-i-test.true) in
    rw get_or-set_same (c.word.ensures ∙ w.is))

pub returns : goal.returns
returns c =
    let items = length-take-le c.args.n c.args.words.now c.if-words-n.false in
    record {
      all = grind arith;
      long = grind (arith, c.loop-i.auto);
      word = λ i below.
          let written : i < length c.loop-i.w-items = omega (arith, below, items, c.loop-i.auto) in
          get_or_append_left _ _ 0 i written
          ∙ c.loop-i.invariant i (omega (arith, below, items, c.loop-i-test.false));
    }
