-- `CodeWords::word` meets its contract. Assumes nothing.
use mathlib.Core.Path.{sym, ◌∙◌}
use native.Mathlib.Omega.{arith}
use Rattle.card.proofs.Words.{length_words, word}
use Rattle.card.proofs.word_list.CodeWordsWordList.word.Goals as goal

pub overflow_mul-index : goal.overflow_mul-index
overflow_mul-index c = omega (arith, c.requires, length_words c.args.self.now.0.now)

pub word_at-requires : goal.word_at-requires
word_at-requires c = omega (arith, c.requires, length_words c.args.self.now.0.now)

pub returns : goal.returns
returns c =
    c.word_at.ensures ∙ sym (word _ _ (omega (arith, c.requires, length_words c.args.self.now.0.now))).is
