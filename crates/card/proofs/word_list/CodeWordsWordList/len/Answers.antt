-- `CodeWords::len` meets its contract. Assumes nothing.
use mathlib.Core.Path.{sym}
use Rattle.card.proofs.Words.{length_words}
use Rattle.card.proofs.word_list.CodeWordsWordList.len.Goals as goal

pub returns : goal.returns
returns c = sym (length_words _)
