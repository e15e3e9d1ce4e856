-- `card::fetching::fetch` meets its contract. Assumes nothing.
use mathlib.Core.Path.{◌≡◌, ◌∙◌}
use native.Mathlib.Omega.{arith}
use borrow.Author.Rules.{sfits_of}
use mir.Syntax.{w32}
use mir.Facts.{to_z-of_z}
use Rattle.instruction.specs.Bytes.{word_at}
use Rattle.card.proofs.Words.{length_words, word}
use Rattle.card.proofs.fetching.fetch.Goals as goal
use Prim.Native.Nat.{◌*◌}

pub word-w-requires : goal.word-w-requires
word-w-requires c = omega (arith, c.requires, length_words c.args.code.now)

pub returns : goal.returns
returns c =
    let w : c.word-w.result ≡ word_at c.args.code.now (4 * c.args.at) = c.word-w.ensures ∙ (word _ _ c.requires).is in
    rw (
      ← w,
      ← c.opcode.ensures,
      ← c.operand.ensures,
      to_z-of_z (sfits_of {w = w32} {z = c.operand.result} c.operand.type_inv),
    )
