use Prim.Native.Nat.{ℕ, ◌*◌, ◌<◌}
use mathlib.Core.Path.{◌≡◌}
use lib.ListN.{get_or}
use Rattle.instruction.specs.Bytes.{word_at}
use Rattle.card.proofs.fetching.unpack.Given as goal

-- the first i words are the code part's
abbrev pub invariant-loop-i : goal.invariant-loop-i
invariant-loop-i l = (j : ℕ) → j < l.i → get_or l.w-items j 0 ≡ word_at l.code (4 * j)
