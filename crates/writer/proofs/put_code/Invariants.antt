use Prim.Native.Nat.{◌+◌, ◌*◌}
use mathlib.Core.Path.{◌≡◌}
use lib.ListN.{drop}
use lib.Seq.{sets}
use Rattle.writer.specs.Writing.{words_bytes}
use Rattle.writer.proofs.put_code.Given as goal

-- what is left to store from word i on makes the whole
abbrev pub invariant-loop-i : goal.invariant-loop-i
invariant-loop-i l =
    sets l.initial.out 9 (words_bytes l.list) ≡ sets l.out (9 + 4 * l.i) (words_bytes (drop l.i l.list))
