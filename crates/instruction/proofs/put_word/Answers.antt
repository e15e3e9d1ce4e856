-- `instruction::put_word` meets its contract. Assumes nothing.
use Prim.Native.Nat.{ℕ, ◌+◌, ◌-◌, ◌/◌, ◌%◌, ◌≤◌}
use mathlib.Core.Path.{◌≡◌, ◌∙◌}
use mathlib.Core.List.{List, ◌∷◌, []}
use native.Mathlib.Omega.{arith}
use borrow.Rule.Slice.PartMut.{put_mid}
use lib.ListN.{length}
use lib.Seq.{sets, sets-eq}
use Rattle.std.specs.Int.{to_be_bytes, w32}
use Rattle.std.proofs.Common.{append_assoc}
use Rattle.std.proofs.lemmas.List.{drop-drop}
use Rattle.instruction.specs.Bytes.{word_bytes}
use Rattle.instruction.proofs.put_word.Goals as goal

-- the bytes of a word, taken one by one or half by half
same_bytes : (w : ℕ) → to_be_bytes w32 w ≡ word_bytes w
same_bytes w =
    let first : w / 16777216 % 256 ≡ w / 65536 / 256 % 256 = omega arith in
    let third : w / 256 % 256 ≡ w % 65536 / 256 % 256 = omega arith in
    let fourth : w % 256 ≡ w % 65536 % 256 = omega arith in
    λ i. first i ∷ w / 65536 % 256 ∷ third i ∷ fourth i ∷ []

-- a part of four bytes, written over
written : (out bytes : List ℕ) (at : ℕ) → at + 4 ≤ length out → length bytes ≡ 4 →
    put_mid at (at + 4 - at) out bytes ≡ sets out at bytes
written out bytes at room four =
    let size : at + 4 - at ≡ 4 = omega arith in
    rw (size, drop-drop, sets-eq bytes out at (omega (arith, room, four)), four, append_assoc)

pub returns : goal.returns
returns c =
    let bytes = c.copy_from_slice.ensures.after ∙ c.to_be_bytes.ensures ∙ same_bytes c.args.w in
    rw bytes (written c.args.out.now (word_bytes c.args.w) c.args.at (omega (arith, c.requires)) (omega arith))
