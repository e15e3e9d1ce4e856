-- Texts written one after the other. Assumes nothing.
use Prim.Native.Nat.{ℕ, ◌+◌, ◌-◌, ◌≤◌}
use mathlib.Core.Path.{◌≡◌, sym, ◌∙◌}
use mathlib.Core.List.{List, ◌++◌, append_assoc}
use native.Mathlib.Omega.{arith}
use borrow.Rule.Slice.PartMut.{put_mid}
use lib.ListN.{length, length-append}
use lib.Seq.{drop-drop, sets, sets-eq}
use Rattle.instruction.proofs.Stores.{sets_append}
use Rattle.text.specs.Lines.{Puts}

-- two texts, one after the other, are one
pub both : {xs ys before between after : List ℕ} {at i next : ℕ} → Puts xs before at between i →
    Puts ys between i after next → Puts (xs ++ ys) before at after next
both {xs} {ys} {before} {between} {after} {at} {i} {next} p q =
    record {
      written = q.written ∙ (rw p.written (sym (sets_append xs ys before at i p.reached)));
      reached = omega (arith, q.reached, p.reached, length-append xs ys);
    }

-- the same text by another name
pub of : {xs ys before after : List ℕ} {at next : ℕ} → xs ≡ ys → Puts xs before at after next →
    Puts ys before at after next
of e p = rw e at p

-- a text that takes the place of as many bytes from `at` on
pub copied : (text out : List ℕ) (at : ℕ) → at + length text ≤ length out →
    put_mid at (at + length text - at) out text ≡ sets out at text
copied text out at h =
    let size : at + length text - at ≡ length text = omega arith in
    rw (size, sets-eq text out at h, append_assoc, drop-drop (length text) at out)
