-- The check of one instruction gives 4, 5 or neither exactly where it should. Assumes nothing.
use Prim.Native.Nat.{ℕ, ◌<◌, ◌≤◌}
use mathlib.Core.Bool.{Bool, true, false}
use mathlib.Core.Path.{◌≡◌, refl, sym, ◌∙◌, ap}
use native.Mathlib.Omega.{arith}
use borrow.Author.Tests.{ltb-false, ltb-true}
use lib.Dec.{ltb}
use Rattle.opcodes.specs.Page.{last_opcode}
use Rattle.opcodes.specs.Rules.{allows}
use Rattle.opcodes.specs.Table.{entry_of}
use Rattle.opcodes.proofs.Each.{never}
use Rattle.instruction.specs.Rules.{Verdict}
use Rattle.instruction.specs.Word.{opcode_of, operand_of}
use Rattle.instruction.proofs.Checks.{against, fine, over}
use Rattle.card.specs.Code.{Scan, Fine, Bad, scan_of}
use Rattle.card.specs.Exact.{Exact, Exactly, checked}
use Rattle.card.specs.Image.{last_of}

-- what a search found has one number, and none where it found nothing
abbrev number_of : Scan → ℕ
number_of Fine = 0
number_of (Bad number index) = number

-- so it isn't two things at once
apart : {X : Type 0} (s t : Scan) → s ≡ t → (number_of s ≡ number_of t → ⊥) → X
apart s t e h = absurd (h (ap number_of e))

module _ (n w index : ℕ) where
  abbrev ruling : Bool
  ruling = allows (entry_of (opcode_of w)).rule (last_of n) (operand_of w)

  by : (t : Bool) → ltb last_opcode (opcode_of w) ≡ t → (b : Bool) → ruling ≡ b → Exactly n w index
  by true t b e =
      let past : last_opcode < opcode_of w = ltb-true last_opcode (opcode_of w) t in
      let is : checked n w index ≡ Bad 4 index = ap (λ (v : Verdict). scan_of v index) (over (last_of n) w past) in
      record {
        four = (λ _. past, λ _. is);
        five = (λ q. apart _ _ (sym is ∙ q) (λ d. omega (arith, d)), λ h. absurd (omega (arith, past, h.0)));
        neither = (λ q. apart _ _ (sym is ∙ q) (λ d. omega (arith, d)), λ h. absurd (omega (arith, past, h.0)));
      }
  by false t true e =
      let known : opcode_of w ≤ last_opcode = ltb-false last_opcode (opcode_of w) t in
      let is : checked n w index ≡ Fine = ap (λ (v : Verdict). scan_of v index) (fine (last_of n) w known e) in
      record {
        four = (λ q. apart _ _ (sym is ∙ q) (λ d. omega (arith, d)), λ h. absurd (omega (arith, known, h)));
        five = (λ q. apart _ _ (sym is ∙ q) (λ d. omega (arith, d)), λ h. never (sym h.1 ∙ e));
        neither = (λ _. (known, e), λ _. is);
      }
  by false t false e =
      let known : opcode_of w ≤ last_opcode = ltb-false last_opcode (opcode_of w) t in
      let is : checked n w index ≡ Bad 5 index = ap (λ (v : Verdict). scan_of v index) (against (last_of n) w known e) in
      record {
        four = (λ q. apart _ _ (sym is ∙ q) (λ d. omega (arith, d)), λ h. absurd (omega (arith, known, h)));
        five = (λ _. (known, e), λ _. is);
        neither = (λ q. apart _ _ (sym is ∙ q) (λ d. omega (arith, d)), λ h. never (sym e ∙ h.1));
      }

pub exact : Exact
exact n w index = by n w index (ltb last_opcode (opcode_of w)) refl (ruling n w index) refl
