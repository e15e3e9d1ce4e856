-- The check by its three answers. Assumes nothing.
use Prim.Native.Nat.{ℕ, ◌<◌, ◌≤◌}
use mathlib.Core.Bool.{Bool, true, false, cond}
use mathlib.Core.Path.{◌≡◌, refl}
use native.Mathlib.Omega.{arith}
use borrow.Author.Tests.{le-ltb, lt-ltb, ltb-false}
use lib.Dec.{ltb}
use lib.IntN.{ℤ}
use Rattle.opcodes.specs.Page.{last_opcode, rule_of}
use Rattle.opcodes.specs.Rules.{allows}
use Rattle.instruction.specs.Rules.{BadOpcode, BadOperand, Fine, check_of}
use Rattle.instruction.specs.Word.{opcode_of, operand_of}

module _ (last : ℤ) (w : ℕ) where
  pub over : last_opcode < opcode_of w → check_of last w ≡ BadOpcode
  over h = rw (lt-ltb last_opcode (opcode_of w) h)

  module _ (known : opcode_of w ≤ last_opcode) where
    pub against : allows (rule_of (opcode_of w)) last (operand_of w) ≡ false → check_of last w ≡ BadOperand
    against e = rw (le-ltb last_opcode (opcode_of w) known, e)

    pub fine : allows (rule_of (opcode_of w)) last (operand_of w) ≡ true → check_of last w ≡ Fine
    fine e = rw (le-ltb last_opcode (opcode_of w) known, e)

  -- and back: what an instruction that is fine has
  pub passed : check_of last w ≡ Fine →
      (opcode_of w ≤ last_opcode) × (allows (rule_of (opcode_of w)) last (operand_of w) ≡ true)
  passed e = by (ltb last_opcode (opcode_of w)) refl (allows (rule_of (opcode_of w)) last (operand_of w)) refl e
    where
      by : (t : Bool) → ltb last_opcode (opcode_of w) ≡ t →
          (b : Bool) → allows (rule_of (opcode_of w)) last (operand_of w) ≡ b →
          cond t BadOpcode (cond b Fine BadOperand) ≡ Fine →
          (opcode_of w ≤ last_opcode) × (allows (rule_of (opcode_of w)) last (operand_of w) ≡ true)
      by true t b r q = absurd (let z : ◌≡◌ {A = ℕ} 0 1 = cc in omega arith)
      by false t true r q = (ltb-false last_opcode (opcode_of w) t, r)
      by false t false r q = absurd (let z : ◌≡◌ {A = ℕ} 0 1 = cc in omega arith)
