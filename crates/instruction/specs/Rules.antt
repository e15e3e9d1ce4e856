-- What is wrong with one instruction: number 4, "4 now from opcode 41", and number 5, "operand against its rule".
use Rattle.std.specs.Prelude.{ℕ, cond, ltb, ℤ}
use Rattle.opcodes.specs.Page.{last_opcode, rule_of}
use Rattle.opcodes.specs.Rules.{allows}
use Rattle.instruction.specs.Word.{opcode_of, operand_of}

pub data Verdict : Type 0 where
  Fine BadOpcode BadOperand : Verdict

-- one instruction, on a card whose last is number `last`, n − 1: an opcode over the last is looked at before the operand
abbrev pub check_of : ℤ → ℕ → Verdict
check_of last w =
    cond (ltb last_opcode (opcode_of w)) BadOpcode
    (cond (allows (rule_of (opcode_of w)) last (operand_of w)) Fine
    BadOperand)
