-- What an instruction of the running thread alone asks, and what it promises.
use Rattle.std.specs.Prelude.{ℕ, true, List, ◌≡◌, ℤ, pos, Option, IfSome, IfNone}
use Rattle.std.specs.Int.Signed.{le_z}
use Rattle.opcodes.specs.Page.{rule_of}
use Rattle.opcodes.specs.Rules.{allows}
use Rattle.card.specs.Image.{last_of}
use Rattle.cells.specs.Contract.{at}
use Rattle.machine.specs.Context.{in_context}
use Rattle.machine.specs.Execution.{done, exec}
use Rattle.machine.specs.Instructions.{decoded}
use Rattle.machine.specs.Tables.{Tables}
use Rattle.machine.specs.declared.context.Context.{Context}
use Rattle.machine.specs.declared.registers.Registers.{Registers}

-- an operand that is a number of cells or a target
abbrev pub Natural : ℤ → Type 0
Natural k = le_z (pos 0) k ≡ true

-- an operand that its opcode's line allows on a card of n instructions
pub record Permitted (n opcode : ℕ) (operand : ℤ) : Type 0 where
  pub allowed : allows (rule_of opcode) (last_of n) operand ≡ true

-- where the instruction w was carried out, it did what the definitions say, whatever tables, values and other
-- registers stand beside; else the store is as it was, and nothing is said of the instruction
pub record Ventures (size n w : ℕ) (store : List ℤ) (t : ℕ) (c : Context) (store' : List ℤ) (after : Option Context) :
    Type 0 where
  pub is : IfSome after λ c'. (tables : Tables) (values : List ℤ) (r : Registers) →
      exec size n (at store tables values (in_context r t c)) (decoded w)
      ≡ done (at store' tables values (in_context r t c'))
  pub kept : IfNone after (store' ≡ store)
