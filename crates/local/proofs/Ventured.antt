-- What the engine's loop may rely on, by what each instruction promises. Assumes nothing.
use Prim.Native.Nat.{ℕ}
use mathlib.Core.Path.{◌≡◌, refl}
use mathlib.Core.List.{List}
use lib.IntN.{ℤ}
use Rattle.std.specs.Prelude.{Result, Ok, Err}
use Rattle.std.specs.Result.{result_ok}
use Rattle.cells.specs.Attempts.{TriesIn}
use Rattle.control.specs.Contract.{GoesBack}
use Rattle.instruction.specs.Word.{opcode_of, operand_of}
use Rattle.machine.specs.Instructions.{Instruction, instruction_of, return}
use Rattle.machine.specs.declared.context.Context.{Context}
use Rattle.machine.specs.declared.faults.Fault.{Fault}
use Rattle.local.specs.Contract.{Ventures}

module _ {size n w op : ℕ} (is : op ≡ opcode_of w) {store : List ℤ} {t : ℕ} {c : Context} where
  -- an instruction that was tried is the one that the word is
  pub tried : {i : Instruction} {store' : List ℤ} {a : Result Context Fault} → instruction_of op (operand_of w) ≡ i →
      TriesIn size n i store t c store' a → Ventures size n w store t c store' (result_ok a)
  tried {a = Ok c'} e h = record { is = λ tables values r. rw (← is, e) (h.is tables values r); kept = tt }
  tried {a = Err f} e h = record { is = tt; kept = h.kept }

  -- the way back from a call
  pub went_back : {a : Result Context Fault} → instruction_of op (operand_of w) ≡ return → GoesBack size n store t c a →
      Ventures size n w store t c store (result_ok a)
  went_back {a = Ok c'} e h =
      record { is = λ tables values r. rw (← is, e) ((h.tries (h.other refl)).is tables values r); kept = tt }
  went_back {a = Err f} e h = record { is = tt; kept = refl }
