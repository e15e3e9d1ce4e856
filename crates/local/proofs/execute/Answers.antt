-- `local::execute` meets its contract. Each arm is the instruction of its opcode. Assumes nothing.
use Prim.Native.Nat.{◌≤◌}
use native.Mathlib.Omega.{arith}
use Rattle.instruction.specs.Word.{opcode_of}
use Rattle.cells.proofs.Tests.{read_back}
use Rattle.machine.specs.Instructions.{instruction_of}
use Rattle.local.proofs.Operands.{target_below, target_natural}
use Rattle.local.proofs.Ventured.{tried, went_back}
use Rattle.local.proofs.execute.Goals as goal
use Rattle.local.proofs.execute.Goals.{in-1, in-2, in-3, in-4, in-5, in-7, in-8, in-9, in-10, in-11, in-12, in-13, in-14, in-15, in-16, in-17, in-18, in-19, in-20, in-21, in-22, in-23, in-24}

pub natural-requires : goal.natural-requires
natural-requires c =
    let low : 20 ≤ opcode_of c.args.w = omega (arith, c.opcode.ensures, c.in-20.is) in
    let high : opcode_of c.args.w ≤ 21 = omega (arith, c.opcode.ensures, c.in-20.is) in
    rw (read_back c.operand-in-20.type_inv c.operand-in-20.ensures)
    (target_natural _ _ _ c.requires.permitted low high)

pub natural-requires-in-21 : goal.natural-requires-in-21
natural-requires-in-21 c =
    let low : 20 ≤ opcode_of c.args.w = omega (arith, c.opcode.ensures, c.in-21.is) in
    let high : opcode_of c.args.w ≤ 21 = omega (arith, c.opcode.ensures, c.in-21.is) in
    rw (read_back c.operand-in-21.type_inv c.operand-in-21.ensures)
    (target_natural _ _ _ c.requires.permitted low high)

pub jumpz-tried-requires-clause-a_lt_n : goal.jumpz-tried-requires-clause-a_lt_n
jumpz-tried-requires-clause-a_lt_n c =
    let low : 20 ≤ opcode_of c.args.w = omega (arith, c.opcode.ensures, c.in-21.is) in
    let high : opcode_of c.args.w ≤ 21 = omega (arith, c.opcode.ensures, c.in-21.is) in
    rw (c.natural-in-21.ensures, read_back c.operand-in-21.type_inv c.operand-in-21.ensures)
    (target_below _ _ _ c.requires.permitted low high)

pub returns : goal.returns
unfolding instruction_of
returns c =
    let is = c.opcode.ensures in
    rw c.ok.ensures.value
    (elim c.match-opcode.branch [
      | in-1 w ↦
          rw (w.store-is, w.tried-is)
          (tried is (rw w.in-1.is) ((rw (read_back w.operand.type_inv w.operand.ensures) at w.loadc-tried.ensures) _))
      | in-2 w ↦ rw (w.store-is, w.tried-is) (tried is (rw w.in-2.is) (w.load-tried.ensures _))
      | in-3 w ↦ rw (w.store-is, w.tried-is) (tried is (rw w.in-3.is) (w.store_cell-tried.ensures _))
      | in-4 w ↦
          rw (w.store-is, w.tried-is)
          (tried is (rw w.in-4.is) ((rw (read_back w.operand-in-4.type_inv w.operand-in-4.ensures) at w.loadr-tried.ensures) _))
      | in-5 w ↦
          rw (w.store-is, w.tried-is)
          (tried is (rw w.in-5.is) ((rw (read_back w.operand-in-5.type_inv w.operand-in-5.ensures) at w.storer-tried.ensures) _))
      | in-7 w ↦ rw (w.store-is, w.tried-is) (tried is (rw w.in-7.is) (w.pop-tried.ensures _ _ _ _))
      | in-8 w ↦ rw (w.store-is, w.tried-is) (tried is (rw w.in-8.is) (w.dup-tried.ensures _))
      | in-9 w ↦ rw (w.store-is, w.tried-is) (tried is (rw w.in-9.is) (w.binary-tried.ensures _))
      | in-10 w ↦ rw (w.store-is, w.tried-is) (tried is (rw w.in-10.is) (w.binary-tried-in-10.ensures _))
      | in-11 w ↦ rw (w.store-is, w.tried-is) (tried is (rw w.in-11.is) (w.binary-tried-in-11.ensures _))
      | in-12 w ↦ rw (w.store-is, w.tried-is) (tried is (rw w.in-12.is) (w.binary-tried-in-12.ensures _))
      | in-13 w ↦ rw (w.store-is, w.tried-is) (tried is (rw w.in-13.is) (w.binary-tried-in-13.ensures _))
      | in-14 w ↦ rw (w.store-is, w.tried-is) (tried is (rw w.in-14.is) (w.neg-tried.ensures _))
      | in-15 w ↦ rw (w.store-is, w.tried-is) (tried is (rw w.in-15.is) (w.compare-tried.ensures _))
      | in-16 w ↦ rw (w.store-is, w.tried-is) (tried is (rw w.in-16.is) (w.compare-tried-in-16.ensures _))
      | in-17 w ↦ rw (w.store-is, w.tried-is) (tried is (rw w.in-17.is) (w.compare-tried-in-17.ensures _))
      | in-18 w ↦ rw (w.store-is, w.tried-is) (tried is (rw w.in-18.is) (w.compare-tried-in-18.ensures _))
      | in-19 w ↦ rw (w.store-is, w.tried-is) (tried is (rw w.in-19.is) (w.not-tried.ensures _))
      | in-20 w ↦
          rw (w.store-is, w.tried-is)
          (tried is (rw w.in-20.is) ((rw (w.natural.ensures, read_back w.operand-in-20.type_inv w.operand-in-20.ensures) at w.jump-tried.ensures) _ _ _ _))
      | in-21 w ↦
          rw (w.store-is, w.tried-is)
          (tried is (rw w.in-21.is) ((rw (w.natural-in-21.ensures, read_back w.operand-in-21.type_inv w.operand-in-21.ensures) at w.jumpz-tried.ensures) _))
      | in-22 w ↦ rw (w.store-is, w.tried-is) (tried is (rw w.in-22.is) (w.mark-tried.ensures _))
      | in-23 w ↦ rw (w.store-is, w.tried-is) (tried is (rw w.in-23.is) w.call-tried.ensures)
      | in-24 w ↦ rw (w.store-is, w.tried-is) (went_back is (rw w.in-24.is) w.back-tried.ensures)
    ])
