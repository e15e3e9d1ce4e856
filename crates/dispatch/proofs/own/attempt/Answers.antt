-- `dispatch::own::attempt` meets its contract. Each arm is the instruction of its opcode. Assumes nothing.
use Prim.Native.Nat.{◌≤◌}
use native.Mathlib.Omega.{arith}
use mir.Facts.{to_z-of_z}
use Rattle.local.proofs.Operands.{target_below, target_natural}
use Rattle.machine.specs.Instructions.{instruction_of}
use Rattle.dispatch.proofs.Opcodes.{call_left}
use Rattle.dispatch.proofs.own.attempt.Goals as goal

pub natural-requires : goal.natural-requires
natural-requires c =
    let low : 20 ≤ c.args.opcode = omega (arith, c.in-20.is) in
    let high : c.args.opcode ≤ 21 = omega (arith, c.in-20.is) in
    rw (to_z-of_z c.ranges.operand) (target_natural _ _ _ c.requires.permitted low high)

pub natural-requires-in-21 : goal.natural-requires-in-21
natural-requires-in-21 c =
    let low : 20 ≤ c.args.opcode = omega (arith, c.in-21.is) in
    let high : c.args.opcode ≤ 21 = omega (arith, c.in-21.is) in
    rw (to_z-of_z c.ranges.operand) (target_natural _ _ _ c.requires.permitted low high)

pub jumpz-requires-clause-a_lt_n : goal.jumpz-requires-clause-a_lt_n
jumpz-requires-clause-a_lt_n c =
    let low : 20 ≤ c.args.opcode = omega (arith, c.in-21.is) in
    let high : c.args.opcode ≤ 21 = omega (arith, c.in-21.is) in
    rw (c.natural-in-21.ensures, to_z-of_z c.ranges.operand) (target_below _ _ _ c.requires.permitted low high)

pub returns-in-1 : goal.returns-in-1
unfolding instruction_of
returns-in-1 c = rw c.in-1.is ((rw (to_z-of_z c.ranges.operand) at c.loadc.ensures) _)

pub returns-in-2 : goal.returns-in-2
unfolding instruction_of
returns-in-2 c = rw c.in-2.is (c.load.ensures _)

pub returns-in-3 : goal.returns-in-3
unfolding instruction_of
returns-in-3 c = rw c.in-3.is (c.store_cell.ensures _)

pub returns-in-4 : goal.returns-in-4
unfolding instruction_of
returns-in-4 c = rw c.in-4.is ((rw (to_z-of_z c.ranges.operand) at c.loadr.ensures) _)

pub returns-in-5 : goal.returns-in-5
unfolding instruction_of
returns-in-5 c = rw c.in-5.is ((rw (to_z-of_z c.ranges.operand) at c.storer.ensures) _)

pub returns-in-7 : goal.returns-in-7
unfolding instruction_of
returns-in-7 c = rw c.in-7.is (c.pop.ensures _ _ _ _)

pub returns-in-8 : goal.returns-in-8
unfolding instruction_of
returns-in-8 c = rw c.in-8.is (c.dup.ensures _)

pub returns-in-9 : goal.returns-in-9
unfolding instruction_of
returns-in-9 c = rw c.in-9.is (c.binary.ensures _)

pub returns-in-10 : goal.returns-in-10
unfolding instruction_of
returns-in-10 c = rw c.in-10.is (c.binary-in-10.ensures _)

pub returns-in-11 : goal.returns-in-11
unfolding instruction_of
returns-in-11 c = rw c.in-11.is (c.binary-in-11.ensures _)

pub returns-in-12 : goal.returns-in-12
unfolding instruction_of
returns-in-12 c = rw c.in-12.is (c.binary-in-12.ensures _)

pub returns-in-13 : goal.returns-in-13
unfolding instruction_of
returns-in-13 c = rw c.in-13.is (c.binary-in-13.ensures _)

pub returns-in-14 : goal.returns-in-14
unfolding instruction_of
returns-in-14 c = rw c.in-14.is (c.neg.ensures _)

pub returns-in-15 : goal.returns-in-15
unfolding instruction_of
returns-in-15 c = rw c.in-15.is (c.compare.ensures _)

pub returns-in-16 : goal.returns-in-16
unfolding instruction_of
returns-in-16 c = rw c.in-16.is (c.compare-in-16.ensures _)

pub returns-in-17 : goal.returns-in-17
unfolding instruction_of
returns-in-17 c = rw c.in-17.is (c.compare-in-17.ensures _)

pub returns-in-18 : goal.returns-in-18
unfolding instruction_of
returns-in-18 c = rw c.in-18.is (c.compare-in-18.ensures _)

pub returns-in-19 : goal.returns-in-19
unfolding instruction_of
returns-in-19 c = rw c.in-19.is (c.not.ensures _)

pub returns-in-20 : goal.returns-in-20
unfolding instruction_of
returns-in-20 c = rw c.in-20.is ((rw (c.natural.ensures, to_z-of_z c.ranges.operand) at c.jump.ensures) _ _ _ _)

pub returns-in-21 : goal.returns-in-21
unfolding instruction_of
returns-in-21 c = rw c.in-21.is ((rw (c.natural-in-21.ensures, to_z-of_z c.ranges.operand) at c.jumpz.ensures) _)

pub returns-in-22 : goal.returns-in-22
unfolding instruction_of
returns-in-22 c = rw c.in-22.is (c.mark.ensures _)

pub returns-in_default : goal.returns-in_default
unfolding instruction_of
returns-in_default c = rw (call_left _ c.requires.own c.in_default.in_default-own.rest) c.call.ensures
