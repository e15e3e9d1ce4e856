-- `dispatch::carry_out` meets its contract: what each arm but the last asks and does is found. Assumes nothing.
use mir.Facts.{to_z-of_z}
use Rattle.std.proofs.lemmas.Result.{err_from_is_err_and}
use Rattle.cells.proofs.Tried.{settles, settles_fault}
use Rattle.local.proofs.Operands.{cells_few, cells_natural}
use Rattle.dispatch.proofs.Opcodes.{own}
use Rattle.dispatch.proofs.carry_out.Goals as goal

pub natural-requires : goal.natural-requires
natural-requires c = rw (to_z-of_z c.ranges.operand) (cells_natural _ _ _ c.requires.permitted c.in-6.is)

pub alloc-requires-clause-k_bound : goal.alloc-requires-clause-k_bound
alloc-requires-clause-k_bound c =
    rw (c.natural.ensures, to_z-of_z c.ranges.operand) (cells_few _ _ _ c.requires.permitted c.in-6.is)

pub attempt-requires-clause-own : goal.attempt-requires-clause-own
attempt-requires-clause-own c =
    own _ c.requires.others c.requires.opcode_le_last_opcode c.in_default.in_default-own.rest

pub returns-in_err-c-in_default : goal.returns-in_err-c-in_default
returns-in_err-c-in_default c =
    let p = err_from_is_err_and c.from_residual.result c.from_residual.ensures.1 in
    let tried = c.in_err-c-in_default.ensures in
    rw (p.1, p.2) (settles_fault c.args.r c.past.ensures (rw (to_z-of_z c.ranges.operand) at tried) _ _)

pub returns-in_ok-c-in_default : goal.returns-in_ok-c-in_default
returns-in_ok-c-in_default c =
    let tried = c.in_ok-c-in_default.ensures in
    rw c.with_context.ensures (settles c.args.r c.past.ensures (rw (to_z-of_z c.ranges.operand) at tried) _ _)
