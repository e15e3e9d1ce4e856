-- `engine::runs::carry` meets its contract. Assumes nothing.
use Rattle.engine.proofs.Working.{at_pc, past_end, permitted, read_operand, working}
use Rattle.engine.proofs.runs.carry.Goals as goal

pub returns-in_default : goal.returns-in_default
returns-in_default c = rw (c.stop.ensures, c.number.ensures) (past_end _ c.args.card.now.carded _ _ c.in_default.ensures)

pub execute-requires : goal.execute-requires
execute-requires c =
    let below = c.in-Some.ensures.0 in
    let card = c.args.card.now.carded in
    let fine = permitted _ card _ below in
    record {
      working = working _ card _ _ _ _ _ c.requires.sound c.requires.runs c.requires.size_bound below;
      permitted = rw (c.count-n.ensures, c.in-Some.ensures.1, read_operand _) fine.0;
      others = rw c.in-Some.ensures.1 (c.requires.others below);
      opcode_le_last_opcode = rw c.in-Some.ensures.1 fine.1;
    }

pub returns : goal.returns
returns c =
    rw (c.execute.ensures, c.count-n.ensures, c.in-Some.ensures.1, read_operand _)
    (at_pc _ c.args.card.now.carded _ _ c.in-Some.ensures.0)
