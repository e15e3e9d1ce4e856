-- `line::answers::runner_line` meets its contract. Assumes nothing.
use mathlib.Core.Path.{◌≡◌, sym}
use lib.ListN.{take}
use Rattle.std.proofs.lemmas.List.{take_min}
use Rattle.machine.specs.Runner.{judged_part}
use Rattle.line.proofs.Runs.{judged_line, printed}
use Rattle.line.proofs.answers.runner_line.Goals as goal

pub returns : goal.returns
returns c =
    let input = c.args.input.now in
    let judged : judged_part input ≡ take c.min.result input = rw c.min.ensures (sym (take_min 16394 input)) in
    printed (judged_line _ judged) c.if-out-lt-ROOM.false c.put_line.ensures.puts c.put_line.ensures.upper_bound
