-- `text::put_bytes` meets its contract. Assumes nothing.
use mathlib.Core.Path.{refl}
use Rattle.text.proofs.Lines.{copied}
use Rattle.text.proofs.put_bytes.Goals as goal

pub returns : goal.returns
returns c =
    record {
      written = rw c.copy_from_slice.ensures.after (copied c.args.text.now c.args.out.now c.args.at c.requires);
      reached = refl;
    }
