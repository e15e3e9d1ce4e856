-- `names::is_name` meets its contract. Assumes nothing.
use mathlib.Core.List.{List}
use mathlib.Core.Path.{◌∙◌, ap}
use Prim.Native.Nat.{ℕ}
use Rattle.opcodes.specs.Ascii.{same}
use Rattle.words.proofs.Walks.{same_listed}
use Rattle.names.proofs.Table.{found}
use Rattle.names.proofs.is_name.Goals as goal

pub returns : goal.returns
returns c =
    c.eq.ensures
    ∙ same_listed _ _
    ∙ ap (λ (name : List ℕ). same name c.args.word.now)
    (found _ _ c.find-end.ensures.value)
