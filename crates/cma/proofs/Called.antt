-- What step and run give: a refusal, or what the engine gave. Assumes nothing.
use Prim.Native.Nat.{ℕ, ◌-◌, ◌≤◌}
use mathlib.Core.Path.{◌≡◌, refl, sym, ap, ◌∙◌}
use mathlib.Core.List.{List}
use lib.IntN.{ℤ}
use lib.ListN.{length, drop, take}
use native.Mathlib.Omega.{arith}
use Rattle.card.proofs.Header.{accepts, code_part}
use Rattle.card.proofs.Words.{rest}
use Rattle.card.specs.Image.{code_of, read_of}
use Rattle.card.specs.Result.{gives}
use Rattle.cma.specs.Contract.{Ready}
use Rattle.engine.specs.Accepted.{Carded}
use Rattle.engine.specs.Contract.{Lasts}
use Rattle.engine.specs.declared.progress.Progress.{Progress}
use Rattle.machine.proofs.Runs.{run_done}
use Rattle.machine.proofs.Slices.{slice_tables}
use Rattle.machine.specs.Calls.{answer_of, boxed, run_call}
use Rattle.machine.specs.State.{State}
use Rattle.machine.specs.Tables.{slice_of}
use Rattle.machine.specs.declared.registers.Registers.{Registers}
use Rattle.outcome.specs.Outcome.{Ends, Gives}
use Rattle.outcome.specs.declared.Outcome.{Outcome}

-- an accepted card has its header, and what follows it is its code part
pub header : (image : List ℕ) (cells : ℕ) → read_of image ≡ gives cells → 9 ≤ length image
header image cells e =
    let l = (accepts image cells e).long in
    omega (arith, l.follows, l.least)

pub its_code : (image : List ℕ) (cells : ℕ) → read_of image ≡ gives cells →
    take (length image - 9) (drop 9 image) ≡ code_of image
its_code image cells e = rest 9 image ∙ sym (code_part image cells e)

pub carded : (image code : List ℕ) (cells : ℕ) → read_of image ≡ gives cells → code ≡ code_of image → Carded code
carded image code cells e same = ∣ record { image = image; cells = cells; read = e; part = same } ∣₁

module _ {size : ℕ} {image : List ℕ} {store : List ℤ} {tables : List ℕ} {values : List ℤ} {r : Registers} {m : ℕ} where
  -- what the engine gave
  pub ran : {code : List ℕ} {p : Progress} {store' : List ℤ} {tables' : List ℕ} {values' : List ℤ} {outcome : Outcome} →
      Ready size image (boxed store tables values r) → code ≡ code_of image →
      Lasts size code store tables values r m store' tables' values' p → Ends p.registers p.count outcome →
      Gives (run_call size image m (boxed store tables values r)) outcome store' tables' values'
  ran {p} {store'} {tables'} {values'} ready same l o =
      let l' : Lasts size (code_of image) store tables values r m store' tables' values' p = rw same at l in
      rw (run_done size image (boxed store tables values r) ready.cells m ready.read ready.sound.store ready.sound.formed)
      (record {
        answered = o.answered ∙ ap (λ (s : State). answer_of s.regs) l'.is;
        counted = o.counted ∙ l'.counted;
        registers = o.registers ∙ ap (λ (s : State). s.regs) l'.is;
        in_store = ap (λ (s : State). s.store) l'.is;
        in_tables = sym (slice_tables size tables') ∙ ap (λ (s : State). slice_of s.tables) l'.is;
        in_values = ap (λ (s : State). s.values) l'.is;
      })
