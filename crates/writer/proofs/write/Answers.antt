-- `writer::write` meets its contract. Assumes nothing.
use Prim.Native.Nat.{ℕ}
use mathlib.Core.Bool.{false, ◌||◌}
use mathlib.Core.List.{List, ◌++◌}
use mathlib.Core.Path.{◌≡◌, refl, sym, ◌∙◌}
use native.Mathlib.Omega.{arith}
use borrow.Author.Rules.{sfits_of}
use borrow.Author.Tests.{ltb-false}
use Rattle.std.specs.Prelude.{IsErrAnd, Ok}
use Rattle.std.specs.declared.result.Result as code
use lib.ListN.{length, drop}
use mir.Syntax.{w32}
use mir.Facts.{to_z-of_z}
use Rattle.card.specs.Code.{first_bad, found}
use Rattle.card.specs.Image.{last_of, out_of_range}
use Rattle.card.specs.Result.{gives, number, refuses}
use Rattle.card.specs.declared.refusals.Refusal.{Refusal}
use Rattle.card.proofs.Header.{in_range}
use Rattle.card.proofs.Refused.{handed_on}
use Rattle.writer.specs.Writing.{Wrote, image_of, write_of}
use Rattle.writer.proofs.Stores.{whole}
use Rattle.writer.proofs.write.Goals as goal
use Rattle.writer.proofs.write.Goals.{After-scan, In_ok-refuse_if-2}

-- a refusal leaves the buffer
keeps : (cells : ℕ) (list before : List ℕ) (answer : code.Result ℕ Refusal) (r : Refusal) →
    IsErrAnd answer (λ e. e ≡ r) → refuses (number r.reason) r.place ≡ write_of cells list (length before) →
    Wrote cells list before answer before
keeps cells list before answer r h e = record { answered = handed_on _ answer r h ∙ e; left = rw (← e) }

-- success leaves the image and what was past it
writes : (cells : ℕ) (list before after : List ℕ) (size : ℕ) →
    gives size ≡ write_of cells list (length before) →
    after ≡ image_of cells list ++ drop size before → Wrote cells list before (Ok size) after
writes cells list before after size e b = record { answered = e; left = rw (← e) b }

-- number 3 is not given
sizes_fine : (c : In_ok-refuse_if-2) →
    (out_of_range c.args.cells || out_of_range (length c.args.list.now)) ≡ false
sizes_fine c =
    rw (← c.out_of_range.ensures, c.in_ok-refuse_if.ensures, ← c.out_of_range-2.ensures) c.in_ok-refuse_if-2.ensures

-- what the search answered
searched : (c : After-scan) →
    found c.scan.result ≡ first_bad (last_of (length c.args.list.now)) 0 c.args.list.now
searched c =
    rw (← c.last_of.ensures)
    (rw (to_z-of_z (sfits_of {w = w32} {z = c.last_of.result} c.last_of.type_inv)) at c.scan.ensures)

pub returns-in_err-refuse_if : goal.returns-in_err-refuse_if
unfolding write_of
returns-in_err-refuse_if c =
    let wrong = c.in_err-refuse_if.ensures in
    keeps _ _ _ _ _ c.from_residual.ensures.1 (rw (wrong.1, ← c.out_of_range.ensures, wrong.0))

pub returns-in_err-refuse_if-2 : goal.returns-in_err-refuse_if-2
unfolding write_of
returns-in_err-refuse_if-2 c =
    let wrong = c.in_err-refuse_if-2.ensures in
    keeps _ _ _ _ _ c.from_residual-in_err-refuse_if-2.ensures.1
    (rw (wrong.1, ← c.out_of_range.ensures, c.in_ok-refuse_if.ensures, ← c.out_of_range-2.ensures, wrong.0))

pub last_of-requires : goal.last_of-requires
last_of-requires c = (in_range _ (sym c.out_of_range-2.ensures ∙ c.in_ok-refuse_if-2.ensures)).most

pub returns-in-Err : goal.returns-in-Err
unfolding write_of
returns-in-Err c =
    let at = goal.at.returns-in-Err c in
    keeps _ _ _ _ _ refl
    (rw (sizes_fine at.In_ok-refuse_if-2, ← (searched at.After-scan), c.in-Err.is))

pub returns-in_err-refuse_if-3 : goal.returns-in_err-refuse_if-3
unfolding write_of
returns-in_err-refuse_if-3 c =
    let at = goal.at.returns-in_err-refuse_if-3 c in
    let wrong = c.in_err-refuse_if-3.ensures in
    keeps _ _ _ _ _ c.from_residual-in_err-refuse_if-3.ensures.1
    (rw (wrong.1, sizes_fine at.In_ok-refuse_if-2, ← (searched at.After-scan), c.in-Ok.is, wrong.0))

pub overflow_cast-cells : goal.overflow_cast-cells
overflow_cast-cells c =
    omega (arith, (in_range c.args.cells (sym c.out_of_range.ensures ∙ c.in_ok-refuse_if.ensures)).most)

pub overflow_cast-n : goal.overflow_cast-n
overflow_cast-n c =
    let n = in_range (length c.args.list.now) (sym c.out_of_range-2.ensures ∙ c.in_ok-refuse_if-2.ensures) in
    omega (arith, n.most)

pub put_header-requires : goal.put_header-requires
put_header-requires c =
    let n = in_range _ (sym c.out_of_range-2.ensures ∙ c.in_ok-refuse_if-2.ensures) in
    (omega (arith, ltb-false _ _ c.in_ok-refuse_if-3.ensures), n.most)

pub returns : goal.returns
unfolding write_of
returns c =
    let at = goal.at.returns c in
    writes _ _ _ _ _
    (rw (sizes_fine at.In_ok-refuse_if-2, ← (searched at.After-scan), c.in-Ok.is, c.in_ok-refuse_if-3.ensures))
    (c.put_code.ensures ∙ rw c.put_header.ensures (whole _ _ _ (ltb-false _ _ c.in_ok-refuse_if-3.ensures)))
