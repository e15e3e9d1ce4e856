-- What follows from a number that was found on the stack. Assumes nothing.
use Prim.Native.Nat.{ℕ, ◌-◌, ◌<◌, ◌≤◌}
use mathlib.Core.Path.{◌≡◌, refl, ap, sym, ◌∙◌}
use mathlib.Core.Bool.{Bool, true, false, cond}
use mathlib.Core.List.{List}
use native.Mathlib.Omega.{arith}
use lib.Dec.{ltb}
use lib.IntN.{ℤ, pos}
use lib.ListN.{get_or}
use borrow.Author.Tests.{ltb-false, ltb-true}
use Rattle.std.specs.Prelude.{Option, Some, None, Ok, Err}
use Rattle.cells.specs.Contract.{index_of}
use Rattle.cells.specs.Top.{named, number_at}
use Rattle.cells.proofs.Tests.{in_below, needs_less, needs_met, within_in, within_out}
use Rattle.machine.specs.Execution.{Outcome, fault, needs, within}
use Rattle.machine.specs.Faults.{number_of}
use Rattle.machine.specs.Size.{stack_at}
use Rattle.machine.specs.declared.faults.Fault.{Fault}
use Rattle.machine.specs.declared.faults.Fault.TheVariants.{StackUnderflow}
use Rattle.machine.specs.declared.registers.Registers.{Registers}

module _ (size : ℕ) (store : List ℤ) (r : Registers) (at limit : ℕ) (missing : Fault) where
  abbrev cell : ℤ
  cell = get_or store (stack_at size r.thread (r.cells - at)) (pos 0)

  -- there is such a cell, and the number is in range
  pub record Passed (a : ℕ) : Type 0 where
    pub enough : at ≤ r.cells
    pub index : index_of cell limit ≡ Some a

  pub passed : (a : ℕ) → number_at size store r at limit missing ≡ Ok a → Passed a
  unfolding number_at
  passed a e = by_cells (ltb r.cells at) refl e
    where
      by_index : (i : Option ℕ) → index_of cell limit ≡ i → at ≤ r.cells → named i missing ≡ Ok a → Passed a
      by_index (Some b) h k e =
          let same : b ≡ a = cc in
          record { enough = k; index = h ∙ ap Some same }
      by_index None h k e = absurd cc

      by_cells : (b : Bool) → ltb r.cells at ≡ b →
          cond b (Err StackUnderflow) (named (index_of cell limit) missing) ≡ Ok a → Passed a
      by_cells true h e = absurd cc
      by_cells false h e = by_index (index_of cell limit) refl (ltb-false r.cells at h) e

  -- the tests' outcome with it
  pub goes_on : (a : ℕ) (f : ℕ → Outcome) → number_at size store r at limit missing ≡ Ok a →
      needs at r.cells (within cell limit (number_of missing) f) ≡ f a
  goes_on a f e = let p = passed a e in needs_met at _ _ p.enough ∙ within_in cell limit _ f a p.index

  -- .. and with a fault
  pub stops : (k : Fault) (f : ℕ → Outcome) → number_at size store r at limit missing ≡ Err k →
      needs at r.cells (within cell limit (number_of missing) f) ≡ fault (number_of k)
  unfolding number_at
  stops k f e = by_cells (ltb r.cells at) refl e
    where
      by_index : (i : Option ℕ) → index_of cell limit ≡ i → at ≤ r.cells → named i missing ≡ Err k →
          needs at r.cells (within cell limit (number_of missing) f) ≡ fault (number_of k)
      by_index (Some b) h m e = absurd cc
      by_index None h m e =
          let same : missing ≡ k = cc in
          needs_met at _ _ m ∙ within_out cell limit _ f h ∙ ap (λ (x : Fault). fault (number_of x)) same

      by_cells : (b : Bool) → ltb r.cells at ≡ b → cond b (Err StackUnderflow) (named (index_of cell limit) missing) ≡ Err k →
          needs at r.cells (within cell limit (number_of missing) f) ≡ fault (number_of k)
      by_cells true h e =
          let same : StackUnderflow ≡ k = cc in
          needs_less at _ _ (ltb-true r.cells at h) ∙ ap (λ (x : Fault). fault (number_of x)) same
      by_cells false h e = by_index (index_of cell limit) refl (ltb-false r.cells at h) e

-- an instruction with two numbers, top's looked at before the one below: what its tests come to, whatever it does then
module _ (size : ℕ) (store : List ℤ) (r : Registers) (limit limit' : ℕ) (missing missing' : Fault) (f : ℕ → ℕ → Outcome) where
  abbrev second : ℕ → Outcome
  second a = within (cell size store r 2 limit' missing') limit' (number_of missing') (f a)

  abbrev both : Outcome
  both = needs 2 r.cells (within (cell size store r 1 limit missing) limit (number_of missing) second)

  pub top_missing : (k : Fault) → 2 ≤ r.cells → number_at size store r 1 limit missing ≡ Err k → both ≡ fault (number_of k)
  top_missing k h e = needs_met 2 _ _ h ∙ sym (needs_met 1 _ _ (omega (arith, h))) ∙ stops size store r 1 limit missing k second e

  top_there : (a : ℕ) → 2 ≤ r.cells → number_at size store r 1 limit missing ≡ Ok a → both ≡ second a
  top_there a h e = needs_met 2 _ _ h ∙ within_in _ _ _ _ _ (passed size store r 1 limit missing a e).index

  pub below_missing : (a : ℕ) (k : Fault) → 2 ≤ r.cells → number_at size store r 1 limit missing ≡ Ok a →
      number_at size store r 2 limit' missing' ≡ Err k → both ≡ fault (number_of k)
  below_missing a k h e g = top_there a h e ∙ sym (needs_met 2 _ _ h) ∙ stops size store r 2 limit' missing' k (f a) g

  pub both_there : (a b : ℕ) → number_at size store r 1 limit missing ≡ Ok a →
      number_at size store r 2 limit' missing' ≡ Ok b → both ≡ f a b
  both_there a b e g =
      let there = passed size store r 2 limit' missing' b g in top_there a there.enough e ∙ within_in _ _ _ _ _ there.index
