-- Each operator's outcome, by its opcode. Assumes nothing.
use Prim.Native.Nat.{ℕ, zero, suc, ◌≤◌}
use mathlib.Core.Path.{◌≡◌, refl, ap, ◌∙◌}
use mathlib.Core.Bool.{Bool, true, false, cond, ◌&&◌}
use native.Mathlib.Omega.{arith}
use borrow.Author.Tests.{le-leb, lt-leb, ne_eqb}
use lib.Dec.{leb}
use lib.IntN.{ℤ, pos, negsuc}
use mir.Syntax.{w32}
use mir.Val.{SFits}
use Rattle.arithmetic.specs.Arithmetic.{eq_z}
use Rattle.machine.specs.Execution.{Outcome, combined, compared, divides, done, exec, fault, fits, needs}
use Rattle.machine.specs.Instructions.{instruction_of}
use Rattle.machine.specs.State.{State, below, top}
use Rattle.machine.proofs.Equations.{add_is, sub_is, mul_is, div_is, mod_is, eq_is, neq_is, less_is, leq_is}
use Rattle.machine.proofs.Lists.{same_or_not}
use Rattle.cells.proofs.Fits.{fits_in, fits_out}
use Rattle.cells.proofs.Tests.{needs_met}
use Rattle.operators.specs.Operators.{computed, tested}

-- a number that does not test as 0 is not 0
not_zero : (b : ℤ) → eq_z b (pos 0) ≡ false → b ≡ pos 0 → ⊥
not_zero b e z = let never : ◌≡◌ {A = Bool} true false = rw z at e in let y : ◌≡◌ {A = ℕ} 0 1 = cc in omega arith

-- so a divisor that is not lacking is not 0
pub not_lacking : (op : ℕ) (b : ℤ) → (leb 12 op && eq_z b (pos 0)) ≡ false → 12 ≤ op → b ≡ pos 0 → ⊥
not_lacking op b e h = not_zero b (rw (le-leb 12 op h) at e)

-- the test of a divisor
divides_is : (b : ℤ) (o : Outcome) → divides b o ≡ cond (eq_z b (pos 0)) (fault 24) o
unfolding divides
divides_is (pos zero) o = refl
divides_is (pos (suc b)) o = rw (ne_eqb (suc b) 0 (λ e. omega arith), lt-leb (suc b) 0 (omega arith))
divides_is (negsuc b) o = refl

module _ (size n : ℕ) (s : State) where
  -- an operation's outcome, by the test of the divisor and the result
  abbrev pub computing : Bool → ℤ → Outcome
  computing lacking v = needs 2 s.regs.cells (cond lacking (fault 24) (fits v λ x. done (combined size n s x)))

  module _ (op : ℕ) (k : ℤ) (low : 9 ≤ op) (high : op ≤ 13) where
    abbrev lacking : Bool
    lacking = leb 12 op && eq_z (top size s) (pos 0)

    abbrev result : ℤ
    result = computed op (below size s) (top size s)

    pub binary_is : exec size n s (instruction_of op k) ≡ computing lacking result
    unfolding instruction_of computed
    binary_is =
        same_or_not op 9 (λ e. rw e (add_is size n s))
        (λ n9. same_or_not op 10 (λ e. rw e (sub_is size n s))
        (λ n10. same_or_not op 11 (λ e. rw e (mul_is size n s))
        (λ n11. same_or_not op 12 (λ e. rw e (div_is size n s ∙ ap (needs 2 _) (divides_is _ _)))
        (λ n12. let e : op ≡ 13 = omega arith in rw e (mod_is size n s ∙ ap (needs 2 _) (divides_is _ _))))))

    -- the divisor is 0, ..
    pub binary_lacks : 2 ≤ s.regs.cells → lacking ≡ true → exec size n s (instruction_of op k) ≡ fault 24
    binary_lacks h e = binary_is ∙ needs_met 2 _ _ h ∙ rw e

    -- .. the result is beyond 32 bits, ..
    pub binary_out : 2 ≤ s.regs.cells → lacking ≡ false → (SFits w32 result → ⊥) →
        exec size n s (instruction_of op k) ≡ fault 24
    binary_out h e outside = binary_is ∙ needs_met 2 _ _ h ∙ rw e (fits_out _ _ outside)

    -- .. or it is the new top
    pub binary_in : 2 ≤ s.regs.cells → lacking ≡ false → SFits w32 result →
        exec size n s (instruction_of op k) ≡ done (combined size n s result)
    binary_in h e inside = binary_is ∙ needs_met 2 _ _ h ∙ rw e (fits_in _ inside)

  pub compare_is : (op : ℕ) (k : ℤ) → 15 ≤ op → op ≤ 18 →
      exec size n s (instruction_of op k) ≡ compared size n s (tested op)
  unfolding instruction_of tested
  compare_is op k low high =
      same_or_not op 15 (λ e. rw e (eq_is size n s))
      (λ n15. same_or_not op 16 (λ e. rw e (neq_is size n s))
      (λ n16. same_or_not op 17 (λ e. rw e (less_is size n s))
      (λ n17. let e : op ≡ 18 = omega arith in rw e (leq_is size n s))))
