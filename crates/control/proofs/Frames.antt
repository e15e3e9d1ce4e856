-- Laws of return: what it does by the two cells of a frame. Assumes nothing.
use Prim.Native.Nat.{ℕ, zero, suc, ◌-◌, ◌<◌, ◌≤◌}
use mathlib.Core.Path.{◌≡◌, refl}
use mathlib.Core.Bool.{Bool, true, false, cond, ◌&&◌}
use mathlib.Core.List.{List}
use native.Mathlib.Omega.{arith}
use lib.Dec.{leb, ltb}
use lib.IntN.{ℤ, pos, negsuc}
use borrow.Author.Tests.{le-leb, le-ltb, lt-leb, lt-ltb, ne_eqb}
use Rattle.machine.specs.Context.{in_context}
use Rattle.machine.specs.Execution.{Outcome, done, exec, fault, frame, returned, returning, within}
use Rattle.machine.specs.Faults.{number_of}
use Rattle.machine.specs.Instructions as instr
use Rattle.machine.specs.State.{State, cell}
use Rattle.machine.specs.Tables.{Tables}
use Rattle.machine.specs.declared.context.Context.{Context}
use Rattle.machine.specs.declared.faults.Fault.{Fault}
use Rattle.machine.specs.declared.registers.Registers.{Registers}
use Rattle.cells.specs.Contract.{at, index_of}
use Rattle.std.specs.Prelude.{Some, None, Ok, Err}
use Rattle.cells.proofs.Tests.{in_below, in_value}
use Rattle.cells.proofs.Tried.{carried_out, refused}
use Rattle.control.specs.Contract.{FirstFrame, GoesBack}

module _ (size n : ℕ) (s : State) where
  -- FP is past the top
  pub no_frame : s.regs.cells ≤ s.regs.fp → returning size n s ≡ fault 26
  no_frame h = rw (le-ltb s.regs.fp s.regs.cells h)

  pub has_frame : s.regs.fp < s.regs.cells → returning size n s ≡ frame size n s (cell size s (s.regs.fp - 1))
  has_frame h = rw (lt-ltb s.regs.fp s.regs.cells h)

  -- no frame at all
  pub frame_out : (z : ℤ) → (z ≡ negsuc 0 → ⊥) → index_of z s.regs.fp ≡ None → frame size n s z ≡ fault 26
  unfolding frame
  frame_out (pos a) other e = by_test (leb 2 a) (ltb a s.regs.fp) _ e
    where
      by_test : (low t : Bool) (o : Outcome) → cond t (Some a) None ≡ None → cond (low && t) o (fault 26) ≡ fault 26
      by_test low true o k = absurd cc
      by_test true false o k = refl
      by_test false false o k = refl
  frame_out (negsuc zero) other e = absurd (other refl)
  frame_out (negsuc (suc k)) other e = rw (ne_eqb (suc k) 0 (λ h. omega arith))

  pub frame_low : (z : ℤ) (a : ℕ) → index_of z s.regs.fp ≡ Some a → a < 2 → frame size n s z ≡ fault 26
  unfolding frame
  frame_low z a e h = rw (in_value z s.regs.fp a e, lt-leb 2 a h)

  -- another frame
  pub frame_in : (z : ℤ) (a : ℕ) → index_of z s.regs.fp ≡ Some a → 2 ≤ a →
      frame size n s z ≡ within (cell size s s.regs.fp) n 26 λ pc. done (returned size n s a pc)
  unfolding frame
  frame_in z a e h = rw (in_value z s.regs.fp a e, le-leb 2 a h, lt-ltb a s.regs.fp (in_below z s.regs.fp a e))

-- the way back, by what the definitions say of return
module _ {size n : ℕ} {store : List ℤ} {t : ℕ} {c : Context} where
  pub goes_back : {c' : Context} → (FirstFrame size store t c → ⊥) →
      ((tables : Tables) (values : List ℤ) (r : Registers) → exec size n (at store tables values (in_context r t c)) instr.return ≡ done (at store tables values (in_context r t c'))) →
      GoesBack size n store t c (Ok c')
  goes_back other h = record { tries = λ _. carried_out h; other = λ e. other }

  pub stays : {k : Fault} →
      ((FirstFrame size store t c → ⊥) → (tables : Tables) (values : List ℤ) (r : Registers) → exec size n (at store tables values (in_context r t c)) instr.return ≡ fault (number_of k)) →
      GoesBack size n store t c (Err k)
  stays h = record { tries = λ other. refused (h other); other = λ e. absurd cc }
