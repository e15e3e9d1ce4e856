-- Laws of the tests that instructions are made of: an outcome is right if each way out of it is. Assumes nothing.
use Prim.Native.Nat.{ℕ, ◌+◌, ◌<◌, ◌≤◌}
use mathlib.Core.Path.{◌≡◌, refl}
use mathlib.Core.Bool.{Bool, true, false, cond}
use lib.Dec.{eqb, ltb}
use lib.IntN.{ℤ, pos, negsuc}
use lib.Signed.{mag}
use borrow.Author.Tests.{ltb-true, ltb-false}
use Rattle.machine.specs.Execution.{Outcome, divides, done, fault, fits, needs, rooms, within}
use Rattle.machine.specs.Registers.{is_fault}
use Rattle.machine.specs.State.{State}

-- a state that is reached is good, and a fault has a number of the table
abbrev pub Ends : (State → Type 0) → Outcome → Type 0
Ends P (done u) = P u
Ends P (fault k) = is_fault k ≡ true

-- what a good state is can be said more weakly
pub ends_map : (P Q : State → Type 0) → ((u : State) → P u → Q u) → (o : Outcome) → Ends P o → Ends Q o
ends_map P Q f (done u) e = f u e
ends_map P Q f (fault k) e = e

module _ (P : State → Type 0) where
  pub ends_cond : (b : Bool) (x y : Outcome) → (b ≡ true → Ends P x) → (b ≡ false → Ends P y) → Ends P (cond b x y)
  ends_cond true x y f g = f refl
  ends_cond false x y f g = g refl

  pub ends_needs : (k cells : ℕ) (o : Outcome) → (k ≤ cells → Ends P o) → Ends P (needs k cells o)
  unfolding needs
  ends_needs k cells o f = ends_cond (ltb cells k) (fault 21) o (λ e. refl) (λ e. f (ltb-false _ _ e))

  pub ends_rooms : (k cells : ℕ) (o : Outcome) → (cells + k ≤ 128 → Ends P o) → Ends P (rooms k cells o)
  unfolding rooms
  ends_rooms k cells o f = ends_cond (ltb 128 (cells + k)) (fault 22) o (λ e. refl) (λ e. f (ltb-false _ _ e))

  pub ends_within : (z : ℤ) (limit number : ℕ) (f : ℕ → Outcome) → is_fault number ≡ true →
      ((a : ℕ) → z ≡ pos a → a < limit → Ends P (f a)) →
      Ends P (within z limit number f)
  unfolding within
  ends_within (pos a) limit number f listed g = ends_cond (ltb a limit) (f a) (fault number) (λ e. g a refl (ltb-true _ _ e)) (λ e. listed)
  ends_within (negsuc a) limit number f listed g = listed

  pub ends_fits : (v : ℤ) (f : ℤ → Outcome) → Ends P (f v) → Ends P (fits v f)
  unfolding fits
  ends_fits v f g = ends_cond (ltb (mag v) 2147483648) (f v) (fault 24) (λ e. g) (λ e. refl)

  pub ends_divides : (v : ℤ) (o : Outcome) → Ends P o → Ends P (divides v o)
  unfolding divides
  ends_divides (pos a) o g = ends_cond (eqb a 0) (fault 24) o (λ e. refl) (λ e. g)
  ends_divides (negsuc a) o g = g
