-- Laws of the connectives, of the tests over every number below a bound, and of a list's bound. Assumes nothing.
use Prim.Native.Nat.{ℕ, zero, suc, ◌<◌, ◌≤◌}
use mathlib.Core.Path.{◌≡◌, refl}
use mathlib.Core.Bool.{Bool, true, false, cond, not as negate, ◌&&◌, ◌||◌}
use mathlib.Core.List.{List, [], ◌∷◌}
use native.Mathlib.Omega.{arith}
use lib.Dec.{eqb, ltb}
use borrow.Author.Tests.{eq-eqb, ne_eqb, eqb-true, eqb-false, ltb-true, ltb-false, leb-true, leb-false, lt-ltb, le-ltb, le-leb, lt-leb}
pub use Rattle.opcodes.proofs.Each.{and_true, never}
use Rattle.machine.specs.Lists.{count, every, some}
use Rattle.machine.specs.WellFormed.{all_below}
use Rattle.machine.proofs.Lists.{cases}

-- linear arithmetic that reads and proves tests
pub ruleset tests = (arith, eqb-true, ltb-true, ltb-false, leb-true, leb-false, eq-eqb, ne_eqb, lt-ltb, le-ltb, le-leb, lt-leb)

pub and_first : (a b : Bool) → (a && b) ≡ true → a ≡ true
and_first a b e = (and_true a b e).0

pub and_second : (a b : Bool) → (a && b) ≡ true → b ≡ true
and_second a b e = (and_true a b e).1

pub true_and : (a b : Bool) → a ≡ true → b ≡ true → (a && b) ≡ true
true_and a b p q = rw (p, q)

-- one of them passed
pub or_true : (a b : Bool) → (a || b) ≡ true → a ≡ false → b ≡ true
or_true a b e p = rw p at e

pub true_or : (a b : Bool) → (a ≡ false → b ≡ true) → (a || b) ≡ true
true_or true b f = refl
true_or false b f = f refl

-- the test of the case that applies passed
pub true_cond : (a b c : Bool) → (a ≡ true → b ≡ true) → (a ≡ false → c ≡ true) → cond a b c ≡ true
true_cond true b c f g = f refl
true_cond false b c f g = g refl

-- a test failed
pub true_not : (a : Bool) → a ≡ false → negate a ≡ true
true_not a e = rw e

-- a test passes for every number below a bound
pub every_true : (n : ℕ) (f : ℕ → Bool) → every n f ≡ true → (i : ℕ) → i < n → f i ≡ true
unfolding every
every_true zero f e i h = absurd (omega arith)
every_true (suc n) f e i h =
    let p = and_true (every n f) (f n) e in
    cases (eqb i n) (λ q. rw (eqb-true i n q) p.1) (λ q. every_true n f p.0 i (omega (arith, eqb-false i n q)))

pub true_every : (n : ℕ) (f : ℕ → Bool) → ((i : ℕ) → i < n → f i ≡ true) → every n f ≡ true
unfolding every
true_every zero f g = refl
true_every (suc n) f g = true_and (every n f) (f n) (true_every n f (λ i h. g i (omega arith))) (g n (omega arith))

-- and for some number below it: which one
pub record Some (n : ℕ) (f : ℕ → Bool) : Type 0 where
  pub which : ℕ
  pub less : which < n
  pub passes : f which ≡ true

pub some_true : (n : ℕ) (f : ℕ → Bool) → some n f ≡ true → Some n f
unfolding some
some_true zero f e = never e
some_true (suc n) f e =
    cases (some n f)
    (λ q. let s = some_true n f q in record { which = s.which; less = omega arith; passes = s.passes })
    (λ q. record { which = n; less = omega arith; passes = or_true (some n f) (f n) e q })

-- it passes for none, where it fails for each
pub false_some : (n : ℕ) (f : ℕ → Bool) → ((i : ℕ) → i < n → f i ≡ false) → some n f ≡ false
unfolding some
false_some zero f g = refl
false_some (suc n) f g = rw (false_some n f (λ i h. g i (omega arith)), g n (omega arith))

pub true_some : (n : ℕ) (f : ℕ → Bool) (i : ℕ) → i < n → f i ≡ true → some n f ≡ true
unfolding some
true_some zero f i h e = absurd (omega arith)
true_some (suc n) f i h e =
    true_or (some n f) (f n) (λ s. cases (eqb i n) (λ q. rw (eqb-true i n q) at e) (λ q. never (cc (true_some n f i (omega (arith, eqb-false i n q)) e))))

pub some_false : (n : ℕ) (f : ℕ → Bool) → some n f ≡ false → (i : ℕ) → i < n → f i ≡ false
some_false n f e i h = cases (f i) (λ q. never (cc (true_some n f i h q))) (λ q. q)

-- what is not below a list's bound does not occur in it
pub below_none : (bound : ℕ) (xs : List ℕ) → all_below bound xs ≡ true → (t : ℕ) → bound ≤ t → count t xs ≡ 0
unfolding all_below count
below_none bound [] e t h = refl
below_none bound (x ∷ xs) e t h =
    let p = and_true (ltb x bound) (all_below bound xs) e in
    let x≢t : eqb x t ≡ false = ne_eqb x t (λ q. omega (arith, ltb-true x bound p.0)) in
    rw (x≢t, below_none bound xs p.1 t h)

-- and a list is below a bound from which on nothing occurs
pub none_below : (bound : ℕ) (xs : List ℕ) → ((t : ℕ) → bound ≤ t → count t xs ≡ 0) → all_below bound xs ≡ true
unfolding all_below count
none_below bound [] f = refl
none_below bound (x ∷ xs) f =
    true_and (ltb x bound) (all_below bound xs)
    (cases (ltb x bound) (λ q. q) (λ q. let z = rw (eq-eqb x x refl) at (f x (ltb-false x bound q)) in absurd (omega arith)))
    (none_below bound xs (λ t h. omega (arith, f t h)))
