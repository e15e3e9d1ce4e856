-- What `any`, `all` and `find` over a range tell of a test: whether it passes for some number below a bound, or for every
-- one, and the first for which it does.
-- Assumes nothing.
use Rattle.std.specs.Prelude.{◌≡◌, ◌+◌, ◌<◌, ◌≤◌, ℕ, Bool, true, false, List, Option, MatchOption, IfSome, length}
use Rattle.std.specs.Bool.{MatchBool}
use Rattle.std.specs.Fn.{Called, CalledAt}
use Rattle.std.specs.Iterator.{YieldsThen}
use Rattle.std.specs.List.{AllWithin, FoldsTo, HoldsAt, range_with_len}
use Rattle.std.specs.declared.ops.Range.{Range}
use Rattle.std.proofs.Common.{ap, arith, sym, ◌∙◌}
use Rattle.std.proofs.iter.Yields.{nat_range_steps}
use Rattle.std.proofs.lemmas.Iterator.{YieldsList-from_range, cases_from_all, cases_from_any, first_from_Range}
use Rattle.std.proofs.lemmas.List.FromFn.{get_or-range_with_len, length-range_with_len}
use denote.Param.Members.{Mut}
use denote.Ref.{Bor}
use Rattle.machine.proofs.Every.{every_true, false_some, true_every, true_some}
use Rattle.machine.proofs.Lists.{cases, clash}
use Rattle.machine.specs.Lists.{every, some}

-- a test that fails for one number fails for all
pub every_stop : (n : ℕ) (f : ℕ → Bool) (i : ℕ) → i < n → f i ≡ false → every n f ≡ false
every_stop n f i h e = cases (every n f) (λ q. clash (every_true n f q i h) e) (λ q. q)

module _ (n : ℕ) (test : ℕ → Bool) where
  -- number k of the range is k
  counts : (k : ℕ) (b : Bool) → k < length (range_with_len 0 n) →
      HoldsAt (λ x. test x ≡ b) (range_with_len 0 n) k → (k < n) × (test k ≡ b)
  counts k b h at =
      let below : k < n = omega (arith, length-range_with_len 0 n) in
      let same : 0 + k ≡ k = omega arith in
      (below, sym (ap test (get_or-range_with_len 0 n k 0 below ∙ same)) ∙ at 0)

  all_count : (b : Bool) → AllWithin (λ x. test x ≡ b) (range_with_len 0 n) 0 (length (range_with_len 0 n)) →
      (k : ℕ) → k < n → test k ≡ b
  all_count b all k h =
      let below : k < length (range_with_len 0 n) = omega (arith, length-range_with_len 0 n) in
      (counts k b below (λ d. all k d (omega arith) below)).1

  module _ {F : Type 0} {g : Mut F (ℕ × Unit {0}) Bool} {s u : Range ℕ} (f : F) (r : Bool)
      (from : s ≡ record { start = 0; end = n })
      (answers : (x : ℕ) (b : Bool) (q : F) → Called g f (x, tt) b q → (q ≡ f) × (b ≡ test x)) where
    -- one was found that passes, or none does
    pub some_range :
        (xs : List ℕ) × (o : Option ℕ) × (j : F) × YieldsThen nat_range_steps s xs o u
        × FoldsTo (λ p x q. Called g p (x, tt) false q) f xs j
        × MatchOption o (r ≡ false) (λ x. (r ≡ true) × ((h : F) × Called g j (x, tt) true h)) →
        r ≡ some n test
    some_range ran =
        told r
        (cases_from_any u f r (λ x. test x ≡ true) (λ x. test x ≡ false) ran (YieldsList-from_range 0 n n from (omega arith))
        (λ x q k. sym (answers x true q k).1)
        (λ x q k. let a = answers x false q k in (a.0, sym a.1)))
      where
        told : (v : Bool) →
            MatchBool v ((k : ℕ) × (k < length (range_with_len 0 n)) × HoldsAt (λ x. test x ≡ true) (range_with_len 0 n) k)
            (AllWithin (λ x. test x ≡ false) (range_with_len 0 n) 0 (length (range_with_len 0 n))) →
            v ≡ some n test
        told true h = let at = counts h.0 true h.1 h.2 in sym (true_some n test h.0 at.0 at.1)
        told false h = sym (false_some n test (all_count false h))

    -- every one passes, or one was found that doesn't
    pub every_range :
        (xs : List ℕ) × (o : Option ℕ) × (j : F) × YieldsThen nat_range_steps s xs o u
        × FoldsTo (λ p x q. Called g p (x, tt) true q) f xs j
        × MatchOption o (r ≡ true) (λ x. (r ≡ false) × ((h : F) × Called g j (x, tt) false h)) →
        r ≡ every n test
    every_range ran =
        told r
        (cases_from_all u f r (λ x. test x ≡ true) (λ x. test x ≡ false) ran (YieldsList-from_range 0 n n from (omega arith))
        (λ x q k. let a = answers x true q k in (a.0, sym a.1))
        (λ x q k. sym (answers x false q k).1))
      where
        told : (v : Bool) →
            MatchBool v (AllWithin (λ x. test x ≡ true) (range_with_len 0 n) 0 (length (range_with_len 0 n)))
            ((k : ℕ) × (k < length (range_with_len 0 n)) × HoldsAt (λ x. test x ≡ false) (range_with_len 0 n) k) →
            v ≡ every n test
        told true h = sym (true_every n test (all_count true h))
        told false h = let at = counts h.0 false h.1 h.2 in sym (every_stop n test h.0 at.0 at.1)

-- the first from a number on that passes, or none below the end does
pub first_in_range : {F : Type 0} {g : Mut F (Bor ℕ × Unit {0}) Bool} (u : Range ℕ) (f : F) (r : Option ℕ)
    (low high : ℕ) (test : ℕ → Bool) →
    (xs : List ℕ) × (j : F) × YieldsThen nat_range_steps (record { start = low; end = high }) xs r u
    × FoldsTo (λ p x q. CalledAt g p x false q) f xs j × IfSome r (λ x. (h : F) × CalledAt g j x true h) →
    ((x : ℕ) (b : Bool) (q : F) → CalledAt g f x b q → (q ≡ f) × (b ≡ test x)) →
    MatchOption r ((k : ℕ) → low ≤ k → k < high → test k ≡ false)
    (λ i. (low ≤ i) × (i < high) × (test i ≡ true) × ((k : ℕ) → low ≤ k → k < i → test k ≡ false))
first_in_range u f r low high test ran answers =
    first_from_Range (record { start = low; end = high }) u f r (λ k. test k ≡ true) (λ k. test k ≡ false) ran
    (λ x q k. sym (answers x true q k).1)
    (λ x q k. let a = answers x false q k in (a.0, sym a.1))
