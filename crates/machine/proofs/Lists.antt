-- Laws of lists by tests: what is kept, counts, and a member moved to the end. Assumes nothing.
use Prim.Native.Nat.{ℕ, zero, suc, ◌+◌, ◌<◌, ◌≤◌}
use mathlib.Core.Path.{◌≡◌, refl, sym, ap, ◌∙◌}
use mathlib.Core.Bool.{Bool, true, false, cond}
use mathlib.Core.List.{List, [], ◌∷◌, ◌++◌, append-nil}
use mathlib.Core.Logic.{◌≢◌}
use native.Mathlib.Nat.{add_assoc}
use native.Mathlib.Omega.{arith}
use lib.Dec.{eqb, ltb}
use lib.ListN.{length, length-append}
use borrow.Author.Tests.{eq-eqb, ne_eqb, eqb-true, eqb-false, ltb-true, ltb-false}
use Rattle.machine.specs.Lists.{keep, count, to_end, up_to}

-- a test holds or fails
pub cases : {X : Type 0} (b : Bool) → (b ≡ true → X) → (b ≡ false → X) → X
cases true holds fails = holds refl
cases false holds fails = fails refl

-- two numbers are equal or not
pub same_or_not : {X : Type 0} (a b : ℕ) → (a ≡ b → X) → (a ≢ b → X) → X
same_or_not a b equal other = cases (eqb a b) (λ e. equal (eqb-true a b e)) (λ e. other (eqb-false a b e))

-- a number is below another or not
pub less_or_not : {X : Type 0} (a b : ℕ) → (a < b → X) → (b ≤ a → X) → X
less_or_not a b less other = cases (ltb a b) (λ e. less (ltb-true a b e)) (λ e. other (ltb-false a b e))

-- a test doesn't both hold and fail
pub clash : {X : Type 0} {b : Bool} → b ≡ true → b ≡ false → X
clash p q = absurd (let z : ◌≡◌ {A = ℕ} 0 1 = ap (λ (x : Bool). cond x 0 1) (sym p ∙ q) in omega arith)

-- ---- counts

pub count_append : (t : ℕ) (xs ys : List ℕ) → count t (xs ++ ys) ≡ count t xs + count t ys
unfolding count
count_append t [] ys = omega arith
count_append t (x ∷ xs) ys = rw (count_append t xs ys) (sym (add_assoc _ _ _))

-- how often a number occurs in a list of one
abbrev pub one_if : ℕ → ℕ → ℕ
one_if x t = cond (eqb x t) 1 0

pub count_cons : (t x : ℕ) (xs : List ℕ) → count t (x ∷ xs) ≡ one_if x t + count t xs
unfolding count
count_cons t x xs = refl

pub count_nil : (t : ℕ) → count t [] ≡ 0
unfolding count
count_nil t = refl

pub one_if_same : (t : ℕ) → one_if t t ≡ 1
one_if_same t = rw (eq-eqb t t refl)

pub one_if_is : (x t : ℕ) → x ≡ t → one_if x t ≡ 1
one_if_is x t e = rw (eq-eqb x t e)

pub one_if_other : (x t : ℕ) → x ≢ t → one_if x t ≡ 0
one_if_other x t h = rw (ne_eqb x t h)

-- moving a member to the end changes no count
pub count_to_end : (s t : ℕ) (l : List ℕ) → count s (to_end t l) ≡ count s l
unfolding to_end
count_to_end s t [] = refl
count_to_end s t (x ∷ xs) =
    cases (eqb x t)
    (λ e. rw e (count_append s xs (x ∷ []) ∙ rw (count_cons s x [], count_cons s x xs, count_nil s) (omega arith)))
    (λ e. rw e (count_cons s x (to_end t xs) ∙ ap (λ (k : ℕ). one_if x s + k) (count_to_end s t xs) ∙ sym (count_cons s x xs)))

pub length_to_end : (t : ℕ) (l : List ℕ) → length (to_end t l) ≡ length l
unfolding to_end
length_to_end t [] = refl
length_to_end t (x ∷ xs) =
    cases (eqb x t) (λ e. rw e (length-append xs (x ∷ []) ∙ omega arith)) (λ e. rw e (ap suc (length_to_end t xs)))

-- ---- what is kept

pub keep_nil : (f : ℕ → Bool) → keep f [] ≡ []
unfolding keep
keep_nil f = refl

pub keep_in : (f : ℕ → Bool) (x : ℕ) (xs : List ℕ) → f x ≡ true → keep f (x ∷ xs) ≡ x ∷ keep f xs
unfolding keep
keep_in f x xs e = rw e

pub keep_out : (f : ℕ → Bool) (x : ℕ) (xs : List ℕ) → f x ≡ false → keep f (x ∷ xs) ≡ keep f xs
unfolding keep
keep_out f x xs e = rw e

pub keep_short : (f : ℕ → Bool) (xs : List ℕ) → length (keep f xs) ≤ length xs
keep_short f [] = rw (keep_nil f) (omega arith)
keep_short f (x ∷ xs) =
    cases (f x)
    (λ e. rw (keep_in f x xs e) (omega (arith, keep_short f xs)))
    (λ e. rw (keep_out f x xs e) (omega (arith, keep_short f xs)))

pub keep_append : (f : ℕ → Bool) (xs ys : List ℕ) → keep f (xs ++ ys) ≡ keep f xs ++ keep f ys
keep_append f [] ys = rw (keep_nil f)
keep_append f (x ∷ xs) ys =
    cases (f x)
    (λ e. rw (keep_in f x (xs ++ ys) e, keep_in f x xs e, keep_append f xs ys))
    (λ e. rw (keep_out f x (xs ++ ys) e, keep_out f x xs e, keep_append f xs ys))

-- two tests that agree on a list's members keep the same
pub keep_same : (f g : ℕ → Bool) (l : List ℕ) → ((x : ℕ) → 0 < count x l → f x ≡ g x) → keep f l ≡ keep g l
keep_same f g [] h = rw (keep_nil f, keep_nil g)
keep_same f g (x ∷ xs) h =
    let rest : keep f xs ≡ keep g xs = keep_same f g xs (λ y below. h y (rw (count_cons y x xs) (omega arith))) in
    let here : f x ≡ g x = h x (rw (count_cons x x xs, one_if_same x) (omega arith)) in
    cases (f x)
    (λ e. rw (keep_in f x xs e, keep_in g x xs (sym here ∙ e), rest))
    (λ e. rw (keep_out f x xs e, keep_out g x xs (sym here ∙ e), rest))

-- a member that isn't kept may move
pub keep_to_end : (f : ℕ → Bool) (t : ℕ) (l : List ℕ) → f t ≡ false → keep f (to_end t l) ≡ keep f l
unfolding to_end
keep_to_end f t [] h = refl
keep_to_end f t (x ∷ xs) h =
    cases (eqb x t)
    (λ e.
    let out : f x ≡ false = ap f (eqb-true x t e) ∙ h in
    rw (e, keep_append f xs (x ∷ []), keep_out f x [] out, keep_out f x xs out, keep_nil f) (append-nil (keep f xs)))
    (λ e.
    rw e
    (cases (f x)
    (λ k. rw (keep_in f x (to_end t xs) k, keep_in f x xs k, keep_to_end f t xs h))
    (λ k. rw (keep_out f x (to_end t xs) k, keep_out f x xs k, keep_to_end f t xs h))))

-- a member occurs
pub count_keep : (t : ℕ) (f : ℕ → Bool) (l : List ℕ) → count t (keep f l) ≡ cond (f t) (count t l) 0
count_keep t f [] = rw (keep_nil f, count_nil t) (cases (f t) (λ e. rw e) (λ e. rw e))
count_keep t f (x ∷ xs) =
    same_or_not x t
    (λ e.
    cases (f x)
    (λ k. rw (keep_in f x xs k, count_cons t x (keep f xs), count_cons t x xs, count_keep t f xs, ← e, k))
    (λ k. rw (keep_out f x xs k, count_keep t f xs, ← e, k)))
    (λ e.
    let none = one_if_other x t e in
    let tail : count t (x ∷ xs) ≡ count t xs = rw (count_cons t x xs, none) (omega arith) in
    rw tail
    (cases (f x)
    (λ k. rw (keep_in f x xs k, count_cons t x (keep f xs), none, count_keep t f xs) (omega arith))
    (λ k. rw (keep_out f x xs k) (count_keep t f xs))))

-- the first of what is kept passes the test, and is a member
pub first_passes : (f : ℕ → Bool) (l : List ℕ) (t : ℕ) (rest : List ℕ) → keep f l ≡ t ∷ rest → f t ≡ true
first_passes f l t rest e =
    let counted : count t (keep f l) ≡ 1 + count t rest = rw (e, count_cons t t rest, one_if_same t) in
    cases (f t) (λ k. k) (λ k. absurd (omega (arith, counted, rw k at (count_keep t f l))))

pub first_occurs : (f : ℕ → Bool) (l : List ℕ) (t : ℕ) (rest : List ℕ) → keep f l ≡ t ∷ rest → 0 < count t l
first_occurs f l t rest e =
    let counted : count t (keep f l) ≡ 1 + count t rest = rw (e, count_cons t t rest, one_if_same t) in
    let passes = first_passes f l t rest e in
    omega (arith, counted, rw passes at (count_keep t f l))

-- nothing is kept where no member passes
pub keep_none : (f : ℕ → Bool) (l : List ℕ) → ((x : ℕ) → 0 < count x l → f x ≡ false) → keep f l ≡ []
keep_none f [] h = keep_nil f
keep_none f (x ∷ xs) h =
    rw (keep_out f x xs (h x (rw (count_cons x x xs, one_if_same x) (omega arith))))
    (keep_none f xs (λ y below. h y (rw (count_cons y x xs) (omega arith))))

-- and if nothing is kept, no member passes
pub none_passes : (f : ℕ → Bool) (l : List ℕ) → keep f l ≡ [] → (t : ℕ) → 0 < count t l → f t ≡ false
none_passes f l e t below =
    cases (f t)
    (λ k. absurd (omega (arith, below, rw (e, k, count_nil t) at (count_keep t f l))))
    (λ k. k)

module _ (f g : ℕ → Bool) (t : ℕ) (agree : (x : ℕ) → x ≢ t → f x ≡ g x) where
  -- where t doesn't occur, the two keep the same
  apart : (l : List ℕ) → count t l ≡ 0 → keep f l ≡ keep g l
  apart l none =
      keep_same f g l
      (λ x below. agree x (λ e. let here : 0 < count t l = rw e at below in omega arith))

  -- t passes the new test alone and moves to the end: it is last of what is kept
  pub arrives : (l : List ℕ) → f t ≡ true → g t ≡ false → count t l ≡ 1 → keep f (to_end t l) ≡ keep g l ++ t ∷ []
  unfolding to_end
  arrives [] yes' no' once = absurd (omega (arith, count_nil t))
  arrives (x ∷ xs) yes' no' once =
      same_or_not x t
      (λ e.
      let none : count t xs ≡ 0 = omega (arith, count_cons t x xs, one_if_is x t e, once) in
      rw (eq-eqb x t e, keep_append f xs (x ∷ []), keep_in f x [] (ap f e ∙ yes'), keep_out g x xs (ap g e ∙ no'), apart xs none, keep_nil f, e))
      (λ e.
      let rest : count t xs ≡ 1 = omega (arith, count_cons t x xs, one_if_other x t e, once) in
      let more = arrives xs yes' no' rest in
      rw (ne_eqb x t e)
      (cases (g x)
      (λ k. rw (keep_in f x (to_end t xs) (agree x e ∙ k), keep_in g x xs k, more))
      (λ k. rw (keep_out f x (to_end t xs) (agree x e ∙ k), keep_out g x xs k, more))))

  -- t was first of what was kept, and passes no more
  pub departs : (l rest : List ℕ) → f t ≡ false → g t ≡ true → count t l ≡ 1 → keep g l ≡ t ∷ rest → keep f l ≡ rest
  departs [] rest no' yes' once e = absurd (omega (arith, count_nil t))
  departs (x ∷ xs) rest no' yes' once e =
      same_or_not x t
      (λ k.
      let none : count t xs ≡ 0 = omega (arith, count_cons t x xs, one_if_is x t k, once) in
      let tails : keep g xs ≡ rest = let whole : x ∷ keep g xs ≡ t ∷ rest = sym (keep_in g x xs (ap g k ∙ yes')) ∙ e in cc in
      rw (keep_out f x xs (ap f k ∙ no'), apart xs none) tails)
      (λ k.
      let more : count t xs ≡ 1 = omega (arith, count_cons t x xs, one_if_other x t k, once) in
      cases (g x)
      (λ j. absurd (k (let whole : x ∷ keep g xs ≡ t ∷ rest = sym (keep_in g x xs j) ∙ e in cc)))
      (λ j. rw (keep_out f x xs (agree x k ∙ j)) (departs xs rest no' yes' more (sym (keep_out g x xs j) ∙ e))))

-- ---- numbers in order

pub count_past : (n t : ℕ) → n ≤ t → count t (up_to n) ≡ 0
unfolding up_to
count_past zero t h = count_nil t
count_past (suc n) t h =
    rw (count_append t (up_to n) (n ∷ []), count_cons t n [], count_nil t, count_past n t (omega arith), one_if_other n t (omega arith))

pub count_up_to : (n t : ℕ) → t < n → count t (up_to n) ≡ 1
unfolding up_to
count_up_to zero t h = absurd (omega arith)
count_up_to (suc n) t h =
    rw (count_append t (up_to n) (n ∷ []), count_cons t n [], count_nil t)
    (same_or_not n t
    (λ e. rw (count_past n t (omega arith), one_if_is n t e))
    (λ e. rw (count_up_to n t (omega arith), one_if_other n t e)))

pub length_up_to : (n : ℕ) → length (up_to n) ≡ n
unfolding up_to
length_up_to zero = refl
length_up_to (suc n) = length-append (up_to n) (n ∷ []) ∙ rw (length_up_to n) (omega arith)

-- a member that is the last is moved nowhere
pub to_end_last : (t : ℕ) (l : List ℕ) → count t l ≡ 0 → to_end t (l ++ t ∷ []) ≡ l ++ t ∷ []
unfolding to_end
to_end_last t [] none = rw (eq-eqb t t refl)
to_end_last t (x ∷ xs) none =
    let away : x ≢ t = λ e. omega (arith, count_cons t x xs, one_if_is x t e) in
    rw (ne_eqb x t away) (ap (λ (r : List ℕ). x ∷ r) (to_end_last t xs (omega (arith, count_cons t x xs))))

-- so one that occurs once is moved once
pub to_end_twice : (t : ℕ) (l : List ℕ) → count t l ≡ 1 → to_end t (to_end t l) ≡ to_end t l
unfolding to_end
to_end_twice t [] once = refl
to_end_twice t (x ∷ xs) once =
    same_or_not x t
    (λ e. rw (eq-eqb x t e, e) (to_end_last t xs (omega (arith, count_cons t x xs, one_if_is x t e))))
    (λ e. rw (ne_eqb x t e, ne_eqb x t e) (ap (λ (r : List ℕ). x ∷ r) (to_end_twice t xs (omega (arith, count_cons t x xs, one_if_other x t e)))))
