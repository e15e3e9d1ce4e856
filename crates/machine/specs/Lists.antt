-- Lists of numbers by tests: the members that pass, how often a number occurs, and a member moved to the end; and
-- what holds of every member.
use Rattle.std.specs.Prelude.{ℕ, zero, suc, ◌+◌, Bool, true, false, cond, ◌&&◌, ◌||◌, List, [], ◌∷◌, ◌++◌, eqb}

-- the members that pass a test, in their order
unfoldable pub keep : (ℕ → Bool) → List ℕ → List ℕ
keep f [] = []
keep f (x ∷ xs) = cond (f x) (x ∷ keep f xs) (keep f xs)

-- a number is one of a list
abbrev pub is_among : ℕ → List ℕ → Bool
is_among t [] = false
is_among t (x ∷ xs) = eqb t x || is_among t xs

-- how often a number occurs
unfoldable pub count : ℕ → List ℕ → ℕ
count t [] = 0
count t (x ∷ xs) = cond (eqb x t) 1 0 + count t xs

-- the first occurrence of a number is moved to the end
unfoldable pub to_end : ℕ → List ℕ → List ℕ
to_end t [] = []
to_end t (x ∷ xs) = cond (eqb x t) (xs ++ x ∷ []) (x ∷ to_end t xs)

-- 0, 1, .., n − 1
unfoldable pub up_to : ℕ → List ℕ
up_to zero = []
up_to (suc n) = up_to n ++ n ∷ []

-- a test passes for every number below a bound
unfoldable pub every : ℕ → (ℕ → Bool) → Bool
every zero f = true
every (suc n) f = every n f && f n

-- and for some number below it
unfoldable pub some : ℕ → (ℕ → Bool) → Bool
some zero f = false
some (suc n) f = some n f || f n

-- every member of a list
unfoldable pub Each {ℓ} : {A : Type ℓ} → (A → Type 0) → List A → Type 0
Each P [] = Unit
Each P (x ∷ xs) = P x × Each P xs
