-- The tables at the start, number by number. Assumes nothing.
use Prim.Native.Nat.{ℕ, zero, suc, ◌+◌, ◌*◌, ◌-◌, ◌<◌, ◌≤◌}
use mathlib.Core.Path.{◌≡◌, refl, sym, ap, ◌∙◌}
use mathlib.Core.List.{List, [], ◌∷◌, ◌++◌}
use native.Mathlib.Omega.{arith}
use lib.ListN.{length, get_or, replicate, get_or-append, get_or-replicate, length-append, length-replicate, replicate-append-replicate}
use lib.Seq.{ext_get_or, get_or-append-add}
use borrow.Author.Tests.{lt-ltb, le-ltb, ne_eqb}
use Rattle.machine.proofs.Lists.{length_up_to, less_or_not}
use Rattle.machine.specs.Lists.{up_to}
use Rattle.machine.specs.State.{start_tables}
use Rattle.machine.specs.Tables.{slice_of}
use Rattle.tables.specs.Start.{start_at}

-- an element of the second of two lists
pub past : (x y : List ℕ) (a i : ℕ) → length x ≡ a → a ≤ i → get_or (x ++ y) i 0 ≡ get_or y (i - a) 0
past x y a i e h =
    let split : length x + (i - a) ≡ i = omega arith in
    ap (λ (k : ℕ). get_or (x ++ y) k 0) (sym split) ∙ get_or-append-add x y (i - a) 0

-- the line in number order
up_to_at : (n i : ℕ) → i < n → get_or (up_to n) i 0 ≡ i
unfolding up_to
up_to_at zero i h = absurd (omega arith)
up_to_at (suc n) i h =
    less_or_not i n
    (λ k. get_or-append (up_to n) (n ∷ []) 0 i (rw (length_up_to n) k) ∙ up_to_at n i k)
    (λ k.
    let last : i ≡ n = omega arith in
    let first : i - n ≡ 0 = omega arith in
    past (up_to n) (n ∷ []) n i (length_up_to n) k ∙ ap (λ (j : ℕ). get_or (n ∷ []) j 0) first ∙ sym last)

zeros : (n k : ℕ) → get_or {A = ℕ} (replicate n 0) k 0 ≡ 0
zeros zero k = refl
zeros (suc n) zero = refl
zeros (suc n) (suc k) = zeros n k

module _ (size : ℕ) (some : 1 ≤ size) where
  -- places and saved registers: all 0 but the first
  front : List ℕ
  front = 2 ∷ replicate (size - 1 + size + size + size) 0

  free : List ℕ
  free = replicate (2 * size) size

  parts : slice_of (start_tables size) ≡ front ++ free ++ up_to size
  unfolding slice_of front free
  parts = simp replicate-append-replicate

  long_front : length front ≡ 4 * size
  unfolding front
  long_front = rw (length-replicate {A = ℕ} (size - 1 + size + size + size) 0) (omega arith)

  long : length (front ++ free) ≡ 6 * size
  unfolding free
  long = length-append front free ∙ rw (long_front, length-replicate (2 * size) size) (omega arith)

  in_front : (i : ℕ) → i < 4 * size → get_or front i 0 ≡ start_at size i
  unfolding front
  in_front zero h = refl
  in_front (suc i) h = zeros (size - 1 + size + size + size) i ∙ rw (ne_eqb (suc i) 0 (omega arith), lt-ltb (suc i) (4 * size) h)

  at : (i : ℕ) → i < 7 * size → get_or (front ++ free ++ up_to size) i 0 ≡ start_at size i
  unfolding free
  at i h =
      less_or_not i (6 * size)
      (λ k.
      get_or-append (front ++ free) (up_to size) 0 i (rw long k)
      ∙ less_or_not i (4 * size)
      (λ j. get_or-append front free 0 i (rw long_front j) ∙ in_front i j)
      (λ j.
      past front free (4 * size) i long_front j
      ∙ get_or-replicate (2 * size) (i - 4 * size) size 0 (omega arith)
      ∙ sym (rw (ne_eqb i 0 (omega arith), le-ltb i (4 * size) j, lt-ltb i (6 * size) k))))
      (λ k.
      past (front ++ free) (up_to size) (6 * size) i long k
      ∙ up_to_at size (i - 6 * size) (omega arith)
      ∙ sym (rw (ne_eqb i 0 (omega arith), le-ltb i (4 * size) (omega arith), le-ltb i (6 * size) k)))

  -- a slice with these numbers is the start's
  pub start_slice : (l : List ℕ) → length l ≡ 7 * size → ((i : ℕ) → i < 7 * size → get_or l i 0 ≡ start_at size i) →
      l ≡ slice_of (start_tables size)
  start_slice l e f =
      ext_get_or 0 l (front ++ free ++ up_to size)
      (e ∙ sym (length-append (front ++ free) (up_to size) ∙ rw (long, length_up_to size) (omega arith)))
      (λ i h. f i (omega arith) ∙ sym (at i (omega arith)))
      ∙ sym parts
