-- Numbers that are marked as seen along a list; a list of n numbers below n that holds none twice holds each once. Assumes nothing.
use Prim.Native.Nat.{ℕ, zero, suc, ◌+◌, ◌<◌, ◌≤◌}
use mathlib.Core.Path.{◌≡◌, refl, sym, ◌∙◌}
use mathlib.Core.Bool.{Bool, true, false, cond, ◌&&◌}
use mathlib.Core.List.{List, [], ◌∷◌}
use native.Mathlib.Omega.{arith}
use borrow.Author.Tests.{eq-eqb, ltb-true, ne_eqb}
use lib.Dec.{eqb, ltb}
use lib.ListN.{length, get_or, set, replicate, drop, get_or-replicate, length-set}
use lib.Seq.{get_or-set_other, get_or-set_same}
use Rattle.machine.specs.Lists.{count, every}
use Rattle.machine.specs.WellFormed.{all_below, line_fits}
use Rattle.machine.proofs.Every.{and_first, and_second, true_every}
use Rattle.machine.proofs.Lists.{count_cons, count_nil, less_or_not, one_if, one_if_is, one_if_other, one_if_same, same_or_not}
use Rattle.ranges.proofs.Loops.{count_end, count_more}
use Rattle.tables.proofs.Tests.{every_stop}

-- ---- each once, by the sum of all counts

total : ℕ → (ℕ → ℕ) → ℕ
total zero f = 0
total (suc n) f = total n f + f n

total_same : (n : ℕ) (f g : ℕ → ℕ) → ((t : ℕ) → f t ≡ g t) → total n f ≡ total n g
unfolding total
total_same zero f g h = refl
total_same (suc n) f g h = rw (total_same n f g h, h n)

total_sum : (n : ℕ) (f g : ℕ → ℕ) → total n (λ t. f t + g t) ≡ total n f + total n g
unfolding total
total_sum zero f g = refl
total_sum (suc n) f g = rw (total_sum n f g) (omega arith)

total_none : (n : ℕ) → total n (λ t. 0) ≡ 0
unfolding total
total_none zero = refl
total_none (suc n) = rw (total_none n) (omega arith)

-- one number is counted once, below its bound
total_past : (n x : ℕ) → n ≤ x → total n (one_if x) ≡ 0
unfolding total
total_past zero x h = refl
total_past (suc n) x h = rw (total_past n x (omega arith), one_if_other x n (λ e. omega arith)) (omega arith)

total_one : (n x : ℕ) → x < n → total n (one_if x) ≡ 1
unfolding total
total_one zero x h = absurd (omega arith)
total_one (suc n) x h =
    same_or_not x n
    (λ e. rw (total_past n x (omega arith), one_if_is x n e) (omega arith))
    (λ e. rw (total_one n x (omega arith), one_if_other x n e) (omega arith))

-- of numbers that are below a bound all are counted
total_count : (n : ℕ) (l : List ℕ) → all_below n l ≡ true → total n (λ t. count t l) ≡ length l
unfolding all_below
total_count n [] e = total_same n (λ t. count t []) (λ t. 0) count_nil ∙ total_none n
total_count n (x ∷ xs) e =
    let below : x < n = ltb-true x n (and_first (ltb x n) (all_below n xs) e) in
    total_same n (λ t. count t (x ∷ xs)) (λ t. one_if x t + count t xs) (λ t. count_cons t x xs)
    ∙ total_sum n (one_if x) (λ t. count t xs)
    ∙ rw (total_one n x below, total_count n xs (and_second (ltb x n) (all_below n xs) e)) (omega arith)

total_most : (n : ℕ) (f : ℕ → ℕ) → ((t : ℕ) → t < n → f t ≤ 1) → total n f ≤ n
unfolding total
total_most zero f most = omega arith
total_most (suc n) f most = omega (arith, total_most n f (λ t h. most t (omega arith)), most n (omega arith))

each_one : (n : ℕ) (f : ℕ → ℕ) → ((t : ℕ) → t < n → f t ≤ 1) → total n f ≡ n → (t : ℕ) → t < n → f t ≡ 1
unfolding total
each_one zero f most all t h = absurd (omega arith)
each_one (suc n) f most all t h =
    let few : total n f ≤ n = total_most n f (λ s k. most s (omega arith)) in
    let last : f n ≤ 1 = most n (omega arith) in
    less_or_not t n
    (λ k. each_one n f (λ s j. most s (omega arith)) (omega arith) t k)
    (λ k. let same : t ≡ n = omega arith in rw same (omega arith))

-- a line that does not hold a thread once does not fit
pub not_once : (size : ℕ) (line : List ℕ) (t : ℕ) → t < size → eqb (count t line) 1 ≡ false → line_fits size line ≡ false
not_once size line t h e = fails_second (all_below size line) _ (every_stop size (λ k. eqb (count k line) 1) t h e)
  where
    fails_second : (a b : Bool) → b ≡ false → (a && b) ≡ false
    fails_second true b k = k
    fails_second false b k = refl

-- ---- marks

abbrev bit : Bool → ℕ
bit b = cond b 1 0

-- a number occurs as often as it is marked, and as it is still to come
pub record Seen (whole rest : List ℕ) (seen : List Bool) : Type 0 where
  pub room : length seen ≡ 32
  pub so : (t : ℕ) → t < 32 → count t whole ≡ bit (get_or seen t false) + count t rest

pub seen_none : (l : List ℕ) → Seen l l (replicate 32 false)
seen_none l = record { room = refl; so = λ t h. rw (get_or-replicate 32 t false false h) (omega arith) }

module _ (whole l : List ℕ) (i : ℕ) (seen : List Bool) (s : Seen whole (drop i l) seen) (h : i < length l)
    (small : get_or l i 0 < 32) where
  -- one that was seen before occurs twice
  pub seen_twice : get_or seen (get_or l i 0) false ≡ true → eqb (count (get_or l i 0) whole) 1 ≡ false
  seen_twice e =
      let had : count (get_or l i 0) whole ≡ 1 + count (get_or l i 0) (drop i l) = rw e at (s.so (get_or l i 0) small) in
      ne_eqb (count (get_or l i 0) whole) 1 (λ once. omega (arith, had, once, count_more (get_or l i 0) l i h, one_if_same (get_or l i 0)))

  -- any other is marked
  pub seen_more : get_or seen (get_or l i 0) false ≡ false → Seen whole (drop (i + 1) l) (set seen (get_or l i 0) true)
  seen_more e =
      let had : count (get_or l i 0) whole ≡ 0 + count (get_or l i 0) (drop i l) = rw e at (s.so (get_or l i 0) small) in
      record {
        room = length-set seen (get_or l i 0) true ∙ s.room;
        so =
            λ t k.
            same_or_not t (get_or l i 0)
            (λ same.
            rw (same, get_or-set_same seen (get_or l i 0) true false (omega (arith, s.room)))
            (omega (arith, had, count_more (get_or l i 0) l i h, one_if_same (get_or l i 0))))
            (λ other.
            rw (get_or-set_other seen (get_or l i 0) t true false other)
            (omega (arith, s.so t k, count_more t l i h, one_if_other (get_or l i 0) t (λ q. other (sym q)))));
      }

-- at the end of a list of the right length each was seen
pub seen_all : (size : ℕ) (whole l : List ℕ) (i : ℕ) (seen : List Bool) → size ≤ 32 → length whole ≡ size →
    all_below size whole ≡ true →
    length l ≤ i → Seen whole (drop i l) seen → every size (λ t. eqb (count t whole) 1) ≡ true
seen_all size whole l i seen small long below end s =
    true_every size (λ t. eqb (count t whole) 1)
    (λ t h. eq-eqb _ _ (each_one size (λ k. count k whole) most (total_count size whole below ∙ long) t h))
  where
    bit_most : (b : Bool) → bit b ≤ 1
    bit_most true = omega arith
    bit_most false = omega arith

    most : (t : ℕ) → t < size → count t whole ≤ 1
    most t h = omega (arith, s.so t (omega arith), count_end t l i end, bit_most (get_or seen t false))
