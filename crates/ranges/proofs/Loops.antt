-- What one turn of a loop adds. Assumes nothing.
use Prim.Native.Nat.{ℕ, ◌+◌, ◌≤◌, ◌<◌}
use mathlib.Core.Path.{◌≡◌}
use mathlib.Core.Bool.{true, false}
use mathlib.Core.List.{List}
use native.Mathlib.Numerals.{add-one}
use borrow.Author.Tests.{lt-ltb, le-ltb}
use lib.ListN.{length, get_or, drop, drop_of_length-le}
use lib.Seq.{drop-cons}
use Rattle.machine.specs.Lists.{count}
use Rattle.machine.specs.WellFormed.{all_below}
use Rattle.machine.proofs.Lists.{one_if}

module _ (bound : ℕ) (l : List ℕ) (i : ℕ) where
  -- a number below the bound is passed
  pub below_more : i < length l → get_or l i 0 < bound → all_below bound (drop i l) ≡ all_below bound (drop (i + 1) l)
  unfolding all_below
  below_more h k = rw (add-one, drop-cons l i 0 h, lt-ltb (get_or l i 0) bound k)

  -- any other ends the search
  pub below_not : i < length l → bound ≤ get_or l i 0 → all_below bound (drop i l) ≡ false
  unfolding all_below
  below_not h k = rw (drop-cons l i 0 h, le-ltb (get_or l i 0) bound k)

  pub below_end : length l ≤ i → all_below bound (drop i l) ≡ true
  unfolding all_below
  below_end h = rw (drop_of_length-le l h)

module _ (t : ℕ) (l : List ℕ) (i : ℕ) where
  pub count_more : i < length l → count t (drop i l) ≡ one_if (get_or l i 0) t + count t (drop (i + 1) l)
  unfolding count
  count_more h = rw (add-one, drop-cons l i 0 h)

  pub count_end : length l ≤ i → count t (drop i l) ≡ 0
  unfolding count
  count_end h = rw (drop_of_length-le l h)
