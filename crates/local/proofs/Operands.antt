-- What the page says of an operand that is a number of cells or a target. Assumes nothing.
use Prim.Native.Nat.{ℕ, ◌<◌, ◌≤◌}
use mathlib.Core.Bool.{true}
use mathlib.Core.Path.{◌≡◌}
use native.Mathlib.Omega.{arith}
use lib.IntN.{ℤ, nat_abs, negsuc, pos}
use lib.Signed.{le_z}
use borrow.Author.Tests.{leb-true}
use Rattle.opcodes.specs.Page.{page}
use Rattle.opcodes.specs.Rules.{is_between}
use Rattle.card.specs.Image.{last_of}
use Rattle.machine.proofs.Every.{and_first, and_second, never}
use Rattle.machine.proofs.Lists.{same_or_not}
use Rattle.machine.proofs.Targets.{in_card}
use Rattle.local.specs.Contract.{Natural, Permitted}

at_most : (high : ℕ) (k : ℤ) → is_between (pos 0) (pos high) k ≡ true → nat_abs k ≤ high
at_most high (pos a) e = leb-true a high (and_second (le_z (pos 0) (pos a)) _ e)
at_most high (negsuc a) e = never e

module _ (n op : ℕ) (k : ℤ) (h : Permitted n op k) where
  -- alloc's is not negative, and no more than a stack has
  pub cells_natural : op ≡ 6 → Natural k
  unfolding page
  cells_natural is = and_first (le_z (pos 0) k) _ (rw is at h.allowed)

  pub cells_few : op ≡ 6 → nat_abs k ≤ 128
  unfolding page
  cells_few is = omega (arith, at_most 127 k (rw is at h.allowed))

  -- a jump's is not negative, and an instruction of the card
  target : 20 ≤ op → op ≤ 21 → is_between (pos 0) (last_of n) k ≡ true
  unfolding page
  target low high =
      same_or_not op 20 (λ i. rw i at h.allowed) (λ i. let j : op ≡ 21 = omega (arith, low, high, i) in rw j at h.allowed)

  pub target_natural : 20 ≤ op → op ≤ 21 → Natural k
  target_natural low high = and_first (le_z (pos 0) k) _ (target low high)

  pub target_below : 20 ≤ op → op ≤ 21 → nat_abs k < n
  target_below low high = in_card n k (target low high)
