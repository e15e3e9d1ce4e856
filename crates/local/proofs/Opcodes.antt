-- Opcodes that a match leaves, and operands that are numbers. Assumes nothing.
use Prim.Native.Nat.{ℕ, zero, suc, ◌+◌, ◌<◌, ◌≤◌}
use mathlib.Core.Bool.{true}
use mathlib.Core.Logic.{◌⊎◌, inl, inr, ◌≢◌}
use mathlib.Core.Path.{◌≡◌}
use native.Mathlib.Omega.{arith}
use lib.Dec.{T}
use lib.IntN.{ℤ, pos, negsuc}
use lib.Signed.{le_z, non_neg}
use Rattle.machine.proofs.Lists.{less_or_not}

-- with P, an opcode that is none of the k from one on ..
abbrev pub NoneOf : Type 0 → ℕ → ℕ → ℕ → Type 0
NoneOf P from zero op = P
NoneOf P from (suc k) op = NoneOf P from k op × (op ≢ from + k)

-- .. is below them or past them
pub from_none : (P : Type 0) (from k op : ℕ) → NoneOf P from k op → P × ((op < from) ⊎ (from + k ≤ op))
from_none P from zero op h = (h, less_or_not op from (λ e. inl e) (λ e. inr (omega arith)))
from_none P from (suc k) op h = ((from_none P from k op h.0).0, on (from_none P from k op h.0).1)
  where
    on : (op < from) ⊎ (from + k ≤ op) → (op < from) ⊎ (from + suc k ≤ op)
    on (inl e) = inl e
    on (inr e) = inr (omega (arith, e, h.1))

-- an operand that is not negative
pub not_negative : (k : ℤ) → le_z (pos 0) k ≡ true → T (non_neg k)
not_negative (pos a) e = tt
not_negative (negsuc a) e = absurd (let z : ◌≡◌ {A = ℕ} 0 1 = cc in omega arith)
