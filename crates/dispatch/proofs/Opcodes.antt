-- Opcodes that the dispatcher's matches leave. Assumes nothing.
use Prim.Native.Nat.{ℕ, ◌<◌, ◌≤◌}
use mathlib.Core.Logic.{◌⊎◌, inl, inr, ◌≢◌}
use mathlib.Core.Path.{◌≡◌}
use native.Mathlib.Omega.{arith}
use Rattle.opcodes.specs.Page.{last_opcode}
use Rattle.opcodes.proofs.Rows.{last_is}
use Rattle.local.proofs.Opcodes.{NoneOf, from_none}
use Rattle.dispatch.specs.Contract.{Others, Own}

-- of an accepted card's opcodes, those from loadc to call but alloc, ..
pub own : (op : ℕ) → Others op → op ≤ last_opcode →
    NoneOf (NoneOf (NoneOf (NoneOf (NoneOf Unit 0 1 op) 6 1 op) 24 3 op) 28 4 op) 34 7 op → Own op
own op others most h =
    let last = from_none _ 34 7 op h in
    let middle = from_none _ 28 4 op last.0 in
    let first = from_none _ 24 3 op middle.0 in
    let rest = first.0 in
    record { least = omega (arith, rest.0.1); most = by_opcode last.1 middle.1 first.1; other = rest.1 }
  where
    by_opcode : (op < 34) ⊎ (41 ≤ op) → (op < 28) ⊎ (32 ≤ op) → (op < 24) ⊎ (27 ≤ op) → op ≤ 23
    by_opcode (inr e) d b = absurd (omega (arith, e, most, last_is))
    by_opcode (inl e) (inr d) b =
        let last : op ≢ 33 = λ f. others (inr (inr f)) in
        absurd (others (inr (inl (omega (arith, e, d, last)))))
    by_opcode (inl e) (inl d) (inr b) = absurd (others (inl (omega (arith, d, b))))
    by_opcode (inl e) (inl d) (inl b) = omega (arith, b)

-- .. and of these call
pub call_left : (op : ℕ) → Own op → NoneOf (NoneOf Unit 1 5 op) 7 16 op → op ≡ 23
call_left op own h =
    let last = from_none _ 7 16 op h in
    by_opcode last.1 (from_none _ 1 5 op last.0).1
  where
    by_opcode : (op < 7) ⊎ (23 ≤ op) → (op < 1) ⊎ (6 ≤ op) → op ≡ 23
    by_opcode (inr e) d = omega (arith, e, own.most)
    by_opcode (inl e) (inl d) = absurd (omega (arith, d, own.least))
    by_opcode (inl e) (inr d) = absurd (own.other (omega (arith, e, d)))
