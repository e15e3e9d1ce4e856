-- Equality of numbers, names, rules and entries as tests. Assumes nothing.
use mathlib.Core.Bool.{Bool, true, false, ◌&&◌}
use mathlib.Core.List.{List, [], ◌∷◌}
use mathlib.Core.Path.{◌≡◌, refl, ap, ap₂}
use Prim.Native.Nat.{ℕ}
use borrow.Author.Tests.{eqb-true}
use lib.Dec.{eqb}
use lib.IntN.{ℤ, pos, negsuc}
use Rattle.opcodes.specs.Ascii.{same}
use Rattle.opcodes.specs.declared.table.Entry.{Entry}
use Rattle.opcodes.specs.declared.table.Rule.{Rule}
use Rattle.opcodes.specs.declared.table.Rule.TheVariants.{Zero, FromTo, ZeroToNMinus1}
use Rattle.opcodes.proofs.Each.{and_true, never}

abbrev pub same_z : ℤ → ℤ → Bool
same_z (pos a) (pos b) = eqb a b
same_z (negsuc a) (negsuc b) = eqb a b
same_z (pos a) (negsuc b) = false
same_z (negsuc a) (pos b) = false

pub same_z_lem : (a b : ℤ) → same_z a b ≡ true → a ≡ b
same_z_lem (pos a) (pos b) e = ap pos (eqb-true a b e)
same_z_lem (negsuc a) (negsuc b) e = ap negsuc (eqb-true a b e)
same_z_lem (pos a) (negsuc b) e = never e
same_z_lem (negsuc a) (pos b) e = never e

pub same_is : (xs ys : List ℕ) → same xs ys ≡ true → xs ≡ ys
unfolding same
same_is [] [] e = refl
same_is [] (y ∷ ys) e = never e
same_is (x ∷ xs) [] e = never e
same_is (x ∷ xs) (y ∷ ys) e =
    let p = and_true (eqb x y) (same xs ys) e in
    ap₂ ◌∷◌ (eqb-true x y p.0) (same_is xs ys p.1)

abbrev pub same_rule : Rule → Rule → Bool
same_rule Zero Zero = true
same_rule Zero (FromTo low high) = false
same_rule Zero ZeroToNMinus1 = false
same_rule (FromTo low high) Zero = false
same_rule (FromTo low high) (FromTo least most) = same_z low least && same_z high most
same_rule (FromTo low high) ZeroToNMinus1 = false
same_rule ZeroToNMinus1 Zero = false
same_rule ZeroToNMinus1 (FromTo low high) = false
same_rule ZeroToNMinus1 ZeroToNMinus1 = true

pub same_rule_lem : (r s : Rule) → same_rule r s ≡ true → r ≡ s
same_rule_lem Zero Zero e = refl
same_rule_lem Zero (FromTo low high) e = never e
same_rule_lem Zero ZeroToNMinus1 e = never e
same_rule_lem (FromTo low high) Zero e = never e
same_rule_lem (FromTo low high) (FromTo least most) e =
    let p = and_true (same_z low least) (same_z high most) e in
    ap₂ FromTo (same_z_lem low least p.0) (same_z_lem high most p.1)
same_rule_lem (FromTo low high) ZeroToNMinus1 e = never e
same_rule_lem ZeroToNMinus1 Zero e = never e
same_rule_lem ZeroToNMinus1 (FromTo low high) e = never e
same_rule_lem ZeroToNMinus1 ZeroToNMinus1 e = refl

abbrev pub same_entry : Entry → Entry → Bool
same_entry a b = eqb a.number b.number && (same a.name b.name && same_rule a.rule b.rule)

pub same_entry_lem : (a b : Entry) → same_entry a b ≡ true → a ≡ b
same_entry_lem a b e =
    let p = and_true (eqb a.number b.number) (same a.name b.name && same_rule a.rule b.rule) e in
    let q = and_true (same a.name b.name) (same_rule a.rule b.rule) p.1 in
    let number = eqb-true a.number b.number p.0 in
    let name = same_is a.name b.name q.0 in
    let rule = same_rule_lem a.rule b.rule q.1 in
    λ i. record { number = number i; name = name i; rule = rule i }
