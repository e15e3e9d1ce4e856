-- The check goes by the paper's sentence on operands. Assumes nothing.
use Prim.Native.Nat.{ℕ, suc, ◌-◌, ◌<◌, ◌≤◌, ◌%◌}
use mathlib.Core.Bool.{Bool, true, false, cond, ◌||◌}
use mathlib.Core.Path.{◌≡◌, refl}
use native.Mathlib.Omega.{arith}
use borrow.Author.Tests.{le-leb, lt-ltb, ltb-false, ltb-true}
use lib.Dec.{eqb, ltb}
use lib.IntN.{ℤ, pos}
use Rattle.opcodes.specs.Page.{Line, minus, page, rule_of}
use Rattle.opcodes.specs.Rules.{allows, is_between}
use Rattle.opcodes.specs.declared.table.Rule.{Rule}
use Rattle.opcodes.specs.declared.table.Rule.TheVariants.{Zero, FromTo, ZeroToNMinus1}
use Rattle.opcodes.proofs.Each.{at_each, each}
use Rattle.opcodes.proofs.Rows.{in_page, last_is}
use Rattle.opcodes.proofs.Same.{same_rule_lem, same_rule}
use Rattle.instruction.specs.Rules.{Fine, BadOpcode, BadOperand}
use Rattle.instruction.specs.Sentence.{BySentence, operands}
use Rattle.instruction.specs.Word.{opcode_of, operand_of, signed24}

-- the sentence's rule of an opcode, by its kind: loadr or storer, alloc, a jump, loadc
abbrev kind_rule : Bool → Bool → Bool → Bool → Rule
kind_rule offset count target any =
    cond offset (FromTo (minus 128) (pos 127))
    (cond count (FromTo (pos 0) (pos 127))
    (cond target ZeroToNMinus1
    (cond any (FromTo (minus 8388608) (pos 8388607))
    Zero)))

abbrev sentence_rule : ℕ → Rule
sentence_rule op = kind_rule (eqb op 4 || eqb op 5) (eqb op 6) (eqb op 20 || eqb op 21) (eqb op 1)

-- the test of a line of the page
abbrev is_said : ℕ → Line → Bool
is_said opcode line = same_rule line.rule (sentence_rule opcode)

all_said : each is_said 0 page ≡ true
unfolding page
all_said = refl

rule_said : (opcode : ℕ) → opcode ≤ 40 → rule_of opcode ≡ sentence_rule opcode
rule_said opcode h = same_rule_lem _ _ (at_each is_said page _ all_said opcode (in_page opcode (omega (arith, h, last_is))))

-- "any of 24 bits" is every operand
any_bits : (b : ℕ) → b < 16777216 → is_between (minus 8388608) (pos 8388607) (signed24 b) ≡ true
any_bits b h = by (ltb b 8388608) refl
  where
    by : (s : Bool) → ltb b 8388608 ≡ s → is_between (minus 8388608) (pos 8388607) (signed24 b) ≡ true
    by true e = rw e (le-leb b 8388607 (omega (arith, ltb-true b 8388608 e)))
    by false e = rw (e, lt-ltb b 16777216 h, le-leb (16777216 - suc b) 8388607 (omega (arith, ltb-false b 8388608 e)))

module _ (last : ℤ) (w : ℕ) where
  abbrev allowed : Rule → Bool
  allowed rule = allows rule last (operand_of w)

  by_kind : (offset count target any : Bool) → allowed (kind_rule offset count target any)
      ≡ cond offset (is_between (minus 128) (pos 127) (operand_of w))
      (cond count (is_between (pos 0) (pos 127) (operand_of w))
      (cond target (is_between (pos 0) last (operand_of w))
      (cond any true
      (is_between (pos 0) (pos 0) (operand_of w)))))
  by_kind true count target any = refl
  by_kind false true target any = refl
  by_kind false false true any = refl
  by_kind false false false true = any_bits (w % 16777216) (omega arith)
  by_kind false false false false = refl

  operand_said : allowed (sentence_rule (opcode_of w)) ≡ operands (opcode_of w) last (operand_of w)
  operand_said =
      let op = opcode_of w in
      by_kind (eqb op 4 || eqb op 5) (eqb op 6) (eqb op 20 || eqb op 21) (eqb op 1)

  said : (b : Bool) → ltb 40 (opcode_of w) ≡ b →
      cond b BadOpcode (cond (allowed (rule_of (opcode_of w))) Fine BadOperand)
      ≡ cond b BadOpcode (cond (operands (opcode_of w) last (operand_of w)) Fine BadOperand)
  said true e = refl
  said false e = rw (rule_said (opcode_of w) (ltb-false 40 (opcode_of w) e), operand_said)

pub by_sentence : BySentence
by_sentence last w = rw last_is (said last w (ltb 40 (opcode_of w)) refl)
