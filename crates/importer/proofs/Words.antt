-- Laws of single words, read after they were written and written after they were read: operands, addresses, lines.
-- Assumes nothing.
use Prim.Native.Nat.{ℕ, suc, ◌-◌, ◌^◌, ◌≤◌, ◌<◌}
use mathlib.Core.Bool.{Bool, true, false, cond, not, ◌&&◌}
use mathlib.Core.List.{List, [], ◌∷◌, ◌++◌, append_assoc}
use mathlib.Core.Logic.{◌≢◌}
use Rattle.std.specs.Prelude.{None, Some}
use mathlib.Core.Path.{◌≡◌, refl, sym, ◌∙◌, ap}
use native.Mathlib.Omega.{arith}
use borrow.Author.Tests.{eqb-false, eqb-true, leb-true, ne_eqb, not-true}
use lib.Dec.{eqb, leb}
use lib.IntN.{ℤ, pos, negsuc}
use lib.ListN.{get_or, length}
use lib.Seq.{append_snoc}
use Rattle.text.specs.Decimal.{decimal, signed}
use Rattle.text.specs.Lines.{line}
use Rattle.machine.proofs.Every.{and_true}
use Rattle.digits.specs.Reading.{all_digits, is_decimal, is_digit, value_of}
use Rattle.digits.proofs.Undone.{all_of, decimal_read, decimal_written, digit, digits_after, digits_all, digits_read, reads_back}
use Rattle.words.specs.Words.{join, lacks, split}
use Rattle.words.proofs.Clash.{impossible}
use Rattle.words.proofs.Cuts.{AllLack, lacks_join, part_first}
use Rattle.lister.specs.Text.{address_of}
use Rattle.importer.specs.Forms.{is_address, minus_read, operand_read, plain_read}
use Rattle.importer.specs.Importing.{in_bits}
use Rattle.importer.proofs.Numbers.{decimal_lacks, digits_lack, first_other}

-- ---- operands

-- a number begins with a digit
record Begins (word : List ℕ) : Type 0 where
  pub some_byte : 1 ≤ length word
  pub no_minus : get_or word 0 0 ≢ 45

begins : (word : List ℕ) → is_decimal word ≡ true → Begins word
unfolding all_digits is_decimal
begins [] e = impossible cc
begins (b ∷ rest) e =
    let first = (and_true (is_digit b) (all_digits rest) (all_of (b ∷ rest) e)).0 in
    record { some_byte = omega arith; no_minus = λ minus. omega (arith, minus, (digit b first).least) }

-- how large an operand is, so that its text can be told
abbrev Told : ℤ → Type 0
Told (pos n) = n < 10 ^ 20
Told (negsuc n) = suc n < 10 ^ 20

pub told : (k : ℤ) → in_bits k ≡ true → Told k
told (pos n) e = omega (arith, leb-true n 8388607 e)
told (negsuc n) e = omega (arith, leb-true n 8388607 (and_true (leb n 8388607) true e).0)

-- what was written is read
pub operand_read_lem : (k : ℤ) → Told k → operand_read (signed k) ≡ Some k
unfolding operand_read
operand_read_lem (pos n) h =
    let right = decimal_written n h in
    let b = begins (decimal n) right in
    sym (first_other (decimal n) b.some_byte b.no_minus) ∙ rw (right, decimal_read n h)
operand_read_lem (negsuc n) h =
    rw (decimal_written (suc n) h, decimal_read (suc n) h, ne_eqb (suc n) 0 (λ e. omega (arith, e)))
    (ap (λ (m : ℕ). Some (negsuc m)) (omega arith))

-- what was read is written
pub operand_back : (word : List ℕ) (k : ℤ) → operand_read word ≡ Some k → Told k → signed k ≡ word
unfolding operand_read
operand_back [] k e h = impossible cc
operand_back (b ∷ rest) k e h = by (eqb b 45) refl e
  where
    plain : (t : Bool) → is_decimal (b ∷ rest) ≡ t → cond t (Some (pos (value_of (b ∷ rest)))) None ≡ Some k →
        signed k ≡ b ∷ rest
    plain true t q =
        let same : pos (value_of (b ∷ rest)) ≡ k = cc in
        let small : value_of (b ∷ rest) < 10 ^ 20 = rw (← same) at h in
        ap signed (sym same) ∙ reads_back (b ∷ rest) t small
    plain false t q = impossible cc

    minus : (t : Bool) → (is_decimal rest && not (eqb (value_of rest) 0)) ≡ t → b ≡ 45 →
        cond t (Some (negsuc (value_of rest - 1))) None ≡ Some k → signed k ≡ b ∷ rest
    minus true t first q =
        let both = and_true (is_decimal rest) (not (eqb (value_of rest) 0)) t in
        let least = eqb-false (value_of rest) 0 (not-true (eqb (value_of rest) 0) both.1) in
        let same : negsuc (value_of rest - 1) ≡ k = cc in
        let size : suc (value_of rest - 1) ≡ value_of rest = omega (arith, least) in
        let small : suc (value_of rest - 1) < 10 ^ 20 = rw (← same) at h in
        ap signed (sym same) ∙ rw first
        (ap (λ (l : List ℕ). 45 ∷ l) (ap decimal size ∙ reads_back rest both.0 (rw size at small)))
    minus false t first q = impossible cc

    by : (t : Bool) → eqb b 45 ≡ t → cond t (minus_read rest) (plain_read (b ∷ rest)) ≡ Some k → signed k ≡ b ∷ rest
    by true t q = minus (is_decimal rest && not (eqb (value_of rest) 0)) refl (eqb-true b 45 t) q
    by false t q = plain (is_decimal (b ∷ rest)) refl q

-- an operand has no separator
pub signed_lacks : (sep : ℕ) (k : ℤ) → sep < 45 → Told k → lacks sep (signed k) ≡ true
unfolding lacks
signed_lacks sep (pos n) h t = decimal_lacks sep (decimal n) (omega (arith, h)) (decimal_written n t)
signed_lacks sep (negsuc n) h t =
    rw (ne_eqb 45 sep (λ e. omega (arith, e, h)))
    (decimal_lacks sep (decimal (suc n)) (omega (arith, h)) (decimal_written (suc n) t))

-- ---- addresses

pub address_right : (index : ℕ) → is_address (address_of index) ≡ true
address_right index = digits_all 4 index

pub address_read_lem : (index : ℕ) → index < 10000 → value_of (address_of index) ≡ index
address_read_lem index h = digits_read 4 index (omega (arith, h))

pub address_lacks : (sep index : ℕ) → sep < 48 → lacks sep (address_of index) ≡ true
address_lacks sep index h = digits_lack sep (address_of index) h (digits_all 4 index)

pub address_back : (word : List ℕ) → is_address word ≡ true → address_of (value_of word) ≡ word
address_back word e =
    let both = and_true (eqb (length word) 4) (all_digits word) e in
    digits_after 0 0 word 4 (omega (arith, eqb-true (length word) 4 both.0)) both.1

-- ---- lines

-- a line is its words with a space between them, and a line feed
pub line_is : (word : List ℕ) (others : List (List ℕ)) → line word others ≡ join 32 (word ∷ others) ++ 10 ∷ []
unfolding join line
line_is word [] = refl
line_is word (next ∷ others) = ap (λ (l : List ℕ). word ++ 32 ∷ l) (line_is next others)
    ∙ sym (append_assoc word (32 ∷ join 32 (next ∷ others)) (10 ∷ []))

-- what follows a line
pub line_then : (word : List ℕ) (others : List (List ℕ)) (rest : List ℕ) →
    line word others ++ rest ≡ join 32 (word ∷ others) ++ 10 ∷ rest
line_then word others rest = ap (λ (l : List ℕ). l ++ rest) (line_is word others)
    ∙ append_snoc (join 32 (word ∷ others)) 10 rest

-- the first line is cut off at its line feed
pub line_first : (word : List ℕ) (others : List (List ℕ)) (rest : List ℕ) → AllLack 10 (word ∷ others) →
    split 10 (line word others ++ rest) ≡ join 32 (word ∷ others) ∷ split 10 rest
line_first word others rest h = ap (split 10) (line_then word others rest)
    ∙ part_first 10 (join 32 (word ∷ others)) rest (lacks_join 32 10 word others refl h)
