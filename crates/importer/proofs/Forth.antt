-- What is listed is read: the text of a card says its cells and its instructions. Assumes nothing.
use Prim.Native.Nat.{ℕ, suc, ◌+◌, ◌-◌, ◌%◌, ◌^◌, ◌≤◌, ◌<◌}
use mathlib.Core.Bool.{true, false}
use mathlib.Core.List.{List, [], ◌∷◌, ◌++◌}
use Rattle.std.specs.Prelude.{None, Some}
use mathlib.Core.Path.{◌≡◌, refl, ◌∙◌, ap}
use native.Mathlib.Omega.{arith}
use borrow.Author.Tests.{eq-eqb, le-leb, le-ltb, leb-true, lt-ltb}
use lib.Dec.{leb}
use lib.IntN.{ℤ, pos, negsuc}
use lib.ListN.{length}
use Rattle.opcodes.specs.Page.{name_of, page, rule_of}
use Rattle.opcodes.proofs.Rows.{in_page}
use Rattle.opcodes.specs.Rules.{allows, has_operand}
use Rattle.instruction.specs.Rules.{check_of}
use Rattle.instruction.specs.Word.{bits_of, opcode_of, operand_of, signed24}
use Rattle.opcodes.specs.declared.table.Rule.{Rule}
use Rattle.opcodes.specs.declared.table.Rule.TheVariants.{Zero, FromTo, ZeroToNMinus1}
use Rattle.instruction.specs.Rules.{Verdict}
use Rattle.instruction.specs.Rules as verdict
use Rattle.instruction.proofs.Checks.{passed}
use Rattle.card.specs.Code.{first_bad, or_else, scan_of}
use Rattle.card.specs.Code.{Fine}
use Rattle.text.specs.Decimal.{decimal}
use Rattle.machine.proofs.Every.{and_true}
use Rattle.machine.proofs.Lists.{cases, less_or_not}
use Rattle.digits.proofs.Undone.{decimal_read, decimal_written}
use Rattle.opcodes.specs.Ascii.{bytes}
use Rattle.words.specs.Words.{join, lacks, split}
use Rattle.words.proofs.Clash.{impossible}
use Rattle.words.proofs.Cuts.{AllLack, same_self, split_join}
use Rattle.names.proofs.Table.{right as named}
use Rattle.lister.specs.Text.{address_of, cells_word, instruction_line, instruction_lines, operand_words, text_of}
use Rattle.importer.specs.Forms.{Item, card, good, header_read, item_read, line_read, lines_read, right, text_read}
use Rattle.importer.specs.Importing.{first_against, in_bits, item_word, said, words_of}
use Rattle.importer.proofs.Following.{lines_cut}
use Rattle.importer.proofs.Cards.{text_cut}
use Rattle.importer.proofs.Numbers.{decimal_lacks}
use Rattle.importer.proofs.Words.{address_lacks, address_read_lem, address_right, line_first, operand_read_lem, signed_lacks, told}

-- ---- the instructions of a card

abbrev pub item_of : ℕ → Item
item_of w = record { opcode = opcode_of w; operand = operand_of w }

unfoldable pub items_of : List ℕ → List Item
items_of [] = []
items_of (w ∷ ws) = item_of w ∷ items_of ws

-- an instruction that is right
record Right (last : ℤ) (w : ℕ) : Type 0 where
  pub opcode : opcode_of w < length page
  pub rule : allows (rule_of (opcode_of w)) last (operand_of w) ≡ true

right_of : (last : ℤ) (w : ℕ) → check_of last w ≡ verdict.Fine → Right last w
right_of last w e = let p = passed last w e in record { opcode = in_page _ p.0; rule = p.1 }

-- a list whose first and other instructions are right
record All (last : ℤ) (index w : ℕ) (ws : List ℕ) : Type 0 where
  pub first : Right last w
  pub others : first_bad last (suc index) ws ≡ Fine

all_of : (last : ℤ) (index w : ℕ) (ws : List ℕ) → first_bad last index (w ∷ ws) ≡ Fine → All last index w ws
unfolding first_bad
all_of last index w ws e = by (check_of last w) refl e
  where
    by : (v : Verdict) → check_of last w ≡ v → or_else (scan_of v index) (first_bad last (suc index) ws) ≡ Fine →
        All last index w ws
    by verdict.Fine v q = record { first = right_of last w v; others = q }
    by verdict.BadOpcode v q = impossible cc
    by verdict.BadOperand v q = impossible cc

-- ---- an operand of a word is one of 24 bits

record Whole (b : ℕ) : Type 0 where
  pub fits : in_bits (signed24 b) ≡ true
  pub back : bits_of (signed24 b) ≡ b

whole : (b : ℕ) → b < 16777216 → Whole b
whole b h =
    less_or_not b 8388608
    (λ low. let sign = lt-ltb b 8388608 low in record {
      fits = rw sign (le-leb b 8388607 (omega (arith, low)));
      back = rw sign;
    })
    (λ high.
    let sign = le-ltb b 8388608 high in
    let less = lt-ltb b 16777216 h in
    let small : 16777216 - suc b ≤ 8388607 = omega (arith, high) in
    record {
      fits = rw (sign, less, le-leb (16777216 - suc b) 8388607 small);
      back = rw (sign, less) (omega (arith, h));
    })

operand_fits : (w : ℕ) → in_bits (operand_of w) ≡ true
operand_fits w = (whole (w % 16777216) (omega arith)).fits

pub word_again : (w : ℕ) → item_word (item_of w) ≡ w
word_again w = let low = (whole (w % 16777216) (omega arith)).back in rw low (omega arith)

pub words_again : (ws : List ℕ) → words_of (items_of ws) ≡ ws
unfolding items_of words_of
words_again [] = refl
words_again (w ∷ ws) = rw (word_again w, words_again ws)

pub length_items : (ws : List ℕ) → length (items_of ws) ≡ length ws
unfolding items_of
length_items [] = refl
length_items (w ∷ ws) = ap suc (length_items ws)

-- none of them is against its rule
pub none_against : (last : ℤ) (ws : List ℕ) (index : ℕ) → first_bad last index ws ≡ Fine →
    first_against last index (items_of ws) ≡ None
unfolding first_against items_of
none_against last [] index e = refl
none_against last (w ∷ ws) index e =
    let a = all_of last index w ws e in
    rw (operand_fits w, a.first.rule) (none_against last ws (suc index) a.others)

-- ---- a line

-- where there is no operand, it is 0
bare_zero : (rule : Rule) (last k : ℤ) → has_operand rule ≡ false → allows rule last k ≡ true → pos 0 ≡ k
bare_zero (FromTo low high) last k e h = impossible cc
bare_zero ZeroToNMinus1 last k e h = impossible cc
bare_zero Zero last (pos n) e h = ap pos (omega (arith, leb-true n 0 (and_true (leb 0 n) (leb n 0) h).1))
bare_zero Zero last (negsuc n) e h = impossible cc

module _ (last : ℤ) (w : ℕ) (r : Right last w) where
  item_read_lem : item_read (name_of (opcode_of w) ∷ operand_words w) ≡ Some (item_of w)
  unfolding item_read
  item_read_lem =
      let known = (named (opcode_of w) r.opcode).found in
      cases (has_operand (rule_of (opcode_of w)))
      (λ has. rw (has, known, operand_read_lem (operand_of w) (told (operand_of w) (operand_fits w)), has))
      (λ has. rw (has, known, has)
      (ap (λ (k : ℤ). Some (record { opcode = opcode_of w; operand = k }))
      (bare_zero (rule_of (opcode_of w)) last (operand_of w) has r.rule)))

  line_read_lem : (index : ℕ) → index < 10000 →
      line_read (address_of index ∷ name_of (opcode_of w) ∷ operand_words w) ≡ right index (item_of w)
  unfolding line_read
  line_read_lem index h = rw (address_right index, item_read_lem, address_read_lem index h)

  words_lack : (sep index : ℕ) → sep < 45 → lacks sep (name_of (opcode_of w)) ≡ true →
      AllLack sep (address_of index ∷ name_of (opcode_of w) ∷ operand_words w)
  words_lack sep index h n =
      cases (has_operand (rule_of (opcode_of w)))
      (λ has. rw has (
        address_lacks sep index (omega (arith, h)),
        (n, (signed_lacks sep (operand_of w) h (told (operand_of w) (operand_fits w)), tt)),
      ))
      (λ has. rw has (address_lacks sep index (omega (arith, h)), (n, tt)))

  line_words : (index : ℕ) → split 32 (join 32 (address_of index ∷ name_of (opcode_of w) ∷ operand_words w))
      ≡ address_of index ∷ name_of (opcode_of w) ∷ operand_words w
  line_words index = split_join 32 (address_of index) (name_of (opcode_of w) ∷ operand_words w)
      (words_lack 32 index (omega arith) (named (opcode_of w) r.opcode).no_space)

  line_alone : (index : ℕ) (rest : List ℕ) →
      split 10 (instruction_line index w ++ rest)
      ≡ join 32 (address_of index ∷ name_of (opcode_of w) ∷ operand_words w) ∷ split 10 rest
  line_alone index rest = line_first (address_of index) (name_of (opcode_of w) ∷ operand_words w) rest
      (words_lack 10 index (omega arith) (named (opcode_of w) r.opcode).no_feed)

-- ---- all lines

pub lines_read_lem : (last : ℤ) (ws : List ℕ) (index place : ℕ) → index + length ws ≤ 10000 →
    first_bad last index ws ≡ Fine → lines_read index place (split 10 (instruction_lines index ws)) ≡ good (items_of ws)
unfolding instruction_lines items_of lines_read split
lines_read_lem last [] index place h e = refl
lines_read_lem last (w ∷ ws) index place h e =
    let a = all_of last index w ws e in
    let text = join 32 (address_of index ∷ name_of (opcode_of w) ∷ operand_words w) in
    let words = line_words last w a.first index in
    let read = line_read_lem last w a.first index (omega (arith, h)) in
    let rest = lines_read_lem last ws (suc index) (place + suc (length text)) (omega (arith, h)) a.others in
    ap (lines_read index place) (line_alone last w a.first index (instruction_lines (suc index) ws))
    ∙ lines_cut index place text (instruction_lines (suc index) ws)
    ∙ rw (words, read, eq-eqb index index refl, rest)

-- ---- the header, and the whole text

header_read_lem : (g : ℕ) → g < 10 ^ 20 → header_read (split 32 (join 32 (cells_word ∷ decimal g ∷ []))) ≡ Some g
unfolding bytes header_read lacks
header_read_lem g h =
    let words = split_join 32 cells_word (decimal g ∷ [])
    (refl, (decimal_lacks 32 (decimal g) (omega arith) (decimal_written g h), tt)) in
    rw (words, same_self cells_word, decimal_written g h, decimal_read g h)

pub text_says : (last : ℤ) (g : ℕ) (ws : List ℕ) → g < 10 ^ 20 → length ws ≤ 10000 → first_bad last 0 ws ≡ Fine →
    said (text_of g ws) ≡ card g (items_of ws)
unfolding bytes lacks
text_says last g ws h many e =
    let words = cells_word ∷ decimal g ∷ [] in
    let cut = line_first cells_word (decimal g ∷ []) (instruction_lines 0 ws)
    (refl, (decimal_lacks 10 (decimal g) (omega arith) (decimal_written g h), tt)) in
    let rest = lines_read_lem last ws 0 (suc (length (join 32 words))) (omega (arith, many)) e in
    ap text_read cut ∙ text_cut (join 32 words) (instruction_lines 0 ws) ∙ rw (header_read_lem g h, rest)
