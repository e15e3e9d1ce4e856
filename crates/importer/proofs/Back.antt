-- What is read is listed: a text that says a card is the text of that card. Assumes nothing.
use Prim.Native.Nat.{ℕ, suc, ◌+◌, ◌^◌, ◌<◌}
use mathlib.Core.Bool.{Bool, true, false, cond, ◌&&◌}
use mathlib.Core.List.{List, [], ◌∷◌, ◌++◌}
use Rattle.std.specs.Prelude.{Option, None, Some}
use mathlib.Core.Path.{◌≡◌, refl, sym, ◌∙◌, ap}
use lib.IntN.{ℤ}
use lib.ListN.{length}
use lib.Seq.{append_snoc}
use Rattle.opcodes.specs.Page.{name_of, page, rule_of}
use Rattle.opcodes.specs.Rules.{allows, has_operand}
use Rattle.instruction.specs.Word.{opcode_of}
use Rattle.text.specs.Decimal.{decimal, signed}
use Rattle.machine.proofs.Every.{and_true}
use Rattle.digits.specs.Reading.{is_decimal, value_of}
use Rattle.digits.proofs.Undone.{reads_back}
use Rattle.opcodes.specs.Ascii.{same}
use Rattle.words.specs.Words.{join, split}
use Rattle.words.proofs.Clash.{impossible}
use Rattle.opcodes.proofs.Same.{same_is}
use Rattle.words.proofs.Cuts.{join_split}
use Rattle.names.proofs.Table.{named_is}
use Rattle.lister.specs.Text.{address_of, cells_word, header_line, instruction_line, instruction_lines, operand_words, text_of}
use Rattle.importer.specs.Forms.{Item, Lines, bad, card, good, headed, header_read, item_read, last_read, line_read, lines_read, right, text_read}
use Rattle.importer.specs.Importing.{first_against, in_bits, item_word, said, words_of}
use Rattle.importer.proofs.Judged.{AllNamed, Operands, first_of, lines_named, spells, spelt, word}
use Rattle.importer.proofs.Words.{address_back, line_is, operand_back, told}

-- ---- an instruction's words

-- the words behind an address are those of the instruction
abbrev Written : List (List ℕ) → Item → Type 0
Written words item = words ≡ name_of item.opcode ∷ cond (has_operand (rule_of item.opcode))
    (signed item.operand ∷ []) []

operands_back : (others : List (List ℕ)) (item : Item) → in_bits item.operand ≡ true → Operands others item →
    others ≡ cond (has_operand (rule_of item.opcode)) (signed item.operand ∷ []) []
operands_back [] item fits h = rw h
operands_back (k ∷ []) item fits h = rw (h.0, operand_back k item.operand h.1 (told item.operand fits))
operands_back (k ∷ l ∷ more) item fits h = absurd h

item_back : (words : List (List ℕ)) (item : Item) → in_bits item.operand ≡ true → item_read words ≡ Some item →
    Written words item
item_back words item fits e =
    let s = spelt words item e in
    s.are ∙ rw (named_is s.name item.opcode s.known).1
    (ap (λ (rest : List (List ℕ)). s.name ∷ rest) (operands_back s.others item fits s.follow))

-- ---- a line

line_back : (l : List ℕ) (index : ℕ) (item : Item) → item.opcode < length page → in_bits item.operand ≡ true →
    line_read (split 32 l) ≡ right index item → l ++ 10 ∷ [] ≡ instruction_line index (item_word item)
line_back l index item h fits e =
    let s = spells (split 32 l) index item e in
    let w = word item h fits in
    let address : address_of index ≡ s.first = ap address_of (sym s.number) ∙ address_back s.first s.four in
    let written = item_back s.others item fits s.spelled in
    let words : join 32 (s.first ∷ s.others) ≡ l = ap (join 32) (sym s.are) ∙ join_split 32 l in
    sym
    (line_is (address_of index) (name_of (opcode_of (item_word item)) ∷ operand_words (item_word item))
    ∙ rw (w.opcode, w.operand, address, ← written, words))

-- ---- all lines

pub record Allowed (last : ℤ) (index : ℕ) (item : Item) (items : List Item) : Type 0 where
  pub fits : in_bits item.operand ≡ true
  pub others : first_against last (suc index) items ≡ None

pub allowed : (last : ℤ) (index : ℕ) (item : Item) (items : List Item) →
    first_against last index (item ∷ items) ≡ None →
    Allowed last index item items
unfolding first_against
allowed last index item items e = by (in_bits item.operand) refl (allows (rule_of item.opcode) last item.operand) e
  where
    by : (t : Bool) → in_bits item.operand ≡ t → (u : Bool) →
        cond (t && u) (first_against last (suc index) items) (Some index) ≡ None → Allowed last index item items
    by true t true q = record { fits = t; others = q }
    by true t false q = impossible cc
    by false t u q = impossible cc

last_back : (last : List ℕ) (index place : ℕ) (items : List Item) → last_read last place ≡ good items →
    last ≡ instruction_lines index (words_of items)
unfolding instruction_lines words_of
last_back [] index place items e = let same : [] ≡ items = cc in rw (← same)
last_back (b ∷ rest) index place items e = impossible cc

pub lines_back : (last : ℤ) (ls : List (List ℕ)) (index place : ℕ) (items : List Item) → AllNamed items →
    first_against last index items ≡ None → lines_read index place ls ≡ good items →
    join 10 ls ≡ instruction_lines index (words_of items)
unfolding instruction_lines join lines_read words_of
lines_back last [] index place items named rules e = let same : [] ≡ items = cc in rw (← same)
lines_back last (l ∷ []) index place items named rules e = last_back l index place items e
lines_back last (l ∷ m ∷ more) index place items named rules e =
    let f = first_of index place (line_read (split 32 l))
    (lines_read (suc index) (place + suc (length l)) (m ∷ more)) items e in
    let known : AllNamed (f.item ∷ f.others) = rw f.are at named in
    let a = allowed last index f.item f.others (rw f.are at rules) in
    let here = line_back l index f.item known.0 a.fits f.line in
    let rest = lines_back last (m ∷ more) (suc index) (place + suc (length l)) f.others known.1 a.others f.follow in
    sym (append_snoc l 10 (join 10 (m ∷ more)))
    ∙ ap (λ (first : List ℕ). first ++ join 10 (m ∷ more)) here
    ∙ ap (λ (others : List ℕ). instruction_line index (item_word f.item) ++ others) rest
    ∙ ap (λ (all : List Item). instruction_lines index (words_of all)) (sym f.are)

-- ---- the header, and the whole text

cells_back : (l : List ℕ) (g : ℕ) → g < 10 ^ 20 → header_read (split 32 l) ≡ Some g → l ++ 10 ∷ [] ≡ header_line g
unfolding header_read
cells_back l g h e = by (split 32 l) refl e
  where
    by : (words : List (List ℕ)) → split 32 l ≡ words → header_read words ≡ Some g → l ++ 10 ∷ [] ≡ header_line g
    by [] p q = impossible cc
    by (first ∷ []) p q = impossible cc
    by (first ∷ number ∷ []) p q = right_header (same first cells_word && is_decimal number) refl q
      where
        right_header : (t : Bool) → (same first cells_word && is_decimal number) ≡ t →
            cond t (Some (value_of number)) None ≡ Some g → l ++ 10 ∷ [] ≡ header_line g
        right_header true t r =
            let both = and_true (same first cells_word) (is_decimal number) t in
            let value : value_of number ≡ g = cc in
            let text : decimal g ≡ number = ap decimal (sym value) ∙ reads_back number both.1 (rw value h) in
            let words : join 32 (first ∷ number ∷ []) ≡ l = ap (join 32) (sym p) ∙ join_split 32 l in
            sym (line_is cells_word (decimal g ∷ []) ∙ rw (← (same_is first cells_word both.0), text, words))
        right_header false t r = impossible cc
    by (first ∷ number ∷ other ∷ more) p q = impossible cc

-- a text that says a card, by its header
record Says (g : ℕ) (items : List Item) (ls : List (List ℕ)) : Type 0 where
  pub first : List ℕ
  pub next : List ℕ
  pub others : List (List ℕ)
  pub are : ls ≡ first ∷ next ∷ others
  pub cells : header_read (split 32 first) ≡ Some g
  pub rest : lines_read 0 (suc (length first)) (next ∷ others) ≡ good items

says : (g : ℕ) (items : List Item) (ls : List (List ℕ)) → text_read ls ≡ card g items → Says g items ls
unfolding text_read
says g items [] e = impossible cc
says g items (l ∷ []) e = impossible cc
says g items (l ∷ m ∷ more) e = by (header_read (split 32 l)) refl (lines_read 0 (suc (length l)) (m ∷ more)) refl e
  where
    by : (o : Option ℕ) → header_read (split 32 l) ≡ o → (r : Lines) → lines_read 0 (suc (length l)) (m ∷ more) ≡ r →
        headed o r ≡ card g items → Says g items (l ∷ m ∷ more)
    by None p r t q = impossible cc
    by (Some cells) p (bad number place) t q = impossible cc
    by (Some cells) p (good found) t q =
        let number : cells ≡ g = cc in
        let list : found ≡ items = cc in
        record { first = l; next = m; others = more; are = refl; cells = p ∙ ap Some number; rest = t ∙ ap good list }

pub text_back : (last : ℤ) (text : List ℕ) (g : ℕ) (items : List Item) → g < 10 ^ 20 → AllNamed items →
    first_against last 0 items ≡ None → said text ≡ card g items → text ≡ text_of g (words_of items)
unfolding join
text_back last text g items h named rules e =
    let s = says g items (split 10 text) e in
    let header = cells_back s.first g h s.cells in
    let rest = lines_back last (s.next ∷ s.others) 0 (suc (length s.first)) items named rules s.rest in
    sym (join_split 10 text) ∙ ap (join 10) s.are
    ∙ sym (append_snoc s.first 10 (join 10 (s.next ∷ s.others)))
    ∙ rw (header, rest)

-- and every instruction of it has a name
pub said_named : (text : List ℕ) (g : ℕ) (items : List Item) → said text ≡ card g items → AllNamed items
said_named text g items e =
    let s = says g items (split 10 text) e in
    lines_named (s.next ∷ s.others) 0 (suc (length s.first)) items s.rest
