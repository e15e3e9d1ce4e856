-- Laws of the rules that instructions from a text are judged by: the writer's search over their words finds the same.
-- Assumes nothing.
use Prim.Native.Nat.{ℕ, suc, ◌+◌, ◌-◌, ◌*◌, ◌%◌, ◌<◌}
use mathlib.Core.Bool.{Bool, true, false, cond, ◌&&◌}
use mathlib.Core.List.{List, [], ◌∷◌}
use Rattle.std.specs.Prelude.{Option, None, Some}
use mathlib.Core.Path.{◌≡◌, refl, ◌∙◌, ap}
use native.Mathlib.Omega.{arith}
use borrow.Author.Tests.{eqb-true, le-ltb, leb-true, lt-ltb}
use lib.Dec.{eqb, leb, ltb}
use lib.IntN.{ℤ, pos, negsuc}
use lib.ListN.{length}
use Rattle.opcodes.specs.Page.{last_opcode, page, rule_of}
use Rattle.opcodes.proofs.Rows.{all_lines, to_last}
use Rattle.opcodes.specs.Rules.{allows, has_operand}
use Rattle.instruction.specs.Rules.{check_of}
use Rattle.instruction.specs.Word.{bits_of, opcode_of, operand_of, signed24}
use Rattle.instruction.specs.Rules as verdict
use Rattle.card.specs.Code.{first_bad, or_else, scan_of}
use Rattle.card.specs.Code.{Scan, Fine, Bad}
use Rattle.machine.proofs.Every.{and_true}
use Rattle.digits.specs.Reading.{value_of}
use Rattle.words.specs.Words.{split}
use Rattle.words.proofs.Clash.{impossible}
use Rattle.names.specs.Names.{opcode_named}
use Rattle.names.proofs.Table.{named_is}
use Rattle.importer.specs.Coding.{coded, coded_items}
use Rattle.importer.specs.Forms.{Item, Line, Lines, addressed, bad, bare_item, before, full_item, good, is_address, item_read, judged, last_read, line_read, lines_read, operand_read, right, wrong}
use Rattle.importer.specs.Importing.{first_against, in_bits, is_allowed, item_word, words_of}

-- ---- every instruction that is read has a name

abbrev pub AllNamed : List Item → Type 0
AllNamed [] = Unit
AllNamed (item ∷ items) = (item.opcode < length page) × AllNamed items

-- what follows the name of an instruction: nothing, or its operand
abbrev pub Operands : List (List ℕ) → Item → Type 0
Operands [] item = has_operand (rule_of item.opcode) ≡ false
Operands (k ∷ []) item = (has_operand (rule_of item.opcode) ≡ true) × (operand_read k ≡ Some item.operand)
Operands (k ∷ l ∷ more) item = ⊥

-- an instruction by the words that spell it
pub record Spelt (words : List (List ℕ)) (item : Item) : Type 0 where
  pub name : List ℕ
  pub others : List (List ℕ)
  pub are : words ≡ name ∷ others
  pub known : opcode_named name ≡ Some item.opcode
  pub follow : Operands others item

bare : (name : List ℕ) (n : Option ℕ) (item : Item) → opcode_named name ≡ n → bare_item n ≡ Some item →
    Spelt (name ∷ []) item
bare name None item e q = impossible cc
bare name (Some opcode) item e q = by (has_operand (rule_of opcode)) refl q
  where
    by : (t : Bool) → has_operand (rule_of opcode) ≡ t →
        cond t None (Some (record { opcode = opcode; operand = pos 0 })) ≡ Some item → Spelt (name ∷ []) item
    by true t r = impossible cc
    by false t r =
        let same : opcode ≡ item.opcode = cc in
        record { name = name; others = []; are = refl; known = e ∙ ap Some same; follow = rw (← same) t }

full : (name k : List ℕ) (n : Option ℕ) (o : Option ℤ) (item : Item) → opcode_named name ≡ n → operand_read k ≡ o →
    full_item n o ≡ Some item → Spelt (name ∷ k ∷ []) item
full name k None o item e p q = impossible cc
full name k (Some opcode) None item e p q = impossible cc
full name k (Some opcode) (Some z) item e p q = by (has_operand (rule_of opcode)) refl q
  where
    by : (t : Bool) → has_operand (rule_of opcode) ≡ t →
        cond t (Some (record { opcode = opcode; operand = z })) None ≡ Some item → Spelt (name ∷ k ∷ []) item
    by true t r =
        let same : opcode ≡ item.opcode = cc in
        let number : z ≡ item.operand = cc in
        record {
          name = name;
          others = k ∷ [];
          are = refl;
          known = e ∙ ap Some same;
          follow = (rw (← same) t, p ∙ ap Some number);
        }
    by false t r = impossible cc

pub spelt : (words : List (List ℕ)) (item : Item) → item_read words ≡ Some item → Spelt words item
unfolding item_read
spelt [] item e = impossible cc
spelt (name ∷ []) item e = bare name (opcode_named name) item refl e
spelt (name ∷ k ∷ []) item e = full name k (opcode_named name) (operand_read k) item refl refl e
spelt (name ∷ k ∷ l ∷ more) item e = impossible cc

item_named : (words : List (List ℕ)) (item : Item) → item_read words ≡ Some item → item.opcode < length page
item_named words item e = let s = spelt words item e in (named_is s.name item.opcode s.known).0

-- an item that a line spells, by its words
pub record Spells (words : List (List ℕ)) (address : ℕ) (item : Item) : Type 0 where
  pub first : List ℕ
  pub others : List (List ℕ)
  pub are : words ≡ first ∷ others
  pub four : is_address first ≡ true
  pub number : value_of first ≡ address
  pub spelled : item_read others ≡ Some item

pub spells : (words : List (List ℕ)) (address : ℕ) (item : Item) → line_read words ≡ right address item →
    Spells words address item
unfolding line_read
spells [] address item e = impossible cc
spells (first ∷ others) address item e = by (is_address first) refl (item_read others) refl e
  where
    by : (t : Bool) → is_address first ≡ t → (o : Option Item) → item_read others ≡ o →
        cond t (addressed (value_of first) o) wrong ≡ right address item → Spells (first ∷ others) address item
    by true t None o q = impossible cc
    by true t (Some found) o q =
        let same : found ≡ item = cc in
        record { first = first; others = others; are = refl; four = t; number = cc; spelled = o ∙ ap Some same }
    by false t o p q = impossible cc

-- lines that are all right, by the first of them
pub record First (index place : ℕ) (l : Line) (rest : Lines) (items : List Item) : Type 0 where
  pub item : Item
  pub others : List Item
  pub are : items ≡ item ∷ others
  pub line : l ≡ right index item
  pub follow : rest ≡ good others

pub first_of : (index place : ℕ) (l : Line) (rest : Lines) (items : List Item) →
    judged l index place rest ≡ good items → First index place l rest items
first_of index place wrong rest items e = impossible cc
first_of index place (right address item) rest items e = by (eqb address index) refl rest refl e
  where
    by : (t : Bool) → eqb address index ≡ t → (r : Lines) → rest ≡ r →
        cond t (before item r) (bad 42 place) ≡ good items → First index place (right address item) rest items
    by true t (good others) r q =
        record {
          item = item;
          others = others;
          are = cc;
          line = ap (λ (a : ℕ). right a item) (eqb-true address index t);
          follow = r;
        }
    by true t (bad number at) r q = impossible cc
    by false t r p q = impossible cc

last_named : (last : List ℕ) (place : ℕ) (items : List Item) → last_read last place ≡ good items → AllNamed items
last_named [] place items e = let same : [] ≡ items = cc in rw (← same) tt
last_named (b ∷ rest) place items e = impossible cc

pub lines_named : (ls : List (List ℕ)) (index place : ℕ) (items : List Item) → lines_read index place ls ≡ good items →
    AllNamed items
unfolding lines_read
lines_named [] index place items e = let same : [] ≡ items = cc in rw (← same) tt
lines_named (l ∷ []) index place items e = last_named l place items e
lines_named (l ∷ m ∷ more) index place items e =
    let f = first_of index place (line_read (split 32 l))
    (lines_read (suc index) (place + suc (length l)) (m ∷ more)) items e in
    rw f.are (
      item_named (spells (split 32 l) index f.item f.line).others f.item
          (spells (split 32 l) index f.item f.line).spelled,
      lines_named (m ∷ more) (suc index)
          (place + suc (length l)) f.others f.follow,
    )

-- ---- an operand of 24 bits, and its bits

pub record Bits (k : ℤ) : Type 0 where
  pub small : bits_of k < 16777216
  pub back : signed24 (bits_of k) ≡ k

pub bits : (k : ℤ) → in_bits k ≡ true → Bits k
bits (pos k) e =
    let most = leb-true k 8388607 e in
    record { small = omega (arith, most); back = rw (lt-ltb k 8388608 (omega (arith, most))) }
bits (negsuc k) e =
    let most = leb-true k 8388607 (and_true (leb k 8388607) true e).0 in
    let high : ltb (16777215 - k) 8388608 ≡ false = le-ltb (16777215 - k) 8388608 (omega (arith, most)) in
    let less : ltb (16777215 - k) 16777216 ≡ true = lt-ltb (16777215 - k) 16777216 (omega (arith, most)) in
    record { small = omega arith; back = rw (high, less) (ap negsuc (omega (arith, most))) }

pub record Word (item : Item) : Type 0 where
  pub opcode : opcode_of (item_word item) ≡ item.opcode
  pub operand : operand_of (item_word item) ≡ item.operand
  pub small : item_word item < 4294967296

pub word : (item : Item) → item.opcode < length page → in_bits item.operand ≡ true → Word item
word item h e =
    let b = bits item.operand e in
    let low : (item.opcode * 16777216 + bits_of item.operand) % 16777216 ≡ bits_of item.operand =
    omega (arith, b.small) in
    record { opcode = omega (arith, b.small); operand = rw low b.back; small = omega (arith, h, b.small, all_lines) }

-- ---- one instruction, and all of them

check_coded : (last : ℤ) (item : Item) → item.opcode < length page →
    check_of last (coded item) ≡ cond (is_allowed last item) verdict.Fine verdict.BadOperand
unfolding page
check_coded last item h = by (in_bits item.operand) refl
  where
    by : (t : Bool) → in_bits item.operand ≡ t →
        check_of last (cond t (item_word item) 1) ≡ cond (t && allows (rule_of item.opcode) last item.operand)
        verdict.Fine verdict.BadOperand
    by true t = let w = word item h t in rw (w.opcode, w.operand, le-ltb last_opcode item.opcode (to_last _ h))
    by false t = refl

abbrev pub scanned : Option ℕ → Scan
scanned None = Fine
scanned (Some index) = Bad 5 index

pub first_coded : (last : ℤ) (items : List Item) (index : ℕ) → AllNamed items →
    first_bad last index (coded_items items) ≡ scanned (first_against last index items)
unfolding coded_items first_against first_bad
first_coded last [] index h = refl
first_coded last (item ∷ items) index h =
    rw (check_coded last item h.0) (by (is_allowed last item) (first_coded last items (suc index) h.1))
  where
    by : (t : Bool) → first_bad last (suc index) (coded_items items) ≡ scanned (first_against last (suc index) items) →
        or_else (scan_of (cond t verdict.Fine verdict.BadOperand) index)
        (first_bad last (suc index) (coded_items items)) ≡ scanned
        (cond t (first_against last (suc index) items) (Some index))
    by true e = e
    by false e = refl

-- where none is against its rule, each has its own word
pub allowed_coded : (last : ℤ) (items : List Item) (index : ℕ) → first_against last index items ≡ None →
    coded_items items ≡ words_of items
unfolding coded_items first_against words_of
allowed_coded last [] index e = refl
allowed_coded last (item ∷ items) index e =
    by (in_bits item.operand) refl (allows (rule_of item.opcode) last item.operand) e
    (allowed_coded last items (suc index))
  where
    by : (t : Bool) → in_bits item.operand ≡ t → (u : Bool) →
        cond (t && u) (first_against last (suc index) items) (Some index) ≡ None →
        (first_against last (suc index) items ≡ None → coded_items items ≡ words_of items) →
        coded item ∷ coded_items items ≡ item_word item ∷ words_of items
    by true t true q later = rw (t, later q)
    by true t false q later = impossible cc
    by false t u q later = impossible cc

pub length_coded : (items : List Item) → length (coded_items items) ≡ length items
unfolding coded_items
length_coded [] = refl
length_coded (item ∷ items) = ap suc (length_coded items)
