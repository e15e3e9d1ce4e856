-- Laws of the names in the page, each tested by the checker for every line. Assumes nothing.
use Prim.Native.Nat.{ℕ, suc, ◌+◌, ◌-◌, ◌≤◌, ◌<◌}
use mathlib.Core.Bool.{Bool, true, false, cond, ◌&&◌}
use mathlib.Core.List.{List, [], ◌∷◌}
use mathlib.Core.Path.{◌≡◌, refl, ◌∙◌, ap}
use native.Mathlib.Numerals.{add-one}
use native.Mathlib.Omega.{arith}
use borrow.Author.Tests.{eqb-true, leb-true}
use lib.Dec.{eqb, leb}
use lib.ListN.{get_or-eq_default, drop, drop_of_length-le, get_or, length, take}
use lib.Seq.{drop-cons}
use Rattle.opcodes.specs.Ascii.{bytes, same}
use Rattle.opcodes.specs.Page.{Line, blank, line_of, name_of, page, rule_of}
use Rattle.opcodes.specs.Rules.{has_operand}
use Rattle.opcodes.specs.Table.{entry_of, padded}
use Rattle.opcodes.specs.declared.table.Entry.{Entry}
use Rattle.opcodes.proofs.Each.{and_true, at_each, each, never}
use Rattle.opcodes.proofs.Same.{same_is}
use Rattle.text.specs.Lines.{Puts}
use Rattle.words.specs.Words.{lacks, up_to}
use Rattle.words.proofs.Clash.{impossible}
use Rattle.words.proofs.Cuts.{part}
use Rattle.names.specs.Names.{named_in, opcode_named}
use Rattle.std.specs.Prelude.{Option, Some, None}

-- whether a word names the opcode k
abbrev is_opcode : ℕ → Option ℕ → Bool
is_opcode k (Some j) = eqb j k
is_opcode k None = false

-- the tests of one line: its number is its place; its name is what the table has up to a space, in ten bytes; how
-- long that is; it has no separator; it names the opcode
abbrev is_numbered : ℕ → Line → Bool
is_numbered k line = eqb line.number k

abbrev is_entry : Line → Bool
is_entry line = same (up_to 32 (padded line.name)) line.name && eqb (length (padded line.name)) 10

abbrev is_short : Line → Bool
is_short line = leb (length line.name) 9

abbrev is_word : Line → Bool
is_word line = lacks 32 line.name && lacks 10 line.name

abbrev is_found : ℕ → Line → Bool
is_found k line = is_opcode k (opcode_named line.name)

abbrev is_right : ℕ → Line → Bool
is_right k line = is_numbered k line && (is_entry line && (is_short line && (is_word line && is_found k line)))

all_right : each is_right 0 page ≡ true
unfolding bytes lacks named_in page same up_to
all_right = refl

all_numbered : each is_numbered 0 page ≡ true
unfolding page
all_numbered = refl

opcode_is : (k : ℕ) (n : Option ℕ) → is_opcode k n ≡ true → n ≡ Some k
opcode_is k (Some j) e = ap Some (eqb-true j k e)
opcode_is k None e = never e

pub record Right (k : ℕ) : Type 0 where
  pub number : (line_of k).number ≡ k
  pub entry : up_to 32 (padded (name_of k)) ≡ name_of k
  pub wide : length (padded (name_of k)) ≡ 10
  pub short : length (name_of k) ≤ 9
  pub no_space : lacks 32 (name_of k) ≡ true
  pub no_feed : lacks 10 (name_of k) ≡ true
  pub found : opcode_named (name_of k) ≡ Some k

pub right : (k : ℕ) → k < length page → Right k
right k h =
    let line = line_of k in
    let all = and_true (is_numbered k line) _ (at_each is_right page blank all_right k h) in
    let named = and_true (is_entry line) _ all.1 in
    let written = and_true (same (up_to 32 (padded (name_of k))) (name_of k)) _ named.0 in
    let more = and_true (is_short line) _ named.1 in
    let last = and_true (is_word line) _ more.1 in
    let word = and_true (lacks 32 (name_of k)) (lacks 10 (name_of k)) last.0 in
    record {
      number = eqb-true _ _ all.0;
      entry = same_is _ _ written.0;
      wide = eqb-true _ _ written.1;
      short = leb-true _ _ more.0;
      no_space = word.0;
      no_feed = word.1;
      found = opcode_is k (opcode_named (name_of k)) last.1;
    }

-- a name that is read is the name of the opcode it was read as, in a page whose numbers count from k
named_in_lem : (k : ℕ) (lines : List Line) (other : Line) (word : List ℕ) (opcode : ℕ) →
    each is_numbered k lines ≡ true →
    named_in lines word ≡ Some opcode →
    (k ≤ opcode) × (opcode < k + length lines) × ((get_or lines (opcode - k) other).name ≡ word)
unfolding named_in
named_in_lem k [] other word opcode numbered e = impossible cc
named_in_lem k (line ∷ rest) other word opcode numbered e =
    let counted = and_true (is_numbered k line) (each is_numbered (suc k) rest) numbered in
    by (same line.name word) refl e (eqb-true _ _ counted.0) (named_in_lem (suc k) rest other word opcode counted.1)
  where
    by : (t : Bool) → same line.name word ≡ t →
        cond t (Some line.number) (named_in rest word) ≡ Some opcode → line.number ≡ k →
        (named_in rest word ≡ Some opcode →
        (suc k ≤ opcode) × (opcode < suc k + length rest) × ((get_or rest (opcode - suc k) other).name ≡ word)) →
        (k ≤ opcode) × (opcode < k + suc (length rest)) × ((get_or (line ∷ rest) (opcode - k) other).name ≡ word)
    by true t q number later =
        let here : line.number ≡ opcode = cc in
        let none : opcode - k ≡ 0 = omega (arith, here, number) in
        (omega (arith, here, number), omega (arith, here, number), rw none (same_is line.name word t))
    by false t q number later =
        let r = later q in
        let one : opcode - k ≡ suc (opcode - suc k) = omega (arith, r.0) in
        (omega (arith, r.0), omega (arith, r.1), rw one r.2)

pub named_is : (word : List ℕ) (opcode : ℕ) → opcode_named word ≡ Some opcode →
    (opcode < length page) × (name_of opcode ≡ word)
named_is word opcode e =
    let r = named_in_lem 0 page blank word opcode all_numbered e in
    let all : opcode - 0 ≡ opcode = omega arith in
    (omega (arith, r.1), rw all at r.2)

-- the search from line k on, by the name there
module _ (word : List ℕ) (k : ℕ) (h : k < length page) where
  at_name : named_in (drop k page) word
      ≡ cond (same (name_of k) word) (Some (line_of k).number) (named_in (drop (k + 1) page) word)
  unfolding named_in
  at_name = rw (add-one, drop-cons page k blank h)

  pub hit : same (name_of k) word ≡ true → named_in (drop k page) word ≡ Some (line_of k).number
  hit e = at_name ∙ rw e

  pub miss : same (name_of k) word ≡ false → named_in (drop k page) word ≡ named_in (drop (k + 1) page) word
  miss e = at_name ∙ rw e

pub none_left : (word : List ℕ) (k : ℕ) → length page ≤ k → named_in (drop k page) word ≡ None
unfolding named_in
none_left word k h = rw (drop_of_length-le page h)

-- past the last opcode the name is empty, and nothing is written ..
past : (k : ℕ) → length page ≤ k → line_of k ≡ blank
past k h = get_or-eq_default page blank h

pub no_name : (k at : ℕ) (buffer : List ℕ) → length page ≤ k → Puts (name_of k) buffer at buffer at
no_name k at buffer h = none (line_of k) (past k h)
  where
    none : (line : Line) → line ≡ blank → Puts line.name buffer at buffer at
    none line e = rw e (record { written = refl; reached = omega arith })

-- .. and there is no operand
pub no_rule : (k : ℕ) → length page ≤ k → has_operand (rule_of k) ≡ false
no_rule k h = ap (λ (line : Line). has_operand line.rule) (past k h)

-- what `words::find` finds in the bytes of a name of the table
pub found : (name : List ℕ) (r : ℕ) → r ≡ 0 + length (up_to 32 (drop 0 name)) → take r name ≡ up_to 32 name
found name r e = let all : r - 0 ≡ r = omega arith in rw all at (part 32 name 0 r e)

-- .. and in the entry of an opcode
pub spelled : (k r : ℕ) (entry : Entry) → k < length page → entry ≡ entry_of k →
    r ≡ 0 + length (up_to 32 (drop 0 entry.name)) → take r entry.name ≡ name_of k
spelled k r entry h is e = found entry.name r e ∙ rw is (right k h).entry
