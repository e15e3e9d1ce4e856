-- Laws of names and operands in a line: what is found word by word is what the words spell. Assumes nothing.
use Prim.Native.Nat.{ℕ}
use mathlib.Core.Bool.{Bool, true, false, cond}
use mathlib.Core.List.{List, [], ◌∷◌}
use mathlib.Core.Logic.{◌≢◌}
use Rattle.std.specs.Prelude.{IsErrAnd, Option, None, Some, Ok, Err}
use Rattle.std.specs.Option.{ok_or}
use Rattle.std.specs.declared.result.Result as code
use mathlib.Core.Path.{◌≡◌, refl, sym, ◌∙◌, ap}
use native.Mathlib.Omega.{arith}
use borrow.Author.Tests.{eq-eqb, ne_eqb}
use lib.Dec.{eqb}
use lib.IntN.{ℤ}
use Rattle.card.specs.declared.refusals.Reason.{Reason}
use Rattle.card.specs.declared.refusals.Reason.TheVariants.{TextAddress, TextLine}
use Rattle.machine.proofs.Lists.{cases, clash}
use Rattle.digits.specs.Reading.{capped, decimal_of, is_decimal, value_of}
use Rattle.opcodes.specs.Ascii.{same}
use Rattle.words.specs.Words.{lacks, split}
use Rattle.words.proofs.Clash.{impossible}
use Rattle.words.proofs.Cuts.{part_alone, two}
use Rattle.names.specs.Names.{opcode_named}
use Rattle.lister.specs.Text.{cells_word}
use Rattle.importer.specs.Coding.{address_read, coded, coded_cells, coded_entry, coded_line}
use Rattle.importer.specs.Forms.{Item, addressed, bare_item, full_item, header_read, is_address, item_read, line_read, operand_read, right, wrong}
use Rattle.importer.proofs.Numbers.{decimal_lacks, operand_lacks}

-- ---- the words behind an address

pub no_name : (name : List ℕ) (others : List (List ℕ)) → opcode_named name ≡ None → item_read (name ∷ others) ≡ None
unfolding item_read
no_name name [] e = rw e
no_name name (k ∷ []) e = rw e
no_name name (k ∷ l ∷ more) e = refl

-- what is left after the name is one word, or no operand
pub one_word : (name w : List ℕ) → item_read (name ∷ split 32 w) ≡ full_item (opcode_named name) (operand_read w)
unfolding item_read
one_word name w =
    cases (lacks 32 w) (λ e. rw (part_alone 32 w e))
    (λ e.
    let t = two 32 w e in
    rw (t.are, unread (operand_read w) refl e) (nothing (opcode_named name)))
  where
    unread : (o : Option ℤ) → operand_read w ≡ o → lacks 32 w ≡ false → operand_read w ≡ None
    unread None q e = q
    unread (Some k) q e = clash (operand_lacks 32 w k (omega arith) q) e

    nothing : (n : Option ℕ) → None ≡ full_item n None
    nothing (Some opcode) = refl
    nothing None = refl

-- ---- an address in its place

-- a line of the right form but for its address
abbrev pub placed_line : Option ℕ → ℕ → ℕ → code.Result ℕ Reason
placed_line None word index = Err TextLine
placed_line (Some at) word index = cond (eqb at index) (Ok word) (Err TextAddress)

pub in_place : (at word index : ℕ) → at ≡ index → Ok word ≡ placed_line (Some at) word index
in_place at word index same = rw (eq-eqb at index same)

pub out_of_place : (at word index : ℕ) → at ≢ index → Err TextAddress ≡ placed_line (Some at) word index
out_of_place at word index other = rw (ne_eqb at index other)

-- where a part of the line has another form, `?` hands on 41
pub wrong_part : (r : code.Result ℕ Reason) (d : Reason) (o : Option ℕ) → IsErrAnd r (λ e. e ≡ d) →
    ◌≡◌ {A = code.Result ℕ Reason} (Err d) (ok_or o TextLine) → r ≡ Err TextLine
wrong_part (Ok word) d o h e = absurd h
wrong_part (Err reason) d None h e = ap Err h ∙ e
wrong_part (Err reason) d (Some word) h e = impossible cc

-- ---- the words of a line

pub lone : (word : List ℕ) → line_read (word ∷ []) ≡ wrong
unfolding item_read line_read
lone word = by (is_address word)
  where
    by : (t : Bool) → cond t (addressed (value_of word) None) wrong ≡ wrong
    by true = refl
    by false = refl

module _ (word : List ℕ) (rest : List (List ℕ)) where
  pub no_item : (o : Option Item) → item_read rest ≡ o → coded_entry o ≡ None → line_read (word ∷ rest) ≡ wrong
  unfolding line_read
  no_item None e q = rw e (by (is_address word))
    where
      by : (t : Bool) → cond t wrong wrong ≡ wrong
      by true = refl
      by false = refl
  no_item (Some item) e q = impossible cc

  pub line_is : (o : Option Item) (w index : ℕ) → item_read rest ≡ o → coded_entry o ≡ Some w →
      placed_line (address_read word) w index ≡ coded_line (line_read (word ∷ rest)) index
  unfolding line_read
  line_is None w index e q = impossible cc
  line_is (Some item) w index e q =
      let same : coded item ≡ w = cc in
      rw (e, ← same) (by (is_address word))
    where
      by : (t : Bool) → placed_line (cond t (Some (value_of word)) None) (coded item) index
          ≡ coded_line (cond t (right (value_of word) item) wrong) index
      by true = refl
      by false = refl

-- ---- the words of a header

pub no_number : (word : List ℕ) → coded_cells (header_read (word ∷ [])) ≡ None
unfolding header_read
no_number word = refl

pub other_word : (word : List ℕ) (others : List (List ℕ)) → same word cells_word ≡ false →
    coded_cells (header_read (word ∷ others)) ≡ None
unfolding header_read
other_word word [] e = refl
other_word word (number ∷ []) e = rw e
other_word word (number ∷ l ∷ more) e = refl

pub cells_is : (word w : List ℕ) → same word cells_word ≡ true →
    coded_cells (header_read (word ∷ split 32 w)) ≡ decimal_of w
unfolding header_read
cells_is word w e =
    cases (lacks 32 w)
    (λ l. rw (part_alone 32 w l, e) (by (is_decimal w)))
    (λ l.
    let t = two 32 w l in
    rw t.are (unread (is_decimal w) refl l))
  where
    by : (t : Bool) → coded_cells (cond t (Some (value_of w)) None)
        ≡ cond t (Some (capped (value_of w))) None
    by true = refl
    by false = refl

    unread : (t : Bool) → is_decimal w ≡ t → lacks 32 w ≡ false →
        None ≡ cond t (Some (capped (value_of w))) None
    unread true q l = clash (decimal_lacks 32 w (omega arith) q) l
    unread false q l = refl

-- ---- the same of bytes with no space in them

module _ (l : List ℕ) (alone : split 32 l ≡ l ∷ []) where
  -- a name that isn't known, and one that is
  pub unknown_alone : opcode_named l ≡ None → item_read (split 32 l) ≡ None
  unknown_alone e = rw alone (no_name l [] e)

  pub bare_item_lem : (opcode : ℕ) → opcode_named l ≡ Some opcode → bare_item (Some opcode) ≡ item_read (split 32 l)
  unfolding item_read
  bare_item_lem opcode e = rw alone (ap bare_item (sym e))

-- ---- and of bytes with a first space, which stands between a and b

module _ (l a b : List ℕ) (at : split 32 l ≡ a ∷ split 32 b) where
  pub unknown : opcode_named a ≡ None → item_read (split 32 l) ≡ None
  unknown e = ap item_read at ∙ no_name a (split 32 b) e

  pub full_item_lem : (opcode : ℕ) → opcode_named a ≡ Some opcode →
      full_item (Some opcode) (operand_read b) ≡ item_read (split 32 l)
  full_item_lem opcode e =
      sym (ap item_read at ∙ one_word a b ∙ ap (λ (n : Option ℕ). full_item n (operand_read b)) e)

  -- an address with a right item behind it, and with none
  pub line_wrong : coded_entry (item_read (split 32 b)) ≡ None → line_read (split 32 l) ≡ wrong
  line_wrong e = ap line_read at ∙ no_item a (split 32 b) _ refl e

  pub line_right : (word index : ℕ) (address : Option ℕ) → coded_entry (item_read (split 32 b)) ≡ Some word →
      address ≡ address_read a → placed_line address word index ≡ coded_line (line_read (split 32 l)) index
  line_right word index address e is =
      rw is
      (line_is a (split 32 b) _ word index refl e
      ∙ ap (λ (ps : List (List ℕ)). coded_line (line_read ps) index) (sym at))

  -- a header's number
  pub other_header : same a cells_word ≡ false → coded_cells (header_read (split 32 l)) ≡ None
  other_header e = ap (λ (ps : List (List ℕ)). coded_cells (header_read ps)) at ∙ other_word a (split 32 b) e

  pub header_is : same a cells_word ≡ true → decimal_of b ≡ coded_cells (header_read (split 32 l))
  header_is e =
      sym (cells_is a b e) ∙ ap (λ (ps : List (List ℕ)). coded_cells (header_read ps)) (sym at)
