-- "Either way round gives back what went in." Assumes nothing.
use Prim.Native.Nat.{ℕ, zero, suc, ◌*◌, ◌≤◌}
use mathlib.Core.Bool.{Bool, true, false, cond, ◌||◌}
use mathlib.Core.List.{List, [], ◌∷◌, ◌++◌}
use Rattle.std.specs.Prelude.{Option, None, Some}
use mathlib.Core.Path.{◌≡◌, refl, sym, ◌∙◌, ap}
use native.Mathlib.Omega.{arith}
use borrow.Author.Tests.{le-ltb, ltb-false}
use lib.Dec.{ltb}
use lib.IntN.{ℤ}
use lib.ListN.{drop, length, length-drop, take}
use Rattle.card.specs.Code.{first_bad, words_of as code_words}
use Rattle.card.specs.Image.{cells_of, code_of, count_of, image_size, last_of, out_of_range}
use Rattle.writer.specs.RoundTrip.{Each}
use Rattle.card.specs.Result.{Result, gives, refuses}
use Rattle.writer.specs.Writing.{image_of, write_of}
use Rattle.card.specs.Code.{Fine}
use Rattle.card.proofs.Header.{InRange, accepts, code_part, in_range, neither, not_out, or_false}
use Rattle.writer.proofs.RoundTrip.{read_is_written, written_is_read}
use Rattle.writer.proofs.Success.{succeeds}
use Rattle.card.proofs.Words.{count}
use Rattle.lister.specs.Text.{listing_of, text_of}
use Rattle.importer.specs.Coding.{coded_items}
use Rattle.importer.specs.Forms.{Item, Text, card, refused}
use Rattle.importer.specs.Importing.{after_rules, answer_of, first_against, image_said, said, words_of}
use Rattle.importer.specs.RoundTrip.{ImportedIsListed, ListedIsImported}
use Rattle.importer.proofs.Back.{allowed, said_named, text_back}
use Rattle.importer.proofs.Forth.{items_of, length_items, none_against, text_says, words_again}
use Rattle.importer.proofs.Judged.{AllNamed, allowed_coded, first_coded, length_coded, scanned, word}
use Rattle.words.proofs.Clash.{impossible}

-- ---- what an accepted answer says of a text, and when it comes

record Accepts (said : Text) (room size : ℕ) : Type 0 where
  pub g : ℕ
  pub items : List Item
  pub is : said ≡ card g items
  pub cells : InRange g
  pub many : InRange (length items)
  pub rules : first_against (last_of (length items)) 0 items ≡ None
  pub fits : image_size (length items) ≤ room
  pub exact : size ≡ image_size (length items)

never : {X : Type 0} {number place size : ℕ} → refuses number place ≡ gives size → X
never e = impossible cc

accepted : (said : Text) (room size : ℕ) → answer_of said room ≡ gives size → Accepts said room size
unfolding answer_of
accepted (refused number place) room size e = never e
accepted (card g items) room size e = by_range (out_of_range g || out_of_range (length items)) refl e
  where
    n : ℕ
    n = length items

    roomy : Bool → Result
    roomy t = cond t (refuses 43 0) (gives (image_size n))

    by_room : (out_of_range g || out_of_range n) ≡ false → first_against (last_of n) 0 items ≡ None → (t : Bool) →
        ltb room (image_size n) ≡ t → roomy t ≡ gives size → Accepts (card g items) room size
    by_room range rules true t q = never q
    by_room range rules false t q =
        let both = or_false (out_of_range g) (out_of_range n) range in
        record {
          g = g;
          items = items;
          is = refl;
          cells = in_range g both.0;
          many = in_range n both.1;
          rules = rules;
          fits = ltb-false room (image_size n) t;
          exact = cc;
        }

    by_rules : (out_of_range g || out_of_range n) ≡ false → (o : Option ℕ) → first_against (last_of n) 0 items ≡ o →
        after_rules o (roomy (ltb room (image_size n))) ≡ gives size → Accepts (card g items) room size
    by_rules range None o q = by_room range o (ltb room (image_size n)) refl q
    by_rules range (Some index) o q = never q

    by_range : (t : Bool) → (out_of_range g || out_of_range n) ≡ t →
        cond t (refuses 3 5) (after_rules (first_against (last_of n) 0 items) (roomy (ltb room (image_size n))))
        ≡ gives size → Accepts (card g items) room size
    by_range true t q = never q
    by_range false t q = by_rules t (first_against (last_of n) 0 items) refl q

answers : (g : ℕ) (items : List Item) (room : ℕ) → InRange g → InRange (length items) →
    first_against (last_of (length items)) 0 items ≡ None → image_size (length items) ≤ room →
    answer_of (card g items) room ≡ gives (image_size (length items))
unfolding answer_of
answers g items room cells many rules fits =
    rw (
      neither (out_of_range g) (out_of_range (length items)) (not_out g cells) (not_out (length items) many),
      rules,
      le-ltb room (image_size (length items)) fits,
    )

-- ---- from an image to its listing and back

pub listed_is_imported : ListedIsImported
unfolding image_said
listed_is_imported cells image buffer h room e =
    let a = accepts image cells e in
    let ws : List ℕ = code_words (code_of image) in
    let code : length (drop 9 image) ≡ 4 * count_of image =
    omega (arith, length-drop 9 image, a.long.follows, a.sized.exact) in
    let n : length ws ≡ count_of image = ap (λ (c : List ℕ). length (code_words c)) (code_part image cells e)
    ∙ count (drop 9 image) (count_of image) code in
    let fine : first_bad (last_of (length ws)) 0 ws ≡ Fine = rw (n, code_part image cells e) a.code in
    let most = a.sized.count.most in
    let says : said (listing_of image) ≡ card cells (items_of ws) =
    rw a.globals (text_says (last_of (length ws)) cells ws (omega (arith, a.globals, a.sized.cells.most))
    (omega (arith, n, most)) fine) in
    let items : length (items_of ws) ≡ length ws = length_items ws in
    let size : image_size (length (items_of ws)) ≡ length image =
    omega (arith, items, n, a.long.follows, a.sized.exact) in
    let answer : answer_of (card cells (items_of ws)) (length buffer) ≡ gives (length image) =
    answers cells (items_of ws) (length buffer) (rw (← a.globals) a.sized.cells) (rw (items, n) a.sized.count)
    (rw items (none_against (last_of (length ws)) ws 0 fine)) (rw size room)
    ∙ ap gives size in
    let wrote = read_is_written cells image buffer h room e in
    let left : image_of cells ws ++ drop (length image) buffer ≡ image ++ drop (length image) buffer =
    rw wrote.0 at wrote.1 in
    (ap (λ (t : Text). answer_of t (length buffer)) says ∙ answer, rw (says, answer, words_again ws) left)

-- ---- from a text to its image and back

words_small : (last : ℤ) (items : List Item) (index : ℕ) → AllNamed items → first_against last index items ≡ None →
    Each 4294967296 (words_of items)
unfolding words_of
words_small last [] index named rules i = omega arith
words_small last (item ∷ items) index named rules zero =
    (word item named.0 (allowed last index item items rules).fits).small
words_small last (item ∷ items) index named rules (suc i) =
    words_small last items (suc index) named.1 (allowed last index item items rules).others i

pub imported_is_listed : ImportedIsListed
unfolding image_said
imported_is_listed size text buffer e =
    let a = accepted (said text) (length buffer) size e in
    let g = a.g in
    let items = a.items in
    let named = said_named text g items a.is in
    let last = last_of (length items) in
    let own : coded_items items ≡ words_of items = allowed_coded last items 0 a.rules in
    let n : length (words_of items) ≡ length items = ap length (sym own) ∙ length_coded items in
    let fine : first_bad last 0 (words_of items) ≡ Fine = ap (first_bad last 0) (sym own)
    ∙ first_coded last items 0 named ∙ ap scanned a.rules in
    let room : write_of g (words_of items) (length buffer) ≡ gives size =
    succeeds g (words_of items) (length buffer) size
    (record { globals = a.cells; count = rw n a.many; good = rw n fine; fits = rw n a.fits; exact = rw n a.exact }) in
    let read = written_is_read g size (words_of items) buffer (words_small last items 0 named a.rules) room in
    let image : List ℕ = take size (image_of g (words_of items) ++ drop size buffer) in
    let cells : cells_of image ≡ g = (accepts image g read.0).globals in
    let text_is : text ≡ text_of g (words_of items) =
    text_back last text g items (omega (arith, a.cells.most)) named a.rules a.is in
    let listing : listing_of image ≡ text = rw (cells, read.1) (sym text_is) in
    rw a.is (read.0 ∙ ap gives (sym cells), listing)
