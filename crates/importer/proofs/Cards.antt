-- Laws of the whole: what header, lines and writer answer makes up the importer's answer. Assumes nothing.
use Prim.Native.Nat.{ℕ, suc, ◌+◌, ◌≤◌, ◌<◌}
use mathlib.Core.Bool.{Bool, true, false, cond, ◌||◌}
use mathlib.Core.List.{List, [], ◌∷◌}
use Rattle.std.specs.Prelude.{IsErrAnd, Option, None, Some, Err}
use Rattle.std.specs.Option.{ok_or}
use Rattle.card.proofs.Refused.{handed_on}
use Rattle.std.specs.declared.result.Result as code
use mathlib.Core.Path.{◌≡◌, refl, sym, ◌∙◌, ap}
use native.Mathlib.Numerals.{add-one}
use native.Mathlib.Omega.{arith}
use borrow.Author.Tests.{le-ltb, lt-ltb}
use lib.Dec.{ltb}
use lib.ListN.{drop, length, take}
use lib.Seq.{length-take-le, sets, sets-eq, take-append_seam}
use Rattle.card.specs.Image.{image_size, last_of, out_of_range}
use Rattle.writer.specs.Writing.{after_list, buffer_of, write_of}
use Rattle.card.specs.Result.{Result, gives, number, refuses, told}
use Rattle.card.specs.declared.refusals.Reason.TheVariants.{TextHeader}
use Rattle.card.specs.declared.refusals.Refusal.{Refusal}
use Rattle.card.proofs.Header.{in_range, or_false}
use Rattle.machine.proofs.Lists.{cases, less_or_not}
use Rattle.digits.specs.Reading.{capped}
use Rattle.digits.proofs.Walks.{capped_large, capped_small}
use Rattle.words.specs.Words.{split, up_to}
use Rattle.words.proofs.Clash.{impossible}
use Rattle.words.proofs.Cuts.{cut_at, parts, whole}
use Rattle.importer.specs.Coding.{Stores, WroteCard, coded_cells, coded_header, coded_items, coded_lines, renumbered, with_line}
use Rattle.importer.specs.Forms.{Item, Lines, bad, card, good, headed, header_read, lines_read, refused, text_read, with_cells}
use Rattle.importer.specs.Importing.{Imports, Leaves, after_rules, answer_of, first_against, image_said, imported, said}
use Rattle.importer.specs.declared.header.Header.{Header}
use Rattle.importer.proofs.Following.{header_cut}
use Rattle.importer.proofs.Judged.{AllNamed, allowed_coded, first_coded, length_coded, lines_named, scanned}

-- ---- a capped number of cells is as much out of range

capped_out : (g : ℕ) → out_of_range (capped g) ≡ out_of_range g
capped_out g =
    less_or_not 1000000000 g
    (λ large. rw (
      capped_large g (omega (arith, large)),
      lt-ltb 4096 g (omega (arith, large)),
      le-ltb g
          1 (omega (arith, large)),
    ))
    (λ small. rw (capped_small g small))

capped_in : (g : ℕ) → out_of_range g ≡ false → capped g ≡ g
capped_in g e = capped_small g (omega (arith, (in_range g e).most))

-- ---- the card's answer is the text's

abbrev roomy : ℕ → ℕ → Result
roomy room n = cond (ltb room (image_size n)) (refuses 8 0) (gives (image_size n))

-- the answers, and the image, once the cells and the count are in range
module _ (g : ℕ) (items : List Item) (buffer : List ℕ) where
  n : ℕ
  n = length items

  record Same (w : Result) (answer : Result) : Type 0 where
    pub answers : renumbered w ≡ answer
    pub leaves : buffer_of w (capped g) (coded_items items) buffer ≡ imported answer (card g items) buffer

  by_room : out_of_range g ≡ false → first_against (last_of n) 0 items ≡ None →
      Same (roomy (length buffer) n) (cond (ltb (length buffer) (image_size n)) (refuses 43 0) (gives (image_size n)))
  unfolding image_said n
  by_room range rules =
      cases (ltb (length buffer) (image_size n)) (λ t. rw t (record { answers = refl; leaves = refl }))
      (λ t. rw t (record {
        answers = refl;
        leaves = rw (capped_in g range, allowed_coded (last_of (length items)) items 0 rules);
      }))

  by_rules : out_of_range g ≡ false → (o : Option ℕ) → first_against (last_of n) 0 items ≡ o →
      Same (after_list (scanned o) (roomy (length buffer) n))
      (after_rules o (cond (ltb (length buffer) (image_size n)) (refuses 43 0) (gives (image_size n))))
  by_rules range None e = by_room range e
  by_rules range (Some index) e = record { answers = refl; leaves = refl }

  by_range : (t : Bool) → (out_of_range g || out_of_range n) ≡ t →
      Same (cond t (refuses 3 5) (after_list (scanned (first_against (last_of n) 0 items)) (roomy (length buffer) n)))
      (cond t (refuses 3 5) (after_rules (first_against (last_of n) 0 items)
      (cond (ltb (length buffer) (image_size n)) (refuses 43 0) (gives (image_size n)))))
  by_range true t = record { answers = refl; leaves = refl }
  by_range false t = by_rules (or_false (out_of_range g) (out_of_range n) t).0 (first_against (last_of n) 0 items) refl

  same_card : AllNamed items →
      Same (write_of (capped g) (coded_items items) (length buffer)) (answer_of (card g items) (length buffer))
  unfolding answer_of n write_of
  same_card h = rw (capped_out g, length_coded items, first_coded (last_of (length items)) items 0 h)
      (by_range (out_of_range g || out_of_range (length items)) refl)

-- the words that were stored are those of the instructions
words_taken : (items : List Item) (first words : List ℕ) → length items ≤ length first →
    words ≡ sets first 0 (coded_items items) → take (length items) words ≡ coded_items items
words_taken items first words h e =
    let size : length (coded_items items) ≡ length items = length_coded items in
    rw (e, ← size, sets-eq (coded_items items) first 0 (omega (arith, h, size)))
    (take-append_seam (coded_items items) _)

too_long : (n : ℕ) → 4096 < n → (t : Bool) → (t || out_of_range n) ≡ true
too_long n h true = refl
too_long n h false = rw (le-ltb n 1 (omega (arith, h)), lt-ltb 4096 n h)

over_said : (g : ℕ) (items : List Item) (room : ℕ) → 4096 < length items → answer_of (card g items) room ≡ refuses 3 5
unfolding answer_of
over_said g items room over = rw (too_long (length items) over (out_of_range g))

card_said : (g count : ℕ) (items : List Item) (first words before after : List ℕ) (answer : code.Result ℕ Refusal) →
    4096 ≤ length first → AllNamed items → count ≡ length items → words ≡ sets first 0 (coded_items items) →
    WroteCard (capped g) count words before answer after → Leaves (card g items) before answer after
card_said g count items first words before after answer room named many stores wrote =
    less_or_not 4096 (length items)
    (λ over.
    let long : ltb 4096 count ≡ true = rw many (lt-ltb 4096 (length items) over) in
    let out = sym (over_said g items (length before) over) in
    record {
      answered = rw long at wrote.answered ∙ out;
      left = rw long at wrote.left
          ∙ ap (λ (a : Result). imported a (card g items) before) out;
    })
    (λ within.
    let short : ltb 4096 count ≡ false = rw many (le-ltb 4096 (length items) within) in
    let taken : take count words ≡ coded_items items =
    rw many (words_taken items first words (omega (arith, room, within)) stores) in
    let s = same_card g items before named in
    record {
      answered = rw (short, taken) at wrote.answered ∙ s.answers;
      left = rw (short, taken) at wrote.left
          ∙ s.leaves;
    })

-- ---- the header

pub record Headed (text : List ℕ) (cells next : ℕ) : Type 0 where
  pub g : ℕ
  pub is : cells ≡ capped g
  pub says : said text ≡ with_cells g (lines_read 0 next (split 10 (drop next text)))
  pub inside : next ≤ length text

pub text_cut : (l r : List ℕ) →
    text_read (l ∷ split 10 r) ≡ headed (header_read (split 32 l)) (lines_read 0 (suc (length l)) (split 10 r))
unfolding text_read
text_cut l r = let p = parts 10 r in rw p.are

module _ (text : List ℕ) where
  end : ℕ
  end = length (up_to 10 text)

  first : List ℕ
  first = take end text

  -- what the first line says of all
  first_said : end < length text →
      said text ≡ headed (header_read (split 32 first)) (lines_read 0 (end + 1) (split 10 (drop (end + 1) text)))
  unfolding end first
  first_said h =
      ap text_read (cut_at 10 text end (omega arith) h)
      ∙ text_cut (take end text) (drop (end + 1) text)
      ∙ rw (length-take-le end text (omega (arith, h)), add-one)

  read : end < length text →
      coded_header (split 10 text) ≡ with_line (coded_cells (header_read (split 32 first))) (end + 1)
  unfolding end first
  read h =
      ap coded_header (cut_at 10 text end (omega arith) h)
      ∙ header_cut (take end text) (drop (end + 1) text)
      ∙ rw (length-take-le end text (omega (arith, h)), add-one)

  unended : length text ≤ end → split 10 text ≡ text ∷ []
  unfolding end
  unended h = whole 10 text h

  by_cells : (cells next : ℕ) (o : Option ℕ) → header_read (split 32 first) ≡ o → end < length text →
      with_line (coded_cells o) (end + 1) ≡ Some (record { cells = cells; next = next }) → Headed text cells next
  unfolding end first
  by_cells cells next None e h q = impossible cc
  by_cells cells next (Some g) e h q =
      let same : ◌≡◌ {A = Header} (record { cells = cells; next = next })
      (record { cells = capped g; next = end + 1 }) = cc in
      let after : end + 1 ≡ next = sym (ap (λ (h : Header). h.next) same) in
      record {
        g = g;
        is = ap (λ (h : Header). h.cells) same;
        says = first_said h ∙ ap
            (λ (o : Option ℕ). headed o (lines_read 0 (end + 1) (split 10 (drop (end + 1) text)))) e
            ∙ ap (λ (k : ℕ). with_cells g (lines_read 0 k (split 10 (drop k text)))) after;
        inside = omega (arith, h, after);
      }

  pub header_of_lem : (cells next : ℕ) →
      coded_header (split 10 text) ≡ Some (record { cells = cells; next = next }) → Headed text cells next
  header_of_lem cells next e =
      less_or_not end (length text) (λ h. by_cells cells next (header_read (split 32 first)) refl h (sym (read h) ∙ e))
      (λ h.
      let never : None ≡ Some (record { cells = cells; next = next }) = sym (ap coded_header (unended h)) ∙ e in
      impossible cc)

  by_none : (o : Option ℕ) → header_read (split 32 first) ≡ o → end < length text →
      with_line (coded_cells o) (end + 1) ≡ None → said text ≡ refused 40 0
  by_none None e h q = first_said h
      ∙ ap (λ (o : Option ℕ). headed o (lines_read 0 (end + 1) (split 10 (drop (end + 1) text)))) e
  by_none (Some g) e h q = impossible cc

  no_header : coded_header (split 10 text) ≡ None → said text ≡ refused 40 0
  unfolding text_read
  no_header e =
      less_or_not end (length text) (λ h. by_none (header_read (split 32 first)) refl h (sym (read h) ∙ e))
      (λ h. ap text_read (unended h))

-- ---- the call

refusal : (text before : List ℕ) (answer : code.Result ℕ Refusal) (number place : ℕ) →
    told (λ size. size) answer ≡ refuses number place → said text ≡ refused number place →
    Imports text before answer before
unfolding answer_of
refusal text before answer number place is e = rw e (record { answered = is; left = refl })

-- where the header has another form, `?` hands on 40 at 0
pub wrong_header : (text before : List ℕ) (answer : code.Result ℕ Refusal) (r : Refusal) (o : Option Header) →
    IsErrAnd answer (λ e. e ≡ r) →
    ◌≡◌ {A = code.Result Header Refusal} (Err r) (ok_or o (record { reason = TextHeader; place = 0 })) →
    o ≡ coded_header (split 10 text) → Imports text before answer before
wrong_header text before answer r (Some header) h e is = impossible cc
wrong_header text before answer r None h e is =
    let same : r ≡ record { reason = TextHeader; place = 0 } = cc in
    refusal text before answer 40 0 (handed_on (λ size. size) answer r h ∙ rw same) (no_header text (sym is))

module _ (text : List ℕ) (cells next : ℕ)
    (h : coded_header (split 10 text) ≡ Some (record { cells = cells; next = next })) where
  pub starts_inside : next ≤ length text
  starts_inside = (header_of_lem text cells next h).inside

  pub wrong_line : (before : List ℕ) (answer : code.Result ℕ Refusal) (number place : ℕ) (read : Lines) →
      read ≡ lines_read 0 next (split 10 (drop next text)) → coded_lines 0 read ≡ refuses number place →
      told (λ size. size) answer ≡ refuses number place → Imports text before answer before
  wrong_line before answer number place (good items) is e t = impossible cc
  wrong_line before answer number place (bad n p) is e t =
      let one : n ≡ number = cc in
      let two : p ≡ place = cc in
      let d = header_of_lem text cells next h in
      refusal text before answer number place t (d.says ∙ ap (with_cells d.g) (sym is) ∙ rw (one, two))

  pub all_right : (count : ℕ) (room words before after : List ℕ) (answer : code.Result ℕ Refusal) (read : Lines) →
      read ≡ lines_read 0 next (split 10 (drop next text)) → coded_lines 0 read ≡ gives count → 4096 ≤ length room →
      Stores read room words → WroteCard cells count words before answer after → Imports text before answer after
  all_right count room words before after answer (bad n p) is e long s wrote = impossible cc
  all_right count room words before after answer (good items) is e long s wrote =
      let d = header_of_lem text cells next h in
      let many : count ≡ length items = (let z : 0 + length items ≡ count = cc in omega (arith, z)) in
      let says : said text ≡ card d.g items = d.says ∙ ap (with_cells d.g) (sym is) in
      let named = lines_named (split 10 (drop next text)) 0 next items (sym is) in
      rw says (card_said d.g count items room words before after answer long named many (s.all items refl)
      (rw d.is at wrote))
