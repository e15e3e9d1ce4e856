-- Laws of one line after the other: a loop that has come to a line finds what the whole reading finds. Assumes nothing.
use Prim.Native.Nat.{ℕ, suc, ◌+◌, ◌-◌, ◌≤◌, ◌<◌}
use mathlib.Core.Bool.{Bool, true, false, cond}
use mathlib.Core.List.{List, [], ◌∷◌}
use mathlib.Core.Path.{◌≡◌, refl, sym, ◌∙◌, ap}
use native.Mathlib.Omega.{arith}
use native.Mathlib.Numerals.{add-one}
use lib.Dec.{eqb}
use lib.ListN.{drop, drop_of_length-le, length, length-drop, length-set, set, take}
use lib.Seq.{drop-drop, length-take-le}
use Rattle.machine.proofs.Lists.{less_or_not}
use Rattle.std.specs.Prelude.{Ok, Err}
use Rattle.std.specs.declared.result.Result as code
use Rattle.card.specs.Result.{gives, number, refuses, told}
use Rattle.card.specs.declared.refusals.Reason.{Reason}
use Rattle.card.specs.declared.refusals.Reason.TheVariants.{TextAddress, TextLine}
use Rattle.card.specs.declared.refusals.Refusal.{Refusal}
use Rattle.std.proofs.lemmas.List.{take_all}
use Rattle.words.specs.Words.{split, up_to}
use Rattle.words.proofs.Clash.{impossible}
use Rattle.words.proofs.Cuts.{cut, parts, whole}
use Rattle.words.proofs.Walks.{up_to_most}
use Rattle.importer.specs.Coding.{Stores, coded, coded_cells, coded_header, coded_items, coded_line, coded_lines, next_read, stored, with_line, with_next}
use Rattle.importer.specs.Forms.{Item, Line, Lines, bad, before, good, header_read, judged, last_read, line_read, lines_read, right, wrong}

-- ---- a line that is followed by a line feed

pub next_cut : (index at : ℕ) (l r : List ℕ) →
    next_read index at (l ∷ split 10 r) ≡ with_next at (coded_line (line_read (split 32 l)) index) (at + suc (length l))
next_cut index at l r = rw (parts 10 r).are

pub lines_cut : (index at : ℕ) (l r : List ℕ) →
    lines_read index at (l ∷ split 10 r)
    ≡ judged (line_read (split 32 l)) index at (lines_read (suc index) (at + suc (length l)) (split 10 r))
unfolding lines_read
lines_cut index at l r = let p = parts 10 r in rw p.are

-- ---- the text from `at` on, cut at the next line feed, which lies at `end`

module _ (text : List ℕ) (at end : ℕ) (found : end ≡ at + length (up_to 10 (drop at text))) where
  pub line_cut : end < length text → at ≤ end →
      split 10 (drop at text) ≡ take (end - at) (drop at text) ∷ split 10 (drop (end + 1) text)
  line_cut h k =
      let size : end - at ≡ length (up_to 10 (drop at text)) = omega (arith, found) in
      let past : at + suc (end - at) ≡ end + 1 = omega (arith, k) in
      cut 10 (drop at text) (end - at) size (omega (arith, h, k, length-drop at text))
      ∙ ap (λ (r : List ℕ). take (end - at) (drop at text) ∷ split 10 r) (drop-drop (suc (end - at)) at text
      ∙ ap (λ (n : ℕ). drop n text) past)

  pub line_whole : end ≡ length text → split 10 (drop at text) ≡ drop at text ∷ []
  line_whole h = whole 10 (drop at text) (omega (arith, h, found, length-drop at text))

  pub line_size : end ≤ length text → at ≤ end → length (take (end - at) (drop at text)) ≡ end - at
  line_size h k = length-take-le (end - at) (drop at text) (omega (arith, h, k, length-drop at text))

  -- what was read of that line
  pub next_at : (index : ℕ) → end < length text → (coded : code.Result ℕ Reason) →
      coded_line (line_read (split 32 (take (end - at) (drop at text)))) index ≡ coded →
      next_read index at (split 10 (drop at text)) ≡ with_next at coded (end + 1)
  next_at index h coded e =
      let here : at ≤ end = omega (arith, found) in
      let past : at + suc (end - at) ≡ end + 1 = omega (arith, here) in
      ap (next_read index at) (line_cut h here)
      ∙ next_cut index at (take (end - at) (drop at text)) (drop (end + 1) text)
      ∙ rw (line_size (omega (arith, h)) here, past, e)

-- the same of a line that stands in front of the first line feed from `at` on
pub line_at : (text l r : List ℕ) (at index : ℕ) (coded : code.Result ℕ Reason) → at < length text →
    split 10 (take (length text - at) (drop at text)) ≡ l ∷ split 10 r →
    coded_line (line_read (split 32 l)) index ≡ coded →
    next_read index at (split 10 (drop at text)) ≡ with_next at coded (at + length l + 1)
line_at text l r at index coded h first e =
    let all : take (length text - at) (drop at text) ≡ drop at text =
    take_all _ _ (omega (arith, length-drop at text)) in
    let next : at + suc (length l) ≡ at + length l + 1 = omega arith in
    ap (next_read index at) (sym (ap (split 10) all) ∙ first) ∙ next_cut index at l r ∙ rw (e, next)

-- and of the header's
pub header_cut : (l r : List ℕ) →
    coded_header (l ∷ split 10 r) ≡ with_line (coded_cells (header_read (split 32 l))) (suc (length l))
header_cut l r = rw (parts 10 r).are

-- ---- what a line that is read says of all lines

last_bad : (l : List ℕ) (at : ℕ) → 1 ≤ length l → last_read l at ≡ bad 41 at
last_bad [] at h = absurd (omega (arith, h))
last_bad (b ∷ rest) at h = refl

ok_parts : {a b c d : ℕ} → ◌≡◌ {A = code.Result (ℕ × ℕ) Refusal} (Ok (a, b)) (Ok (c, d)) → (a ≡ c) × (b ≡ d)
ok_parts {a} {b} {c} {d} e =
    let same : ◌≡◌ {A = ℕ × ℕ} (a, b) (c, d) = cc in
    (ap (λ (p : ℕ × ℕ). p.0) same, ap (λ (p : ℕ × ℕ). p.1) same)

module _ (index at : ℕ) (rest : Lines) where
  judged_bad : (l : Line) (next : ℕ) (r : Refusal) → with_next at (coded_line l index) next ≡ Err r →
      judged l index at rest ≡ bad (number r.reason) r.place
  judged_bad wrong next r e = let same : record { reason = TextLine; place = at } ≡ r = cc in rw (← same)
  judged_bad (right address item) next r e = by (eqb address index) e
    where
      by : (t : Bool) → with_next at (cond t (Ok (coded item)) (Err TextAddress)) next ≡ Err r →
          cond t (before item rest) (bad 42 at) ≡ bad (number r.reason) r.place
      by true q = impossible cc
      by false q = let same : record { reason = TextAddress; place = at } ≡ r = cc in rw (← same)

  record Judged (l : Line) (word : ℕ) : Type 0 where
    pub item : Item
    pub is : coded item ≡ word
    pub first : judged l index at rest ≡ before item rest

  judged_good : (l : Line) (next word after : ℕ) → with_next at (coded_line l index) next ≡ Ok (word, after) →
      Judged l word
  judged_good wrong next word after e = impossible cc
  judged_good (right address item) next word after e = by (eqb address index) refl e
    where
      by : (t : Bool) → eqb address index ≡ t →
          with_next at (cond t (Ok (coded item)) (Err TextAddress)) next ≡ Ok (word, after) →
          Judged (right address item) word
      by true t q = record { item = item; is = (ok_parts q).0; first = rw t }
      by false t q = impossible cc

next_is : (l : Line) (index at next word after : ℕ) → with_next at (coded_line l index) next ≡ Ok (word, after) →
    next ≡ after
next_is wrong index at next word after e = impossible cc
next_is (right address item) index at next word after e = by (eqb address index) e
  where
    by : (t : Bool) → with_next at (cond t (Ok (coded item)) (Err TextAddress)) next ≡ Ok (word, after) →
        next ≡ after
    by true q = (ok_parts q).1
    by false q = impossible cc

-- the lines of a text from `at` on
pub record Step (text : List ℕ) (index at word next : ℕ) : Type 0 where
  pub item : Item
  pub is : coded item ≡ word
  pub first : lines_read index at (split 10 (drop at text))
      ≡ before item (lines_read (index + 1) next (split 10 (drop next text)))
  pub further : at < next
  pub inside : next ≤ length text

module _ (text : List ℕ) (index at : ℕ) (h : at < length text) where
  from : Lines
  from = lines_read index at (split 10 (drop at text))

  end : ℕ
  end = at + length (up_to 10 (drop at text))

  rest : Lines
  rest = lines_read (suc index) (end + 1) (split 10 (drop (end + 1) text))

  cut_here : end < length text → from ≡ judged (line_read (split 32 (take (end - at) (drop at text)))) index at rest
  unfolding end from lines_read rest
  cut_here less =
      let here : at ≤ end = omega arith in
      let size = line_size text at end refl (omega (arith, less)) here in
      let past : at + suc (end - at) ≡ end + 1 = omega (arith, here) in
      ap (lines_read index at) (line_cut text at end refl less here)
      ∙ lines_cut index at (take (end - at) (drop at text)) (drop (end + 1) text)
      ∙ rw (size, past)

  next_here : end < length text →
      next_read index at (split 10 (drop at text))
      ≡ with_next at (coded_line (line_read (split 32 (take (end - at) (drop at text)))) index) (end + 1)
  unfolding end
  next_here less = next_at text at end refl index less _ refl

  unended : length text ≤ end → split 10 (drop at text) ≡ drop at text ∷ []
  unfolding end
  unended most = line_whole text at end refl (omega (arith, most, up_to_most 10 (drop at text), length-drop at text, h))

  -- a line that isn't right
  pub stops : (r : Refusal) → next_read index at (split 10 (drop at text)) ≡ Err r →
      lines_read index at (split 10 (drop at text)) ≡ bad (number r.reason) r.place
  unfolding from lines_read
  stops r e =
      less_or_not end (length text)
      (λ less.
      let l = line_read (split 32 (take (end - at) (drop at text))) in
      cut_here less ∙ judged_bad index at rest l (end + 1) r (sym (next_here less) ∙ e))
      (λ most.
      let alone = unended most in
      let last : Err (record { reason = TextLine; place = at }) ≡ Err r = sym (ap (next_read index at) alone) ∙ e in
      let same : record { reason = TextLine; place = at } ≡ r = cc in
      ap (lines_read index at) alone ∙ last_bad (drop at text) at (omega (arith, h, length-drop at text)) ∙ rw (← same))

  -- a line that is
  pub goes_on : (word next : ℕ) → next_read index at (split 10 (drop at text)) ≡ Ok (word, next) →
      Step text index at word next
  unfolding end from rest
  goes_on word next e =
      less_or_not end (length text)
      (λ less.
      let l : Line = line_read (split 32 (take (end - at) (drop at text))) in
      let read = sym (next_here less) ∙ e in
      let j = judged_good index at rest l (end + 1) word next read in
      let after : end + 1 ≡ next = next_is l index at (end + 1) word next read in
      record {
        item = j.item;
        is = j.is;
        first =
            cut_here less ∙ j.first
            ∙ ap (λ (i : ℕ). before j.item (lines_read i (end + 1) (split 10 (drop (end + 1) text)))) (omega arith)
            ∙ ap (λ (n : ℕ). before j.item (lines_read (index + 1) n (split 10 (drop n text)))) after;
        further = omega (arith, after);
        inside = omega (arith, after, less);
      })
      (λ most.
      let never : Err (record { reason = TextLine; place = at }) ≡ Ok (word, next) =
      sym (ap (next_read index at) (unended most)) ∙ e in
      impossible cc)

-- ---- the loop

count_on : (index : ℕ) (item : Item) (rest : Lines) →
    coded_lines index (before item rest) ≡ coded_lines (index + 1) rest
count_on index item (good items) = ap gives (omega arith)
count_on index item (bad number place) = refl

store_on : (index word : ℕ) (item : Item) (rest : Lines) (words : List ℕ) → coded item ≡ word →
    stored index (before item rest) words ≡ stored (index + 1) rest (set words index word)
unfolding coded_items
store_on index word item (good items) words is = rw (add-one, is)
store_on index word item (bad number place) words is = refl

none_stored : (read : Lines) (number place : ℕ) (words after : List ℕ) → coded_lines 0 read ≡ refuses number place →
    Stores read words after
none_stored (good items) number place words after e = impossible cc
none_stored (bad n p) number place words after e = record { all = λ items q. impossible cc }

-- the lines from `at` on
abbrev lines_from : List ℕ → ℕ → ℕ → Lines
lines_from text index at = lines_read index at (split 10 (drop at text))

-- a loop that began at `start` has come to instruction `index`, at byte `at`: what is left to count and to store is
-- what makes the whole
pub record Going (text : List ℕ) (start : ℕ) (first words : List ℕ) (index at : ℕ) : Type 0 where
  pub counts : coded_lines 0 (lines_from text 0 start) ≡ coded_lines index (lines_from text index at)
  pub stores : stored 0 (lines_from text 0 start) first ≡ stored index (lines_from text index at) words
  pub long : length words ≡ length first

module _ {text : List ℕ} {start : ℕ} {first words : List ℕ} {index at : ℕ}
    (g : Going text start first words index at) where
  pub on : (word next : ℕ) (after : List ℕ) → Step text index at word next → after ≡ set words index word →
      Going text start first after (index + 1) next
  on word next after s is =
      record {
        counts = g.counts ∙ ap (coded_lines index) s.first ∙ count_on index s.item (lines_from text (index + 1) next);
        stores =
            g.stores ∙ ap (λ (r : Lines). stored index r words) s.first
            ∙ store_on index word s.item (lines_from text (index + 1) next) words s.is
            ∙ ap (stored (index + 1) (lines_from text (index + 1) next)) (sym is);
        long = rw is (length-set words index word) ∙ g.long;
      }

  pub record Read (answer : code.Result ℕ Refusal) (after : List ℕ) : Type 0 where
    pub answered : told (λ count. count) answer ≡ coded_lines 0 (lines_from text 0 start)
    pub kept : Stores (lines_from text 0 start) first after

  pub stopped : (answer : code.Result ℕ Refusal) (r : Refusal) (after : List ℕ) → at < length text →
      next_read index at (split 10 (drop at text)) ≡ Err r →
      told (λ count. count) answer ≡ refuses (number r.reason) r.place →
      Read answer after
  stopped answer r after h e is =
      let found = g.counts ∙ ap (coded_lines index) (stops text index at h r e) in
      record {
        answered = is ∙ sym found;
        kept = none_stored (lines_from text 0 start) (number r.reason) r.place first after found;
      }

  pub ended : length text ≤ at → Read (Ok index) words
  unfolding coded_items lines_read split
  ended h =
      let none : lines_from text index at ≡ good [] = rw (drop_of_length-le text h) in
      record {
        answered = ap gives (omega arith) ∙ sym (g.counts ∙ ap (coded_lines index) none);
        kept = record { all = λ items e. sym (g.stores ∙ ap (λ (r : Lines). stored index r words) none) };
      }
