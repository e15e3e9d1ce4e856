-- Laws of listing one line: what the answer is, and what it leaves. Assumes nothing.
use Prim.Native.Nat.{ℕ, zero, suc, ◌+◌, ◌≤◌, ◌<◌}
use mathlib.Core.List.{List, ◌++◌}
use mathlib.Core.Path.{◌≡◌, refl, sym, ◌∙◌, ap}
use native.Mathlib.Omega.{arith}
use borrow.Author.Tests.{le-ltb, lt-ltb}
use lib.ListN.{drop, length, take}
use lib.Seq.{sets, sets-eq}
use Rattle.card.specs.Image.{Headed, count_of, read_of}
use Rattle.std.specs.Prelude.{IsErrAnd, None, Some, Ok, Err, Option}
use Rattle.std.specs.declared.result.Result as code
use Rattle.card.specs.Result.{gives, number, refuses}
use Rattle.card.specs.declared.refusals.Reason.TheVariants.{TextNoRoom}
use Rattle.card.specs.declared.refusals.Refusal.{Refusal}
use Rattle.card.proofs.Header.{accepts, headed}
use Rattle.opcodes.specs.Ascii.{bytes}
use Rattle.text.specs.Lines.{Puts, line}
use Rattle.lister.specs.Filling.{line_text}
use Rattle.lister.specs.Listing.{Leaves, Lists, content_of, image_line, line_of, list_of}
use Rattle.words.proofs.Clash.{impossible}
use Rattle.lister.proofs.Spelled.{start}

-- ---- a line of an accepted image

-- no line is empty
some_text : (line content : ℕ) → 1 ≤ length (line_text line content)
unfolding bytes line
some_text zero content = omega arith
some_text (suc index) content = omega arith

module _ (image before : List ℕ) (line : ℕ) where
  pub past : count_of image < line → Leaves (line_of image line (length before)) image line before (Ok None) before
  past h =
      rw (lt-ltb _ _ h, le-ltb (length before) 0 (omega arith))
      (record { answered = refl; some = λ k e. impossible cc; left = rw (lt-ltb _ _ h) })

  -- the line, of n bytes, was made at the start of another buffer
  module _ (content n : ℕ) {lent made : List ℕ} (within : line ≤ count_of image)
      (shown : content ≡ content_of image line)
      (put : Puts (line_text line content) lent 0 made n) where
    reached : n ≡ 0 + length (image_line image line)
    reached = rw (← shown) put.reached

    size : n ≡ length (image_line image line)
    size = omega (arith, reached)

    pub no_room : length before < n → (answer : code.Result (Option ℕ) Refusal) (r : Refusal) →
        r ≡ record { reason = TextNoRoom; place = 0 } → IsErrAnd answer (λ e. e ≡ r) →
        Leaves (line_of image line (length before)) image line before answer before
    no_room full (Ok written) r is h = absurd h
    no_room full (Err e) r is h =
        rw (le-ltb _ _ within, ← size, lt-ltb _ _ full)
        (record { answered = rw h (rw is refl); some = λ k e. impossible cc; left = refl })

    pub copied : {after : List ℕ} {next : ℕ} → n ≤ length before → n ≤ length lent →
        Puts (take n made) before 0 after next
        → Leaves (line_of image line (length before)) image line before (Ok (Some n)) after
    copied {after} {next} fits room p =
        let text : take n made ≡ image_line image line = start put room ∙ ap (line_text line) shown in
        let left : after ≡ image_line image line ++ drop n before =
        p.written ∙ ap (sets before 0) text ∙ sets-eq (image_line image line) before 0 (omega (arith, fits, size))
        ∙ ap (λ (k : ℕ). image_line image line ++ drop k before) (sym reached) in
        let most : 1 ≤ n = omega (arith, size, some_text line (content_of image line)) in
        rw (le-ltb _ _ within, ← size, le-ltb _ _ fits)
        (record {
          answered = refl;
          some = λ k e. (let same : n ≡ k = cc in omega (arith, most, same));
          left = rw (le-ltb _ _ within) left;
        })

-- ---- any image

pub refused : (image before : List ℕ) (line : ℕ) (answer : code.Result (Option ℕ) Refusal) (r : Refusal) →
    read_of image ≡ refuses (number r.reason) r.place → IsErrAnd answer (λ e. e ≡ r) →
    Lists image line before answer before
unfolding list_of
refused image before line (Ok written) r e h = absurd h
refused image before line (Err d) r e h =
    rw e (record { answered = rw h refl; some = λ k is. impossible cc; left = refl })

pub head : (image : List ℕ) (cells : ℕ) → read_of image ≡ gives cells → Headed image
head image cells e = let a = accepts image cells e in headed image a.long a.sized

pub listed_as : (image before : List ℕ) (line cells : ℕ) → read_of image ≡ gives cells →
    list_of image line (length before) ≡ line_of image line (length before)
unfolding list_of
listed_as image before line cells e = rw e
