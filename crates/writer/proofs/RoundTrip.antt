-- Reader and writer undo each other. Assumes nothing.
use Prim.Native.Nat.{ℕ, zero, suc, ◌+◌, ◌*◌, ◌/◌, ◌%◌, ◌<◌, ◌≤◌}
use mathlib.Core.Path.{◌≡◌, refl, sym, ap, ◌∙◌}
use mathlib.Core.List.{List, [], ◌∷◌, ◌++◌}
use native.Mathlib.Omega.{arith}
use lib.ListN.{length, get_or, drop, length-drop}
use lib.Seq.{drop-cons, get_or-drop, take_at}
use Rattle.instruction.specs.Bytes.{half_at, word_at, half_bytes, word_bytes}
use Rattle.card.specs.Code.{Fine, first_bad, words_of}
use Rattle.card.specs.Image.{cells_of, code_of, count_of, following_of, image_size, last_of, read_of}
use Rattle.card.specs.Result.{gives}
use Rattle.writer.specs.Writing.{image_of, words_bytes, write_of}
use Rattle.writer.specs.RoundTrip.{Each, WrittenIsRead, ReadIsWritten}
use Rattle.card.proofs.Header.{Accepts, InRange, accepted, accepts, code_part}
use Rattle.writer.proofs.Success.{Writes, succeeds, writes}
use Rattle.writer.proofs.Stores.{length_image}
use Rattle.card.proofs.Words.{count}

-- two bytes are a number below 2^16, and back
half_read : (x : ℕ) (s : List ℕ) → x < 65536 → half_at (half_bytes x ++ s) 0 ≡ x
half_read x s h = omega arith

word_read : (w : ℕ) (s : List ℕ) → w < 4294967296 → word_at (word_bytes w ++ s) 0 ≡ w
word_read w s h = omega arith

half_written : (a b : ℕ) → a < 256 → b < 256 → half_bytes (a * 256 + b) ≡ a ∷ b ∷ []
half_written a b ha hb =
    let first : (a * 256 + b) / 256 % 256 ≡ a = omega arith in
    let second : (a * 256 + b) % 256 ≡ b = omega arith in
    λ i. first i ∷ second i ∷ []

word_written : (a b c d : ℕ) → a < 256 → b < 256 → c < 256 → d < 256 →
    word_bytes (word_at (a ∷ b ∷ c ∷ d ∷ []) 0) ≡ a ∷ b ∷ c ∷ d ∷ []
word_written a b c d ha hb hc hd =
    let w : ℕ = word_at (a ∷ b ∷ c ∷ d ∷ []) 0 in
    let first : w / 65536 / 256 % 256 ≡ a = omega arith in
    let second : w / 65536 % 256 ≡ b = omega arith in
    let third : w % 65536 / 256 % 256 ≡ c = omega arith in
    let fourth : w % 65536 % 256 ≡ d = omega arith in
    λ i. first i ∷ second i ∷ third i ∷ fourth i ∷ []

words_read : (ws : List ℕ) → Each 4294967296 ws → words_of (words_bytes ws) ≡ ws
unfolding words_of words_bytes
words_read [] h = refl
words_read (w ∷ ws) h = λ i. word_read w [] (h 0) i ∷ words_read ws (λ k. h (suc k)) i

words_written : (code : List ℕ) (n : ℕ) → Each 256 code → length code ≡ 4 * n → words_bytes (words_of code) ≡ code
unfolding words_of words_bytes
words_written [] n h e = refl
words_written (a ∷ []) n h e = absurd (omega arith)
words_written (a ∷ b ∷ []) n h e = absurd (omega arith)
words_written (a ∷ b ∷ c ∷ []) n h e = absurd (omega arith)
words_written (a ∷ b ∷ c ∷ d ∷ s) zero h e = absurd (omega arith)
words_written (a ∷ b ∷ c ∷ d ∷ s) (suc n) h e =
    rw (words_written s n (λ k. h (suc (suc (suc (suc k))))) (omega arith))
    (ap (λ (l : List ℕ). l ++ s) (word_written a b c d (h 0) (h 1) (h 2) (h 3)))

-- an image that was written is accepted
accept_image : (cells : ℕ) (list : List ℕ) → InRange cells → InRange (length list) → Each 4294967296 list →
    first_bad (last_of (length list)) 0 list ≡ Fine → Accepts (image_of cells list) cells
accept_image cells list c n w good =
    let following : following_of (image_of cells list) ≡ 5 + 4 * length list = word_read (5 + 4 * length list) (1 ∷ half_bytes cells ++ half_bytes (length list) ++ words_bytes list) (omega arith) in
    let globals : cells_of (image_of cells list) ≡ cells = omega arith in
    let count : count_of (image_of cells list) ≡ length list = omega arith in
    record {
      long = record { follows = omega (arith, length_image cells list); least = omega arith };
      version = refl;
      sized = record { cells = rw globals c; count = rw count n; exact = rw (following, count) };
      globals = globals;
      code = rw (count, words_read list w) good;
    }

-- the image's bytes, taken apart at the header
nine : (image : List ℕ) → 9 ≤ length image →
    image
    ≡ get_or image 0 0
    ∷ get_or image 1 0
    ∷ get_or image 2 0
    ∷ get_or image 3 0
    ∷ get_or image 4 0
    ∷ get_or image 5 0
    ∷ get_or image 6 0
    ∷ get_or image 7 0
    ∷ get_or image 8 0
    ∷ drop 9 image
nine image h =
    let at : (i : ℕ) → i < 9 → drop i image ≡ get_or image i 0 ∷ drop (suc i) image = λ i below. drop-cons image i 0 (omega arith) in
    at 0 (omega arith)
    ∙ ap (λ (l : List ℕ). get_or image 0 0 ∷ l) (at 1 (omega arith)
    ∙ ap (λ (l : List ℕ). get_or image 1 0 ∷ l) (at 2 (omega arith)
    ∙ ap (λ (l : List ℕ). get_or image 2 0 ∷ l) (at 3 (omega arith)
    ∙ ap (λ (l : List ℕ). get_or image 3 0 ∷ l) (at 4 (omega arith)
    ∙ ap (λ (l : List ℕ). get_or image 4 0 ∷ l) (at 5 (omega arith)
    ∙ ap (λ (l : List ℕ). get_or image 5 0 ∷ l) (at 6 (omega arith)
    ∙ ap (λ (l : List ℕ). get_or image 6 0 ∷ l) (at 7 (omega arith)
    ∙ ap (λ (l : List ℕ). get_or image 7 0 ∷ l) (at 8 (omega arith)))))))))

-- the image of what was read from an accepted image
image_again : (image : List ℕ) (cells : ℕ) → Each 256 image → Accepts image cells →
    image_of cells (words_of (drop 9 image)) ≡ image
image_again image cells h a =
    let code : length (drop 9 image) ≡ 4 * count_of image = omega (arith, length-drop 9 image, a.long.follows, a.sized.exact) in
    let n : length (words_of (drop 9 image)) ≡ count_of image = count (drop 9 image) (count_of image) code in
    let l : 5 + 4 * length (words_of (drop 9 image)) ≡ following_of image = rw n (sym a.sized.exact) in
    let following = ap word_bytes l ∙ word_written _ _ _ _ (h 0) (h 1) (h 2) (h 3) in
    let globals = ap half_bytes (sym a.globals) ∙ half_written _ _ (h 5) (h 6) in
    let instructions = ap half_bytes n ∙ half_written _ _ (h 7) (h 8) in
    let bytes : words_bytes (words_of (drop 9 image)) ≡ drop 9 image = words_written (drop 9 image) (count_of image) (λ i. rw get_or-drop (h (9 + i))) code in
    (λ i. following i ++ sym a.version i ∷ globals i ++ instructions i ++ bytes i)
    ∙ sym (nine image (omega (arith, a.long.follows)))

pub written_is_read : WrittenIsRead
written_is_read cells size list buffer h e = again _ (take_at (image_of cells list) (drop size buffer) size (length_image cells list ∙ sym w.exact))
  where
    w : Writes cells list (length buffer) size
    w = writes cells list (length buffer) size e

    again : (image : List ℕ) → image ≡ image_of cells list →
        (read_of image ≡ gives cells) × (words_of (code_of image) ≡ list)
    again image is =
        let read : read_of image ≡ gives cells = rw is (accepted (image_of cells list) cells (accept_image cells list w.globals w.count h w.good)) in
        (read, rw (code_part image cells read, is) (words_read list h))

pub read_is_written : ReadIsWritten
read_is_written cells image buffer h room e =
    let a = accepts image cells e in
    let list : List ℕ = words_of (drop 9 image) in
    let is : words_of (code_of image) ≡ list = ap words_of (code_part image cells e) in
    let code : length (drop 9 image) ≡ 4 * count_of image = omega (arith, length-drop 9 image, a.long.follows, a.sized.exact) in
    let n : length list ≡ count_of image = count (drop 9 image) (count_of image) code in
    let size : length image ≡ image_size (length list) = omega (arith, a.long.follows, a.sized.exact) in
    let answer : write_of cells list (length buffer) ≡ gives (length image) =
    succeeds cells list (length buffer) (length image)
    (record {
      globals = rw (← a.globals) a.sized.cells;
      count = rw n a.sized.count;
      good = rw n a.code;
      fits = rw (← size) room;
      exact = size;
    }) in
    (rw is answer, rw (is, answer) (ap (λ (l : List ℕ). l ++ drop (length image) buffer) (image_again image cells h a)))
