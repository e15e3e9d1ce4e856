-- What a card gives the engine: its words, and how many. Assumes nothing.
use Prim.Native.Nat.{ℕ, ◌*◌, ◌/◌, ◌<◌}
use mathlib.Core.Path.{◌≡◌, ap, sym, ◌∙◌}
use mathlib.Core.List.{List}
use mathlib.Core.Logic.{∥∥₁_elim}
use native.Mathlib.Nat.{ℕ_set}
use native.Mathlib.Omega.{arith}
use lib.ListN.{length, length-drop, length-take, take}
use lib.Seq.{get_or-take}
use Rattle.std.proofs.Props.{props}
use Rattle.std.proofs.lemmas.Grind.{same_number_lists}
use Rattle.card.proofs.Header.{accepts, code_part}
use Rattle.card.proofs.Words.{count, word}
use Rattle.card.specs.Code.{Unpacked, words_of}
use Rattle.card.specs.Image.{count_of}
use Rattle.engine.specs.Accepted.{Accepted, Carded}
use Rattle.machine.proofs.Held.{card_of_lem}
use Rattle.machine.proofs.Targets.{Card}

Card-prop : (words : List ℕ) → IsProp (Card words)
Card-prop words = hlevel props

-- n of them, and every jump within them
pub card_words : {code : List ℕ} → Carded code → Card (words_of code)
card_words card = ∥∥₁_elim card (Card-prop _) (λ a. rw a.part (card_of_lem a.image a.cells a.read))

accepted_long : {code : List ℕ} → Accepted code → length code ≡ 4 * length (words_of code)
accepted_long {code} a =
    let is = accepts a.image a.cells a.read in
    let part = a.part ∙ code_part a.image a.cells a.read in
    let bytes : length code ≡ 4 * count_of a.image =
    omega (arith, ap length part, length-drop 9 a.image, is.long.follows, is.sized.exact) in
    omega (arith, bytes, count code (count_of a.image) bytes)

-- four bytes each
pub long : {code : List ℕ} → Carded code → length code ≡ 4 * length (words_of code)
long card = ∥∥₁_elim card (ℕ_set _ _) accepted_long

pub quarter : {code : List ℕ} → Carded code → length code ≡ 4 * (length code / 4)
quarter card = omega (arith, long card)

-- the words unpacked are all of the card's, or none
pub unpacked_all : {code words : List ℕ} {n k : ℕ} → length code ≡ 4 * n → Unpacked code n words k →
    0 < length (take k words) → take k words ≡ words_of code
unpacked_all {code} {words} {n} {k} whole u some =
    let most : length (take k words) ≡ k = omega (arith, length-take k words, u.long) in
    let all : k ≡ n = u.all (omega (arith, some, most)) in
    same_number_lists (take k words) (words_of code) (omega (arith, most, all, count code n whole))
    (λ i below.
    let here : i < k = omega (arith, below, most) in
    get_or-take k words i 0 here ∙ u.word i here ∙ sym (word code i (omega (arith, here, all, whole))).is)
