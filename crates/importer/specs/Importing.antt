-- Importing: "40 .., 41 .., 42 ..; then 3 to 5 as the writer gives them; 43 at 0, last, no room for the .. image".
use Rattle.std.specs.Prelude.{ℕ, suc, Bool, cond, ◌&&◌, ◌||◌, List, [], ◌∷◌, ◌++◌, Option, Some, None, ◌≡◌, refl, ltb, ℤ, pos, negsuc, drop, length}
use Rattle.std.specs.declared.result.Result as code
use Rattle.opcodes.specs.Page.{page, rule_of}
use Rattle.opcodes.specs.Rules.{allows, is_between}
use Rattle.instruction.specs.Word.{word_of}
use Rattle.card.specs.Image.{image_size, last_of, out_of_range}
use Rattle.card.specs.Result.{Result, gives, refuses, told}
use Rattle.card.specs.declared.refusals.Refusal.{Refusal}
use Rattle.writer.specs.Writing.{image_of, words_bytes}
use Rattle.digits.specs.Reading.{all_digits, is_decimal, value_from}
use Rattle.opcodes.specs.Ascii.{bytes, same}
use Rattle.words.specs.Words.{split}
use Rattle.names.specs.Names.{named_in}
use Rattle.importer.specs.Forms.{Item, Text, card, header_read, item_read, line_read, lines_read, operand_read, refused, text_read}

-- what the lines of a text say
abbrev pub said : List ℕ → Text
said text = text_read (split 10 text)

-- "a 24-bit two's complement operand": which numbers it can be
abbrev pub in_bits : ℤ → Bool
in_bits k = is_between (negsuc 8388607) (pos 8388607) k

-- the words of the instructions
abbrev pub item_word : Item → ℕ
item_word item = word_of item.opcode item.operand

unfoldable pub words_of : List Item → List ℕ
words_of [] = []
words_of (item ∷ items) = item_word item ∷ words_of items

-- number 5, "operand against its rule", of which none allows more than 24 bits
abbrev pub is_allowed : ℤ → Item → Bool
is_allowed last item = in_bits item.operand && allows (rule_of item.opcode) last item.operand

-- the index of the first instruction whose operand is against its rule, counted from `index`
unfoldable pub first_against : ℤ → ℕ → List Item → Option ℕ
first_against last index [] = None
first_against last index (item ∷ items) =
    cond (is_allowed last item) (first_against last (suc index) items) (Some index)

abbrev pub after_rules : Option ℕ → Result → Result
after_rules (Some index) rest = refuses 5 index
after_rules None rest = rest

-- the answer on what a text says, which gives the image's size, for a buffer with so much room. No text gives 4: a
-- name that isn't known is a line of another form
unfoldable pub answer_of : Text → ℕ → Result
answer_of (refused number place) room = refuses number place
answer_of (card cells items) room =
    cond (out_of_range cells || out_of_range (length items)) (refuses 3 5)
    (after_rules (first_against (last_of (length items)) 0 items)
    (cond (ltb room (image_size (length items))) (refuses 43 0)
    (gives (image_size (length items)))))

-- the image that a text gives
unfoldable pub image_said : Text → List ℕ
image_said (card cells items) = image_of cells (words_of items)
image_said (refused number place) = []

-- the buffer afterwards: the image and the old bytes past it, or, after a refusal, what it was
abbrev pub imported : Result → Text → List ℕ → List ℕ
imported (gives size) said buffer = image_said said ++ drop size buffer
imported (refuses number place) said buffer = buffer

-- an answer, and the buffer that it leaves
pub record Leaves (said : Text) (before : List ℕ) (answer : code.Result ℕ Refusal) (after : List ℕ) : Type 0 where
  pub answered : told (λ size. size) answer ≡ answer_of said (length before)
  pub left : after ≡ imported (answer_of said (length before)) said before

-- the promise of the call, for every text and buffer
abbrev pub Imports : List ℕ → List ℕ → code.Result ℕ Refusal → List ℕ → Type 0
Imports text = Leaves (said text)

-- "P2 lists as `cells 1`, `0000 loadc 7`, `0001 exit`", and back: the image has 17 bytes, for which 16 are no room
p2_said : Text
p2_said = said (bytes "cells 1\n0000 loadc 7\n0001 exit\n")

p2_image : image_said p2_said ≡ 0 ∷ 0 ∷ 0 ∷ 13 ∷ 1 ∷ 0 ∷ 1 ∷ 0 ∷ 2 ∷ 1 ∷ 0 ∷ 0 ∷ 7 ∷ 28 ∷ 0 ∷ 0 ∷ 0 ∷ []
unfolding all_digits bytes header_read image_said is_decimal item_read line_read lines_read named_in operand_read page p2_said same split text_read value_from words_bytes words_of
p2_image = refl

p2_imported : (answer_of p2_said 17 ≡ gives 17) × (answer_of p2_said 16 ≡ refuses 43 0)
unfolding all_digits answer_of bytes first_against header_read is_decimal item_read line_read lines_read named_in operand_read page p2_said same split text_read value_from
p2_imported = (refl, refl)
