-- What the importer's inner functions answer: the definitions of Forms as the code's types hold them, operands as
-- bits and instructions as words.
use Rattle.std.specs.Prelude.{ℕ, suc, ◌+◌, cond, List, [], ◌∷◌, Option, Some, None, Ok, Err, ◌≡◌, eqb, ltb, length, take, ℤ}
use Rattle.std.specs.declared.result.Result as code
use Rattle.std.proofs.lemmas.List.Edits.{sets}
use Rattle.instruction.specs.Word.{bits_of}
use Rattle.card.specs.Result.{Result, gives, refuses, told}
use Rattle.card.specs.declared.refusals.Reason.{Reason}
use Rattle.card.specs.declared.refusals.Reason.TheVariants.{TextAddress, TextLine}
use Rattle.card.specs.declared.refusals.Refusal.{Refusal}
use Rattle.writer.specs.Writing.{buffer_of, write_of}
use Rattle.digits.specs.Reading.{capped, value_of}
use Rattle.words.specs.Words.{split}
use Rattle.importer.specs.Forms.{Item, Line, Lines, bad, good, header_read, is_address, line_read, right, wrong}
use Rattle.importer.specs.Importing.{in_bits, item_word}
use Rattle.importer.specs.declared.header.Header.{Header}
use Rattle.importer.specs.declared.operands.BadOperand.{BadOperand}
use Rattle.importer.specs.declared.operands.BadOperand.TheVariants.{Beyond, Form}

-- an operand by its bits
abbrev pub coded_operand : Option ℤ → code.Result ℕ BadOperand
coded_operand None = Err Form
coded_operand (Some k) = cond (in_bits k) (Ok (bits_of k)) (Err Beyond)

-- an instruction by its word; where the operand is beyond 24 bits, by one that is against its rule too: halt 1
abbrev pub coded : Item → ℕ
coded item = cond (in_bits item.operand) (item_word item) 1

unfoldable pub coded_items : List Item → List ℕ
coded_items [] = []
coded_items (item ∷ items) = coded item ∷ coded_items items

abbrev pub coded_entry : Option Item → Option ℕ
coded_entry None = None
coded_entry (Some item) = Some (coded item)

-- an address of four digits
abbrev pub address_read : List ℕ → Option ℕ
address_read word = cond (is_address word) (Some (value_of word)) None

-- the line of instruction `index`: 41 for one of another form, 42 for another address
abbrev pub coded_line : Line → ℕ → code.Result ℕ Reason
coded_line wrong index = Err TextLine
coded_line (right at item) index = cond (eqb at index) (Ok (coded item)) (Err TextAddress)

-- the same, with its place and that of the next line
abbrev pub with_next : ℕ → code.Result ℕ Reason → ℕ → code.Result (ℕ × ℕ) Refusal
with_next at (Ok word) next = Ok (word, next)
with_next at (Err reason) next = Err (record { reason = reason; place = at })

-- the first of the lines that begin at `at`
abbrev pub next_read : ℕ → ℕ → List (List ℕ) → code.Result (ℕ × ℕ) Refusal
next_read index at [] = Err (record { reason = TextLine; place = at })
next_read index at (l ∷ []) = Err (record { reason = TextLine; place = at })
next_read index at (l ∷ m ∷ more) = with_next at (coded_line (line_read (split 32 l)) index) (at + suc (length l))

-- all lines from that of instruction `index` on: how many instructions there are then, or the first refusal
abbrev pub coded_lines : ℕ → Lines → Result
coded_lines index (good items) = gives (index + length items)
coded_lines index (bad number place) = refuses number place

-- the words of lines that are all right, stored from `index` on
abbrev pub stored : ℕ → Lines → List ℕ → List ℕ
stored index (good items) words = sets words index (coded_items items)
stored index (bad number place) words = []

pub record Stores (read : Lines) (before after : List ℕ) : Type 0 where
  pub all : (items : List Item) → read ≡ good items → after ≡ stored 0 read before

-- the number of cells, as far as it is told apart
abbrev pub coded_cells : Option ℕ → Option ℕ
coded_cells None = None
coded_cells (Some cells) = Some (capped cells)

-- the header, with the place of the next line
abbrev pub with_line : Option ℕ → ℕ → Option Header
with_line None next = None
with_line (Some cells) next = Some (record { cells = cells; next = next })

abbrev pub coded_header : List (List ℕ) → Option Header
coded_header [] = None
coded_header (l ∷ []) = None
coded_header (l ∷ m ∷ more) = with_line (coded_cells (header_read (split 32 l))) (suc (length l))

-- the writer's answer with the importer's number for no room
abbrev pub renumbered : Result → Result
renumbered (gives size) = gives size
renumbered (refuses number place) = cond (eqb number 8) (refuses 43 0) (refuses number place)

-- a card of `count` instructions, whose first 4,096 stand in `words`
abbrev pub card_writing : ℕ → ℕ → List ℕ → ℕ → Result
card_writing cells count words room = cond (ltb 4096 count) (refuses 3 5) (write_of cells (take count words) room)

pub record WroteCard (cells count : ℕ) (words before : List ℕ) (answer : code.Result ℕ Refusal)
    (after : List ℕ) : Type 0 where
  pub answered : told (λ size. size) answer ≡ renumbered (card_writing cells count words (length before))
  pub left : after ≡ buffer_of (card_writing cells count words (length before)) cells (take count words) before
