-- "A listing writer fills a fixed buffer line by line": the pieces of a line, and what a writer has put.
use Rattle.std.specs.Prelude.{ℕ, zero, suc, ◌+◌, ◌*◌, cond, List, [], ◌∷◌, ◌++◌, ◌≡◌, length}
use denote.Ref.{at_last}
use Rattle.std.proofs.lemmas.List.Edits.{sets}
use Rattle.opcodes.specs.Page.{name_of, rule_of}
use Rattle.instruction.specs.Word.{opcode_of, operand_of}
use Rattle.text.specs.Decimal.{decimal, signed}
use Rattle.opcodes.specs.Rules.{has_operand}
use Rattle.lister.specs.Text.{address_of, cells_word, header_line, instruction_line}
use Rattle.lister.specs.declared.lines.Piece.{Piece}
use Rattle.lister.specs.declared.lines.Piece.TheVariants.{Start, Content, End}
use Rattle.lister.specs.declared.line_writer.Writer.{Writer}

-- line 0 is the header, with the number of cells; line i + 1 is that of instruction i, with its word
abbrev pub line_text : ℕ → ℕ → List ℕ
line_text zero cells = header_line cells
line_text (suc index) w = instruction_line index w

-- a line's first word
abbrev pub start_text : ℕ → List ℕ
start_text zero = cells_word
start_text (suc index) = address_of index

-- a space and the operand, where an instruction has one
abbrev pub operand_text : ℕ → List ℕ
operand_text w = cond (has_operand (rule_of (opcode_of w))) (32 ∷ signed (operand_of w)) []

-- a space and what the line shows: the number of cells, or the name and the operand
abbrev pub content_text : ℕ → ℕ → List ℕ
content_text zero cells = 32 ∷ decimal cells
content_text (suc index) w = 32 ∷ name_of (opcode_of w) ++ operand_text w

-- the pieces of a line: its first word, what it shows, and its line feed
abbrev pub piece_text : Piece → ℕ → ℕ → List ℕ
piece_text Start line content = start_text line
piece_text Content line content = content_text line content
piece_text End line content = 10 ∷ []

-- the three make the line. The proof is in proofs/Spelled.antt
abbrev pub PiecesMakeLine : Type 0
PiecesMakeLine = (line content : ℕ) → let text = λ (piece : Piece). piece_text piece line content in
    text Start ++ (text Content ++ text End) ≡ line_text line content

-- room for any piece, and for a line's three
abbrev pub piece_room : ℕ
piece_room = 33

abbrev pub line_room : ℕ
line_room = 3 * piece_room

-- a writer after a piece: the same borrow, at the buffer with the piece at the place reached, and the place after it
abbrev pub lined : Writer → Piece → ℕ → ℕ → Writer
lined w piece line content =
    record {
      out = at_last w.out (sets w.out.now w.at (piece_text piece line content));
      at = w.at + length (piece_text piece line content);
    }
