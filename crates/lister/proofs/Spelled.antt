-- Laws of the pieces of a line as they are written, and that they make the line. Assumes nothing.
use Prim.Native.Nat.{ℕ, zero, suc, ◌≤◌}
use mathlib.Core.Bool.{Bool, true, false, cond}
use mathlib.Core.List.{List, [], ◌∷◌, ◌++◌, append_assoc}
use mathlib.Core.Logic.{◌≢◌}
use mathlib.Core.Path.{◌≡◌, refl, ◌∙◌, ap}
use native.Mathlib.Omega.{arith}
use lib.ListN.{length, take}
use lib.Seq.{sets-eq, take-append_seam}
use Rattle.opcodes.specs.Page.{name_of, rule_of}
use Rattle.instruction.specs.Word.{opcode_of, operand_of}
use Rattle.text.specs.Decimal.{signed}
use Rattle.text.specs.Lines.{Puts, line}
use Rattle.text.proofs.Lines.{both, of}
use Rattle.opcodes.specs.Rules.{has_operand}
use Rattle.lister.specs.Filling.{PiecesMakeLine, content_text, line_text, operand_text, piece_text, start_text}
use Rattle.lister.specs.Text.{address_of, operand_words}
use Rattle.lister.specs.declared.lines.Piece.TheVariants.{Start, Content, End}

-- ---- a piece by its line's number, and by its own

pub header_start : (line : ℕ) → line ≡ 0 → start_text 0 ≡ start_text line
header_start line e = rw e

pub instruction_content : (line w : ℕ) → line ≢ 0 → 32 ∷ name_of (opcode_of w) ++ operand_text w ≡ content_text line w
instruction_content zero w ne = absurd (ne refl)
instruction_content (suc index) w ne = refl

-- ---- the line

-- a line ends with the operand, where there is one, and a line feed
line_ends : (name : List ℕ) (w : ℕ) → name ++ (operand_text w ++ 10 ∷ []) ≡ line name (operand_words w)
unfolding line
line_ends name w = by (has_operand (rule_of (opcode_of w)))
  where
    by : (t : Bool) → name ++ (cond t (32 ∷ signed (operand_of w)) [] ++ 10 ∷ [])
        ≡ line name (cond t (signed (operand_of w) ∷ []) [])
    by true = refl
    by false = refl

pub pieces_make_line : PiecesMakeLine
unfolding line
pieces_make_line zero content = refl
pieces_make_line (suc index) content =
    let name = name_of (opcode_of content) in
    ap (λ (l : List ℕ). address_of index ++ 32 ∷ l) (append_assoc name (operand_text content) (10 ∷ [])
    ∙ line_ends name content)

-- its pieces are put one after the other
pub line_put : (line content : ℕ) {before first second after : List ℕ} {i j next : ℕ}
    → Puts (piece_text Start line content) before 0 first i → Puts (piece_text Content line content) first i second j
    → Puts (piece_text End line content) second j after next → Puts (line_text line content) before 0 after next
line_put line content p q t = of (pieces_make_line line content) (both p (both q t))

-- what was written to the start of a buffer stands there
pub start : {text before after : List ℕ} {n : ℕ} → Puts text before 0 after n → n ≤ length before → take n after ≡ text
start {text} {before} {after} {n} p h =
    let size : n ≡ length text = omega (arith, p.reached) in
    rw (p.written, size, sets-eq text before 0 (omega (arith, h, size))) (take-append_seam text _)
