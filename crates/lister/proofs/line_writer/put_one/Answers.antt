-- `lister::line_writer::put_one` meets its contract. Assumes nothing.
use Rattle.std.proofs.Common.{length, ◌≡◌, ℕ, List, MutBor, arith, ap, ◌∙◌}
use lib.Seq.{length-sets}
use Rattle.text.specs.Lines.{Puts}
use Rattle.lister.specs.Filling.{line_text, lined, piece_text}
use Rattle.lister.specs.declared.line_writer.Writer.{Writer}
use Rattle.lister.specs.declared.lines.Piece.{Piece}
use Rattle.lister.specs.declared.lines.Piece.TheVariants.{Start, Content, End}
use Rattle.lister.proofs.Spelled.{line_put}
use Rattle.lister.proofs.line_writer.put_one.Goals as goal

-- a piece leaves the buffer as long as it was
as_long : (line content : ℕ) (piece : Piece) (w r : Writer) → r ≡ lined w piece line content →
    length r.out.now ≡ length w.out.now
as_long line content piece w r e =
    ap (λ (x : Writer). length x.out.now) e ∙ length-sets w.out.now w.at (piece_text piece line content)

-- what a piece puts
puts : (line content : ℕ) (piece : Piece) (w r : Writer) → r ≡ lined w piece line content →
    Puts (piece_text piece line content) w.out.now w.at r.out.now r.at
puts line content piece w r e =
    record { written = ap (λ (x : Writer). x.out.now) e; reached = ap (λ (x : Writer). x.at) e }

-- the three pieces put the line
three : (line content : ℕ) (before : List ℕ) (w a b d : Writer) → w.out.now ≡ before → w.at ≡ 0 →
    a ≡ lined w Start line content → b ≡ lined a Content line content → d ≡ lined b End line content →
    Puts (line_text line content) before 0 d.out.now d.at
three line content before w a b d new start p q r =
    let first = rw (new, start) at (puts line content Start w a p) in
    line_put line content first (puts line content Content a b q) (puts line content End b d r)

pub put-requires-2 : goal.put-requires-2
put-requires-2 c =
    let new = ap (λ (x : MutBor (List ℕ)). length x.now) c.new-w.ensures.lent in
    let first = as_long c.args.line c.args.content Start c.new-w.result c.put.new.self c.put.ensures.puts in
    omega (arith, new, first)

pub put-requires-3 : goal.put-requires-3
put-requires-3 c =
    let new = ap (λ (x : MutBor (List ℕ)). length x.now) c.new-w.ensures.lent in
    let first = as_long c.args.line c.args.content Start c.new-w.result c.put.new.self c.put.ensures.puts in
    let second = as_long c.args.line c.args.content Content c.put.new.self c.put-2.new.self c.put-2.ensures.puts in
    omega (arith, new, first, second)

pub returns-clause-puts : goal.returns-clause-puts
returns-clause-puts c =
    let new = ap (λ (x : MutBor (List ℕ)). x.now) c.new-w.ensures.lent in
    let all =
    three c.args.line c.args.content c.args.out.now c.new-w.result c.put.new.self c.put-2.new.self c.put-3.new.self
    new c.new-w.ensures.start c.put.ensures.puts c.put-2.ensures.puts c.put-3.ensures.puts in
    record { written = (grind arith) ∙ all.written; reached = c.place.ensures ∙ all.reached }
