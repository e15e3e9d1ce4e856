-- `names::opcode_named` meets its contract. The loop's invariant: from a line on the search finds what the whole search
-- finds. Assumes nothing.
use Prim.Native.Nat.{ℕ, ◌≤◌, ◌<◌}
use mathlib.Core.List.{List}
use mathlib.Core.Path.{◌≡◌, refl, sym, ◌∙◌, ap}
use native.Mathlib.Omega.{arith}
use lib.ListN.{length}
use Rattle.std.specs.Prelude.{Some}
use Rattle.opcodes.specs.Ascii.{same}
use Rattle.opcodes.specs.Page.{name_of, page}
use Rattle.opcodes.specs.declared.table.Entry.{Entry}
use Rattle.opcodes.proofs.Rows.{all_lines}
use Rattle.words.specs.Words.{up_to}
use Rattle.names.proofs.Table.{hit, miss, none_left, right}
use Rattle.names.proofs.opcode_named.Goals as goal
use Rattle.names.proofs.opcode_named.Goals.{After-is_name}

-- whether the word is the name of the line, as the table's entry has it
tested : (c : After-is_name) →
    c.is_name.result ≡ same (name_of c.loop-entry.entry-index) c.args.word.now
tested c =
    let word = c.args.word.now in
    let inside : c.loop-entry.entry-index < length page = omega (arith, all_lines, c.loop-entry-test.true) in
    c.is_name.ensures
    ∙ ap (λ (e : Entry). same (up_to 32 e.name) word) (c.all-table.ensures.line _ _ inside)
    ∙ ap (λ (name : List ℕ). same name word) (right _ inside).entry

pub loop-entry-init : goal.loop-entry-init
loop-entry-init c = refl

pub returns-then-is_name : goal.returns-then-is_name
returns-then-is_name c =
    let inside : c.loop-entry.entry-index < length page = omega (arith, all_lines, c.loop-entry-test.true) in
    let named = sym (tested (goal.at.returns-then-is_name c).After-is_name) ∙ c.if-is_name.true in
    ap (λ (e : Entry). Some e.number) (c.all-table.ensures.line _ _ inside)
    ∙ sym (c.loop-entry.invariant ∙ hit _ _ inside named)

pub loop-entry-preserved : goal.loop-entry-preserved
loop-entry-preserved c =
    let inside : c.loop-entry.entry-index < length page = omega (arith, all_lines, c.loop-entry-test.true) in
    let other = sym (tested (goal.at.loop-entry-preserved c).After-is_name) ∙ c.if-is_name.false in
    c.loop-entry.invariant ∙ miss _ _ inside other

pub returns : goal.returns
returns c =
    let over : length page ≤ c.loop-entry.entry-index = omega (arith, all_lines, c.loop-entry-test.false) in
    sym (c.loop-entry.invariant ∙ none_left _ _ over)
