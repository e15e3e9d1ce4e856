-- The code's table is the page. Assumes nothing.
use Prim.Native.Nat.{ℕ, ◌+◌, ◌<◌, ◌≤◌}
use mathlib.Core.Bool.{Bool, true, false}
use mathlib.Core.List.{List}
use mathlib.Core.Path.{◌≡◌, refl, ◌∙◌}
use native.Mathlib.Omega.{arith}
use borrow.Author.Tests.{eqb-false, eqb-true}
use lib.Dec.{eqb}
use lib.ListN.{get_or, length, length-set, set}
use lib.Seq.{get_or-set_other, get_or-set_same}
use Rattle.opcodes.specs.Page.{last_opcode, page, rule_of}
use Rattle.opcodes.specs.Table.{IsPage, entry_of}
use Rattle.opcodes.specs.declared.table.Entry.{Entry}
use Rattle.opcodes.specs.declared.table.Rule.{Rule}
use Rattle.opcodes.proofs.Each.{at_each, each}
use Rattle.opcodes.proofs.Same.{same_entry_lem, same_entry}

-- so many opcodes
pub all_lines : length page ≡ 41
unfolding page
all_lines = refl

-- the test of one entry: it is the line at its place
abbrev pub is_line : ℕ → Entry → Bool
is_line opcode entry = same_entry entry (entry_of opcode)

-- a table of which each entry passes it, as long as the page, is the page
pub is_page : (table : List Entry) → each is_line 0 table ≡ true → length table ≡ length page → IsPage table
is_page table e long =
    record {
      long = long;
      line = λ opcode other h. same_entry_lem _ _ (at_each is_line table other e opcode (omega (arith, long, h)));
    }

pub last_is : last_opcode ≡ 40
last_is = omega (arith, all_lines)

-- an opcode is in the page, or over the last
pub in_page : (opcode : ℕ) → opcode ≤ last_opcode → opcode < length page
in_page opcode h = omega (arith, h, all_lines)

pub to_last : (opcode : ℕ) → opcode < length page → opcode ≤ last_opcode
to_last opcode h = omega (arith, h, all_lines)

-- rules of which the first k stand in their places
pub record Filled (rules : List Rule) (k : ℕ) : Type 0 where
  pub long : length rules ≡ length page
  pub rule : (j : ℕ) (other : Rule) → j < k → get_or rules j other ≡ rule_of j

-- .. and one more
pub one_more : (rules : List Rule) (k : ℕ) (rule : Rule) → Filled rules k → k < length page → rule ≡ rule_of k →
    Filled (set rules k rule) (k + 1)
one_more rules k rule f known is =
    record {
      long = length-set rules k rule ∙ f.long;
      rule = λ j other h. by j other h (eqb j k) refl;
    }
  where
    by : (j : ℕ) (other : Rule) → j < k + 1 → (b : Bool) → eqb j k ≡ b → get_or (set rules k rule) j other ≡ rule_of j
    by j other h true e =
        let inside : k < length rules = omega (arith, known, f.long) in
        rw (eqb-true j k e) (get_or-set_same rules k rule other inside ∙ is)
    by j other h false e =
        let less : j < k = omega (arith, h, eqb-false j k e) in
        get_or-set_other rules k j rule other (λ same. omega (arith, less, same)) ∙ f.rule j other less
