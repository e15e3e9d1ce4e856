-- Every jump of an accepted card goes to an instruction of the card. Assumes nothing.
use Prim.Native.Nat.{ℕ, zero, suc, ◌<◌, ◌≤◌}
use mathlib.Core.Path.{◌≡◌, refl, ap}
use mathlib.Core.Bool.{Bool, true, ◌||◌}
use mathlib.Core.List.{List, [], ◌∷◌}
use mathlib.Core.Logic.{◌≢◌}
use native.Mathlib.Omega.{arith}
use lib.Dec.{eqb}
use lib.IntN.{ℤ, pos, negsuc, nat_abs}
use lib.ListN.{length, get_or, get_or-eq_default}
use lib.Signed.{le_z}
use borrow.Author.Tests.{ne_eqb, eqb-true, leb-true, le-ltb}
use Rattle.opcodes.specs.Page.{last_opcode, page, rule_of}
use Rattle.opcodes.specs.Rules.{allows, is_between}
use Rattle.instruction.specs.Word.{opcode_of, operand_of}
use Rattle.instruction.specs.Rules.{Verdict, check_of}
use Rattle.instruction.specs.Rules as verdict
use Rattle.instruction.proofs.Checks.{passed}
use Rattle.card.specs.Code.{Scan, first_bad, or_else, scan_of}
use Rattle.card.specs.Image.{last_of}
use Rattle.card.specs.Code as scan
use Rattle.machine.specs.Instructions.{Instruction, decoded, instruction_of, opcodes}
use Rattle.machine.specs.Instructions as instr
use Rattle.machine.specs.Lists.{every}
use Rattle.machine.proofs.Every.{and_second, every_true, never, or_true}
use Rattle.machine.proofs.Lists.{less_or_not, same_or_not}

-- where a jump goes, and 0 for any other instruction
unfoldable pub target_of : Instruction → ℕ
target_of (instr.jump a) = a
target_of (instr.jumpz a) = a
target_of instr.halt = 0
target_of (instr.loadc k) = 0
target_of instr.load = 0
target_of instr.store = 0
target_of (instr.loadr k) = 0
target_of (instr.storer k) = 0
target_of (instr.alloc k) = 0
target_of instr.pop = 0
target_of instr.dup = 0
target_of instr.add = 0
target_of instr.sub = 0
target_of instr.mul = 0
target_of instr.div = 0
target_of instr.«mod» = 0
target_of instr.neg = 0
target_of instr.eq = 0
target_of instr.neq = 0
target_of instr.less = 0
target_of instr.leq = 0
target_of instr.not = 0
target_of instr.mark = 0
target_of instr.call = 0
target_of instr.return = 0
target_of instr.new = 0
target_of instr.create = 0
target_of instr.yield = 0
target_of instr.exit = 0
target_of instr.join = 0
target_of instr.finalize = 0
target_of instr.newmutex = 0
target_of instr.lock = 0
target_of instr.unlock = 0
target_of instr.newcond = 0
target_of instr.wait = 0
target_of instr.signal = 0
target_of instr.broadcast = 0
target_of instr.newsema = 0
target_of instr.up = 0
target_of instr.down = 0

-- only opcodes 20 and 21 are jumps: a test over the table of opcodes
plain_entry : ℤ → ℕ → Bool
plain_entry k op = eqb op 20 || (eqb op 21 || eqb (target_of (get_or (opcodes k) op instr.halt)) 0)

table : (k : ℤ) → every (length page) (plain_entry k) ≡ true
unfolding every page plain_entry target_of
table k = refl

-- an instruction for each line of the page
as_many : (k : ℤ) → length (opcodes k) ≡ length page
unfolding page
as_many k = refl

past : (k : ℤ) (op : ℕ) → length page ≤ op → get_or (opcodes k) op instr.halt ≡ instr.halt
past k op h =
    let over : length (opcodes k) ≤ op = rw (as_many k) h in
    get_or-eq_default (opcodes k) instr.halt over

no_target : (op : ℕ) (k : ℤ) → op ≢ 20 → op ≢ 21 → target_of (instruction_of op k) ≡ 0
unfolding instruction_of plain_entry
no_target op k a b =
    less_or_not op (length page)
    (λ h.
    let row = every_true (length page) (plain_entry k) (table k) op h in
    eqb-true _ 0 (or_true (eqb op 21) _ (or_true (eqb op 20) _ row (ne_eqb op 20 a)) (ne_eqb op 21 b)))
    (λ h. rw (past k op h) (unfold target_of in refl))

-- an operand from 0 to n − 1
pub in_card : (n : ℕ) (k : ℤ) → is_between (pos 0) (last_of n) k ≡ true → nat_abs k < n
in_card zero (pos a) e = never (and_second (le_z (pos 0) (pos a)) _ e)
in_card (suc n) (pos a) e =
    let last : last_of (suc n) ≡ pos n = rw (le-ltb (suc n) 1 (omega arith)) (ap pos (omega arith)) in
    let less : is_between (pos 0) (pos n) (pos a) ≡ true = rw last at e in
    omega (arith, leb-true a n (and_second (le_z (pos 0) (pos a)) (le_z (pos a) (pos n)) less))
in_card n (negsuc a) e = never e

jump_20 : (k : ℤ) → target_of (instruction_of 20 k) ≡ nat_abs k
unfolding target_of instruction_of
jump_20 k = refl

jump_21 : (k : ℤ) → target_of (instruction_of 21 k) ≡ nat_abs k
unfolding target_of instruction_of
jump_21 k = refl

target_at : (n op : ℕ) (k : ℤ) → 1 ≤ n → allows (rule_of op) (last_of n) k ≡ true → target_of (instruction_of op k) < n
unfolding page
target_at n op k h e =
    same_or_not op 20
    (λ i.
    let mine : is_between (pos 0) (last_of n) k ≡ true = rw i at e in
    rw (i, jump_20 k) (in_card n k mine))
    (λ i.
    same_or_not op 21
    (λ j.
    let mine : is_between (pos 0) (last_of n) k ≡ true = rw j at e in
    rw (j, jump_21 k) (in_card n k mine))
    (λ j. omega (arith, no_target op k i j)))

pub target_in : (n w : ℕ) → 1 ≤ n → check_of (last_of n) w ≡ verdict.Fine → target_of (decoded w) < n
target_in n w h e = target_at n (opcode_of w) (operand_of w) h (passed (last_of n) w e).1

-- a search that found nothing found this word fine, and the rest
good_word : (v : Verdict) (i : ℕ) (rest : Scan) → or_else (scan_of v i) rest ≡ scan.Fine →
    (v ≡ verdict.Fine) × (rest ≡ scan.Fine)
good_word verdict.Fine i rest e = (refl, e)
good_word verdict.BadOpcode i rest e = absurd (let z : ◌≡◌ {A = ℕ} 0 1 = cc in omega arith)
good_word verdict.BadOperand i rest e = absurd (let z : ◌≡◌ {A = ℕ} 0 1 = cc in omega arith)

-- every instruction of a card that was searched in vain is fine
pub all_fine : (n i : ℕ) (ws : List ℕ) → first_bad (last_of n) i ws ≡ scan.Fine → (k : ℕ) → k < length ws →
    check_of (last_of n) (get_or ws k 0) ≡ verdict.Fine
unfolding first_bad
all_fine n i [] e k h = absurd (omega arith)
all_fine n i (w ∷ ws) e zero h = (good_word (check_of (last_of n) w) i (first_bad (last_of n) (suc i) ws) e).0
all_fine n i (w ∷ ws) e (suc k) h = all_fine n (suc i) ws (good_word (check_of (last_of n) w) i (first_bad (last_of n) (suc i) ws) e).1 k (omega arith)

-- the words of a card: so many, and every jump within them
pub record Card (words : List ℕ) : Type 0 where
  pub some : 1 ≤ length words
  pub most : length words ≤ 4096
  pub opcodes : (i : ℕ) → i < length words → opcode_of (get_or words i 0) ≤ last_opcode
  pub permitted : (i : ℕ) → i < length words →
      allows (rule_of (opcode_of (get_or words i 0))) (last_of (length words)) (operand_of (get_or words i 0)) ≡ true
  pub targets : (i : ℕ) → i < length words → target_of (decoded (get_or words i 0)) < length words
