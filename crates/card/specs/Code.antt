-- The instructions of a card as words, four bytes each, and the first bad one of them.
use Rattle.std.specs.Prelude.{ℕ, suc, ◌*◌, ◌<◌, ◌≤◌, List, [], ◌∷◌, ◌≡◌, ℤ, Ok, Err, get_or, length}
use Rattle.instruction.specs.Bytes.{word_at}
use Rattle.instruction.specs.Rules.{check_of}
use Rattle.instruction.specs.Word.{opcode_of, operand_of}
use Rattle.instruction.specs.Rules.{Verdict}
use Rattle.instruction.specs.Rules as verdict
use Rattle.card.specs.declared.fetching.Instruction.{Instruction}
use Rattle.card.specs.declared.refusals.Refusal.{Refusal}
use Rattle.card.specs.Result.{number}
use Rattle.std.specs.declared.result.Result as code

-- "n instructions of 4 bytes": the words of a code part
unfoldable pub words_of : List ℕ → List ℕ
words_of [] = []
words_of (a ∷ []) = []
words_of (a ∷ b ∷ []) = []
words_of (a ∷ b ∷ c ∷ []) = []
words_of (a ∷ b ∷ c ∷ d ∷ rest) = word_at (a ∷ b ∷ c ∷ d ∷ []) 0 ∷ words_of rest

-- instruction number `at` of a code part, taken apart
abbrev pub instruction_at : List ℕ → ℕ → Instruction
instruction_at code at =
    record {
      opcode = opcode_of (word_at code (4 * at));
      operand = operand_of (word_at code (4 * at));
    }

-- the first k of a code part's n instructions stand in a list of words, and k is n or 0
pub record Unpacked (code : List ℕ) (n : ℕ) (words : List ℕ) (k : ℕ) : Type 0 where
  pub all : 1 ≤ k → k ≡ n
  pub long : k ≤ length words
  pub word : (i : ℕ) → i < k → get_or words i 0 ≡ word_at code (4 * i)

-- what the search for the first bad instruction finds: its number and its index, if there is one
pub data Scan : Type 0 where
  Fine : Scan
  Bad : ℕ → ℕ → Scan

-- the answer of a search in code, whose place is the index
abbrev pub found : {A : Type 0} → code.Result A Refusal → Scan
found (Ok x) = Fine
found (Err r) = Bad (number r.reason) r.place

-- number 4, "4 now from opcode 41", and number 5, "operand against its rule"
abbrev pub scan_of : Verdict → ℕ → Scan
scan_of verdict.Fine i = Fine
scan_of verdict.BadOpcode i = Bad 4 i
scan_of verdict.BadOperand i = Bad 5 i

-- a bad instruction ends the search, and after a good one it goes on
abbrev pub or_else : Scan → Scan → Scan
or_else Fine rest = rest
or_else (Bad number i) rest = Bad number i

-- "the first bad instruction (4 before 5)", with its index, counted from i
unfoldable pub first_bad : ℤ → ℕ → List ℕ → Scan
first_bad last i [] = Fine
first_bad last i (w ∷ ws) = or_else (scan_of (check_of last w) i) (first_bad last (suc i) ws)
