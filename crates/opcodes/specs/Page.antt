-- The page of opcodes, line by line: "Opcodes: 0 halt, 1 loadc k, .. 37 broadcast", each with its rule of "Operands".
use Rattle.std.specs.Prelude.{ℕ, ◌-◌, List, [], ◌∷◌, ℤ, pos, ◌-ℤ◌, get_or, length}
use Prim.Native.String.{String}
use Rattle.opcodes.specs.Ascii.{bytes}
use Rattle.opcodes.specs.declared.table.Rule.{Rule}
use Rattle.opcodes.specs.declared.table.Rule.TheVariants.{Zero, FromTo, ZeroToNMinus1}

-- a line: an opcode's number, its name, and the rule of its operand
pub record Line : Type 0 where
  pub number : ℕ
  pub name : List ℕ
  pub rule : Rule

abbrev line : ℕ → String → Rule → Line
line number name rule = record { number = number; name = bytes name; rule = rule }

-- −k
abbrev pub minus : ℕ → ℤ
minus k = pos 0 -ℤ pos k

unfoldable pub page : List Line
page =
    -- 0 halt: "elsewhere 0", as of each line without a remark
    line 0 "halt" Zero
    -- 1 loadc k: "loadc any of 24 bits"
    ∷ line 1 "loadc" (FromTo (minus 8388608) (pos 8388607))
    ∷ line 2 "load" Zero
    ∷ line 3 "store" Zero
    -- 4 loadr k: "k of loadr and storer −128 to 127"
    ∷ line 4 "loadr" (FromTo (minus 128) (pos 127))
    -- 5 storer k: the same
    ∷ line 5 "storer" (FromTo (minus 128) (pos 127))
    -- 6 alloc k: "of alloc 0 to 127"
    ∷ line 6 "alloc" (FromTo (pos 0) (pos 127))
    ∷ line 7 "pop" Zero
    ∷ line 8 "dup" Zero
    ∷ line 9 "add" Zero
    ∷ line 10 "sub" Zero
    ∷ line 11 "mul" Zero
    ∷ line 12 "div" Zero
    ∷ line 13 "mod" Zero
    ∷ line 14 "neg" Zero
    ∷ line 15 "eq" Zero
    ∷ line 16 "neq" Zero
    ∷ line 17 "less" Zero
    ∷ line 18 "leq" Zero
    ∷ line 19 "not" Zero
    -- 20 jump a: "a is 0 to n−1"
    ∷ line 20 "jump" ZeroToNMinus1
    -- 21 jumpz a: the same
    ∷ line 21 "jumpz" ZeroToNMinus1
    ∷ line 22 "mark" Zero
    ∷ line 23 "call" Zero
    ∷ line 24 "return" Zero
    ∷ line 25 "new" Zero
    ∷ line 26 "create" Zero
    ∷ line 27 "yield" Zero
    ∷ line 28 "exit" Zero
    ∷ line 29 "join" Zero
    ∷ line 30 "finalize" Zero
    ∷ line 31 "newmutex" Zero
    ∷ line 32 "lock" Zero
    ∷ line 33 "unlock" Zero
    ∷ line 34 "newcond" Zero
    ∷ line 35 "wait" Zero
    ∷ line 36 "signal" Zero
    ∷ line 37 "broadcast" Zero
    -- 38 newsema, 39 up, 40 down: change request Four's
    ∷ line 38 "newsema" Zero
    ∷ line 39 "up" Zero
    ∷ line 40 "down" Zero
    ∷ []

-- the line of an opcode; past the last, one with no name
abbrev pub blank : Line
blank = record { number = 0; name = []; rule = Zero }

abbrev pub line_of : ℕ → Line
line_of opcode = get_or page opcode blank

abbrev pub name_of : ℕ → List ℕ
name_of opcode = (line_of opcode).name

abbrev pub rule_of : ℕ → Rule
rule_of opcode = (line_of opcode).rule

-- the last opcode, over which number 4 is given
abbrev pub last_opcode : ℕ
last_opcode = length page - 1
