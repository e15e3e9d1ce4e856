-- "Opcodes": the 41 instructions, in the paper's order (the last three are change request Four's), and the
-- instruction that an opcode and an operand are.
use Rattle.std.specs.Prelude.{ℕ, List, [], ◌∷◌, ℤ, nat_abs, get_or}
use Rattle.instruction.specs.Word.{opcode_of, operand_of}

pub data Instruction : Type 0 where
  halt : Instruction
  loadc : ℤ → Instruction
  load store : Instruction
  loadr storer : ℤ → Instruction
  alloc : ℕ → Instruction
  pop dup add sub mul div «mod» neg eq neq less leq not : Instruction
  jump jumpz : ℕ → Instruction
  mark call return new create yield exit join finalize newmutex lock unlock newcond wait signal broadcast newsema up down : Instruction

-- opcode k's instruction is entry k, counted from 0
abbrev pub opcodes : ℤ → List Instruction
opcodes k =
    halt
    ∷ loadc k
    ∷ load
    ∷ store
    ∷ loadr k
    ∷ storer k
    ∷ alloc (nat_abs k)
    ∷ pop
    ∷ dup
    ∷ add
    ∷ sub
    ∷ mul
    ∷ div
    ∷ «mod»
    ∷ neg
    ∷ eq
    ∷ neq
    ∷ less
    ∷ leq
    ∷ not
    ∷ jump (nat_abs k)
    ∷ jumpz (nat_abs k)
    ∷ mark
    ∷ call
    ∷ return
    ∷ new
    ∷ create
    ∷ yield
    ∷ exit
    ∷ join
    ∷ finalize
    ∷ newmutex
    ∷ lock
    ∷ unlock
    ∷ newcond
    ∷ wait
    ∷ signal
    ∷ broadcast
    ∷ newsema
    ∷ up
    ∷ down
    ∷ []

-- an accepted card has no opcode past the last
unfoldable pub instruction_of : ℕ → ℤ → Instruction
instruction_of opcode operand = get_or (opcodes operand) opcode halt

-- the instruction that a word is
abbrev pub decoded : ℕ → Instruction
decoded w = instruction_of (opcode_of w) (operand_of w)
