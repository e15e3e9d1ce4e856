-- What an instruction may rely on, and what the instruction at PC is. Assumes nothing.
use Prim.Native.Nat.{ℕ, ◌%◌, ◌<◌, ◌≤◌}
use mathlib.Core.Path.{◌≡◌, refl}
use mathlib.Core.Bool.{Bool, true, false}
use mathlib.Core.List.{List}
use native.Mathlib.Omega.{arith}
use lib.Dec.{ltb}
use lib.IntN.{ℤ}
use lib.ListN.{length}
use mir.Facts.{to_z-of_z}
use mir.Syntax.{w32}
use mir.Val.{SFits, of_z, to_z}
use borrow.Author.Tests.{le-ltb, lt-ltb}
use Rattle.card.proofs.Words.{word}
use Rattle.card.specs.Code.{instruction_at, words_of}
use Rattle.dispatch.specs.Contract.{Working}
use Rattle.opcodes.specs.Page.{last_opcode}
use Rattle.local.specs.Contract.{Permitted}
use Rattle.engine.proofs.Accepted.{long, card_words}
use Rattle.engine.specs.Accepted.{Carded}
use Rattle.instruction.specs.Word.{operand_of, signed24}
use Rattle.machine.specs.Calls.{boxed}
use Rattle.machine.proofs.Held.{few_wait}
use Rattle.machine.proofs.Laws.{sound_held}
use Rattle.machine.specs.Instructions.{instruction_of}
use Rattle.machine.specs.Laws.{Sound}
use Rattle.machine.specs.Registers.{stopped}
use Rattle.machine.specs.State.{State, with_regs}
use Rattle.machine.specs.Step.{carried, executed}
use Rattle.machine.specs.Tables.{lives, tables_of}
use Rattle.machine.specs.declared.registers.Registers.{Registers}
use Rattle.tables.proofs.Idle.{active_lives}

module _ (code : List ℕ) (card : Carded code) where
  -- 20: "PC ≥ n"
  pub past_end : (size : ℕ) (s : State) → length (words_of code) ≤ s.regs.pc →
      with_regs s (stopped s.regs 20) ≡ (carried size (words_of code) s).state
  unfolding carried
  past_end size s h = rw (le-ltb _ _ h)

  -- the instruction at PC
  pub at_pc : (size : ℕ) (s : State) → s.regs.pc < length (words_of code) →
      let i = instruction_at code s.regs.pc in
      (executed size (length (words_of code)) s (instruction_of i.opcode i.operand)).state
      ≡ (carried size (words_of code) s).state
  unfolding carried
  at_pc size s h =
      let w = word code s.regs.pc (omega (arith, long card)) in
      rw (lt-ltb _ _ h, w.is)

  -- a sound box whose machine runs has all that an instruction may rely on
  pub working : (size : ℕ) (store : List ℤ) (tables : List ℕ) (values : List ℤ) (r : Registers) →
      Sound size (boxed store tables values r) → r.state ≡ 1 →
      size ≤ 32 → r.pc < length (words_of code) → Working size r (length store) tables values
  working size store tables values r h runs small below =
      let held = sound_held size (boxed store tables values r) h in
      let steady = held.right.steady in
      let tidy = steady.both.kempt.tidy in
      let runner : r.thread < r.threads = (tidy.runner (held.right.mode.has_thread runs)).0 in
      record {
        able =
            record {
              small = small;
              fits = steady.stored;
              thread = omega (arith, runner, tidy.counts.threads_fit);
              pc = omega (arith, below, (card_words card).most);
              cells = steady.frame.cells_fit;
              fp_least = steady.frame.fp_least;
              fp_most = steady.frame.fp_most;
              free = steady.free_most;
            };
        made =
            record {
              threads = tidy.counts.threads_fit;
              mutexes = tidy.counts.mutexes_fit;
              conditions = tidy.counts.conditions_fit;
              semaphores = tidy.counts.semaphores_fit;
            };
        good = record { small = small; long = held.sized; line = tidy.line };
        valued = steady.valued;
        low = λ k made. few_wait size _ _ held.right k made;
        receivers =
            record {
              some = λ t h at. (tidy.placed t h).has_cell r.thread at;
              most = λ t h at. ((tidy.placed t h).kept (omega (arith, at))).cells_fit;
            };
      }

  -- its instruction is one that an accepted card may have
  pub permitted : (pc : ℕ) → pc < length (words_of code) →
      let i = instruction_at code pc in Permitted (length (words_of code)) i.opcode i.operand × (i.opcode ≤ last_opcode)
  permitted pc h =
      let w = word code pc (omega (arith, long card)) in
      (record { allowed = rw w.is at ((card_words card).permitted pc h) }, rw w.is at ((card_words card).opcodes pc h))

-- an operand comes back from 32 bits as it was
operand_fits : (b : ℕ) (low : Bool) → ltb b 8388608 ≡ low → b < 16777216 → SFits w32 (signed24 b)
operand_fits b true h most = record { sfits = rw h (omega arith) }
operand_fits b false h most = record { sfits = rw (h, lt-ltb b 16777216 most) (omega arith) }

pub read_operand : (w : ℕ) → to_z w32 (of_z w32 (operand_of w)) ≡ operand_of w
read_operand w = to_z-of_z (operand_fits (w % 16777216) _ refl (omega arith))

-- the thread that runs lives
pub runner_lives : (size : ℕ) (store : List ℤ) (tables : List ℕ) (values : List ℤ) (r : Registers) →
    Sound size (boxed store tables values r) → r.state ≡ 1 →
    lives (tables_of size tables) r.thread ≡ true
runner_lives size store tables values r h runs =
    let held = sound_held size (boxed store tables values r) h in
    let runner = held.right.steady.both.kempt.tidy.runner (held.right.mode.has_thread runs) in
    active_lives (tables_of size tables) r.thread runner.1
