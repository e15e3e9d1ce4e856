-- A stretch under way, whatever tables, values and other registers stand beside the context and the store.
-- Assumes nothing.
use Prim.Native.Nat.{ℕ, ◌+◌, ◌-◌, ◌<◌, ◌≤◌}
use mathlib.Core.Path.{◌≡◌, refl, ◌∙◌}
use Rattle.std.specs.Prelude.{Some}
use mathlib.Core.List.{List}
use native.Mathlib.Omega.{arith}
use lib.IntN.{ℤ}
use lib.ListN.{get_or, length}
use Rattle.cells.proofs.Tried.{fit}
use Rattle.cells.specs.Attempts.{Fit}
use Rattle.engine.specs.Accepted.{Carded}
use Rattle.engine.specs.Contract.{Housed, Inside, state_at}
use Rattle.card.proofs.Words.{word}
use Rattle.card.specs.Code.{words_of}
use Rattle.engine.proofs.Accepted.{long, card_words}
use Rattle.engine.proofs.Course.{entered, one_done}
use Rattle.engine.proofs.Working.{at_pc, working}
use Rattle.instruction.specs.Word.{opcode_of, operand_of}
use Rattle.local.specs.Contract.{Permitted, Ventures}
use Rattle.machine.proofs.Equations.{carries}
use Rattle.machine.specs.Context.{in_context}
use Rattle.machine.specs.Tables.{tables_of}
use Rattle.machine.specs.declared.context.Context.{Context}

-- the context past the instruction
abbrev pub past : Context → Context
past c = record { pc = c.pc + 1; cells = c.cells; fp = c.fp }

module _ {size : ℕ} {code : List ℕ} (card : Carded code) {m : ℕ} {store₀ : List ℤ} {t : ℕ} {c₀ : Context} where
  pub enter : Inside size code m store₀ t c₀ store₀ c₀ m
  enter tables values r runs h = entered card h

  module _ {store : List ℤ} {c : Context} {left : ℕ} (inside : Inside size code m store₀ t c₀ store c left) where
    -- what the next instruction asks
    pub fits : Housed size store₀ t c₀ → c.pc < length (words_of code) → size ≤ 32 → Fit size t (past c) (length store)
    fits house below small =
        let u = inside house.tables house.values house.r house.runs house.sound in
        let r = in_context house.r t c in
        fit (working code card size store house.tables house.values r u.sound house.runs small below).able

    module _ {words : List ℕ} (all : words ≡ words_of code) (below : c.pc < length words) where
      there : c.pc < length (words_of code)
      there = rw all at below

      pub allowed : let w = get_or words c.pc 0 in Permitted (length words) (opcode_of w) (operand_of w)
      allowed = rw all (record { allowed = (card_words card).permitted c.pc there })

      -- the instruction was carried out
      pub one_more : {store' : List ℤ} {c' : Context} →
          Ventures size (length words) (get_or words c.pc 0) store t (past c) store' (Some c') →
          1 ≤ left → Inside size code m store₀ t c₀ store' c' (left - 1)
      one_more {store'} {c'} h some tables values r runs start =
          let u = inside tables values r runs start in
          let w = word code c.pc (omega (arith, there, long card)) in
          let s = state_at size store tables values (in_context r t c) in
          let done = rw w.is at ((rw all at h).is (tables_of size tables) values r) in
          one_done card u some runs refl (carries size (length (words_of code)) s _ _ done ∙ at_pc code card size s there)
          (λ e. omega (arith, runs, e))
