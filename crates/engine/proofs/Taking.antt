-- Yield, lock and unlock, taken beside the loop: they leave the idle front of the line, and of the registers change the running
-- thread and its context alone. Assumes nothing.
use Prim.Native.Nat.{ℕ}
use mathlib.Core.Path.{◌≡◌, refl}
use mathlib.Core.Bool.{Bool, true, cond}
use mathlib.Core.Logic.{inl, inr, ◌≢◌}
use native.Mathlib.Omega.{arith}
use lib.Dec.{eqb, ltb}
use lib.IntN.{ℤ, pos, negsuc}
use Rattle.dispatch.specs.Contract.{Turning}
use Rattle.engine.specs.Contract.{context_of}
use Rattle.locks.proofs.Idle.{idle_lock, idle_unlock}
use Rattle.machine.proofs.Equations.{lock_is, unlock_is, yield_is}
use Rattle.machine.proofs.Lists.{cases}
use Rattle.machine.specs.Context.{in_context}
use Rattle.machine.specs.Execution.{Outcome, a_mutex, locking, needs, owns, popped, unlocking, within}
use Rattle.machine.specs.Instructions.{Instruction, instruction_of}
use Rattle.machine.specs.Instructions as instr
use Rattle.machine.specs.Registers.{faulted, halted, running, stuck}
use Rattle.machine.specs.State.{State, blocked, left, next, next_of, top}
use Rattle.machine.specs.Step.{entered, executed, onward}
use Rattle.machine.specs.Tables.{any_live, at_mutex, first, lives, owner_of, ready}
use Rattle.std.specs.Prelude.{Option, Some, None}
use Rattle.machine.specs.declared.registers.Registers.{Registers}
use Rattle.machine.specs.declared.numbers.Thread.{Thread}
use Rattle.tables.specs.Idle.{Idle}
use Rattle.threads.proofs.Idle.{idle_yield}

-- the operand is not looked at
pub same_turn : (op : ℕ) (k : ℤ) → Turning op → instruction_of op k ≡ instruction_of op (pos 0)
unfolding instruction_of
same_turn op k (inl e) = rw e
same_turn op k (inr (inl e)) = rw e
same_turn op k (inr (inr e)) = rw e

-- the front of the line stays idle
pub stays_idle : (size n k op : ℕ) (s : State) → Turning op → lives s.tables s.regs.thread ≡ true →
    Idle s.tables k →
    Idle (executed size n s (instruction_of op (pos 0))).state.tables k
unfolding instruction_of
stays_idle size n k op s (inl e) live h = rw e (idle_yield size n k s live h)
stays_idle size n k op s (inr (inl e)) live h = rw e (idle_lock size n k s live h)
stays_idle size n k op s (inr (inr e)) live h = rw e (idle_unlock size n k s live h)

-- a machine that still runs has other registers in its running thread and context alone
abbrev pub Only : Registers → Registers → Type 0
Only r q = q.state ≡ running → q ≡ in_context r q.thread (context_of q)

module _ (size n : ℕ) (s : State) where
  stopped_none : (live : Bool) → cond live stuck halted ≢ running
  stopped_none live e = cases live (λ t. let z : stuck ≡ running = rw t at e in omega arith) (λ t. let z : halted ≡ running = rw t at e in omega arith)

  only_next : (u : State) → u.regs ≡ in_context s.regs u.regs.thread (context_of u.regs) →
      Only s.regs (next size u).regs
  unfolding next
  only_next u h = by_first (first u.tables ready)
    where
      by_first : (f : Option Thread) → Only s.regs (next_of size f u).regs
      by_first (Some t) runs = rw h
      by_first None runs = absurd (stopped_none (any_live size u.tables) runs)

  only_blocked : (u : State) (place : ℕ) → u.regs ≡ in_context s.regs u.regs.thread (context_of u.regs) →
      Only s.regs (blocked size u place).regs
  unfolding left
  only_blocked u place h = only_next (left size u place) (rw h)

  module _ (i : Instruction) where
    abbrev Keeps : Outcome → Type 0
    Keeps o = Only s.regs (entered size s (onward s) i o).state.regs

    keeps_fault : (o : Outcome) (k : ℕ) → o ≡ Outcome.fault k → Keeps o
    keeps_fault o k e runs = absurd (let z : faulted ≡ running = rw e at runs in omega arith)

    keeps_mutex : (f : ℕ → Outcome) → ((m : ℕ) → Keeps (f m)) →
        Keeps (needs 1 s.regs.cells (a_mutex size n (onward s) (top size (onward s)) f))
    unfolding needs within
    keeps_mutex f d = cases (ltb s.regs.cells 1) (λ e. rw e (λ runs. absurd (let z : faulted ≡ running = runs in omega arith))) (λ e. rw e (by_value (top size (onward s))))
      where
        by_value : (v : ℤ) → Keeps (within v s.regs.mutexes 27 f)
        by_value (pos a) = cases (ltb a s.regs.mutexes) (λ e. rw e (d a)) (λ e. rw e (λ runs. absurd (let z : faulted ≡ running = runs in omega arith)))
        by_value (negsuc a) = λ runs. absurd (let z : faulted ≡ running = runs in omega arith)

  only_yield : Only s.regs (executed size n s instr.yield).state.regs
  only_yield = rw (yield_is size n (onward s)) (only_blocked (onward s) ready refl)

  only_lock : Only s.regs (executed size n s instr.lock).state.regs
  only_lock =
      rw (lock_is size n (onward s))
      (keeps_mutex instr.lock (locking size n (onward s))
      (λ m. cases (eqb (owner_of s.tables m) size) (λ e. rw e (λ runs. refl)) (λ e. rw e (only_blocked (popped size n (onward s) 1) (at_mutex m) refl))))

  only_unlock : Only s.regs (executed size n s instr.unlock).state.regs
  unfolding owns
  only_unlock =
      rw (unlock_is size n (onward s))
      (keeps_mutex instr.unlock (unlocking size n (onward s))
      (λ m. cases (eqb (owner_of s.tables m) s.regs.thread) (λ e. rw e (λ runs. refl)) (λ e. rw e (λ runs. absurd (let z : faulted ≡ running = runs in omega arith)))))

  pub only_turn : (op : ℕ) → Turning op → Only s.regs (executed size n s (instruction_of op (pos 0))).state.regs
  unfolding instruction_of
  only_turn op (inl e) = rw e only_yield
  only_turn op (inr (inl e)) = rw e only_lock
  only_turn op (inr (inr e)) = rw e only_unlock
