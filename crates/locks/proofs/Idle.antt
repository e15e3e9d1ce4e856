-- The front of the line that doesn't live stays so over lock and unlock. Assumes nothing.
use Prim.Native.Nat.{ℕ}
use mathlib.Core.Path.{◌≡◌, refl}
use mathlib.Core.Bool.{true}
use native.Mathlib.Omega.{arith}
use lib.Dec.{eqb, ltb}
use lib.IntN.{ℤ, pos, negsuc}
use Rattle.machine.specs.Execution.{Outcome, a_mutex, locking, needs, owns, popped, unlocking, within}
use Rattle.machine.specs.Instructions.{Instruction}
use Rattle.machine.specs.Instructions as instr
use Rattle.machine.specs.State.{State, top}
use Rattle.machine.specs.Step.{entered, executed, onward}
use Rattle.machine.specs.Tables.{Tables, at_mutex, first, give, lives, owned, owner_of, ready, unlocked}
use Rattle.std.specs.Prelude.{Option, Some, None}
use Rattle.machine.proofs.Equations.{lock_is, unlock_is}
use Rattle.machine.proofs.Lists.{cases}
use Rattle.machine.proofs.Queues.{owned_places}
use Rattle.machine.specs.declared.numbers.Thread.{Thread}
use Rattle.tables.specs.Idle.{Idle}
use Rattle.tables.proofs.Idle.{found_lives, idle_owned, idle_sent}
use Rattle.threads.proofs.Idle.{idle_blocked}

-- a mutex is unlocked: who gets it lives, as it waited
idle_unlocked : (size k : ℕ) (tables : Tables) (m : ℕ) → Idle tables k → Idle (unlocked size tables m) k
idle_unlocked size k tables m h = by_first (first tables (at_mutex m)) refl
  where
    by_first : (f : Option Thread) → first tables (at_mutex m) ≡ f → Idle (give size f m tables) k
    by_first (Some t) e =
        let live : lives (owned tables m t.0) t.0 ≡ true = rw (owned_places tables m t.0) (found_lives tables (at_mutex m) t e (omega arith)) in
        idle_sent (owned tables m t.0) t.0 live ready k (idle_owned tables m t.0 k h)
    by_first None e = idle_owned tables m size k h

module _ (size n k : ℕ) (s : State) (i : Instruction) (h : Idle s.tables k) where
  -- what an outcome leaves has the front of the line idle; a fault leaves the tables as they were
  abbrev Stays : Outcome → Type 0
  Stays o = Idle (entered size s (onward s) i o).state.tables k

  stays_needs : (j cells : ℕ) (o : Outcome) → Stays o → Stays (needs j cells o)
  unfolding needs
  stays_needs j cells o d = cases (ltb cells j) (λ e. rw e h) (λ e. rw e d)

  stays_within : (v : ℤ) (limit number : ℕ) (f : ℕ → Outcome) → ((a : ℕ) → Stays (f a)) →
      Stays (within v limit number f)
  unfolding within
  stays_within (pos a) limit number f d = cases (ltb a limit) (λ e. rw e (d a)) (λ e. rw e h)
  stays_within (negsuc a) limit number f d = h

  -- of an instruction that pops a mutex
  stays_mutex : (f : ℕ → Outcome) → ((m : ℕ) → Stays (f m)) →
      Stays (needs 1 s.regs.cells (a_mutex size n (onward s) (top size (onward s)) f))
  stays_mutex f d = stays_needs 1 s.regs.cells _ (stays_within (top size (onward s)) s.regs.mutexes 27 f d)

  stays_locking : lives s.tables s.regs.thread ≡ true → (m : ℕ) → Stays (locking size n (onward s) m)
  stays_locking live m =
      cases (eqb (owner_of s.tables m) size)
      (λ e. rw e (idle_owned s.tables m s.regs.thread k h))
      (λ e. rw e (idle_blocked size k (popped size n (onward s) 1) (at_mutex m) live h))

  stays_unlocking : (m : ℕ) → Stays (unlocking size n (onward s) m)
  unfolding owns
  stays_unlocking m =
      cases (eqb (owner_of s.tables m) s.regs.thread)
      (λ e. rw e (idle_unlocked size k s.tables m h))
      (λ e. rw e h)

module _ (size n k : ℕ) (s : State) (live : lives s.tables s.regs.thread ≡ true) (h : Idle s.tables k) where
  pub idle_lock : Idle (executed size n s instr.lock).state.tables k
  idle_lock = rw (lock_is size n (onward s)) (stays_mutex size n k s instr.lock h (locking size n (onward s)) (stays_locking size n k s instr.lock h live))

  pub idle_unlock : Idle (executed size n s instr.unlock).state.tables k
  idle_unlock = rw (unlock_is size n (onward s)) (stays_mutex size n k s instr.unlock h (unlocking size n (onward s)) (stays_unlocking size n k s instr.unlock h))
