-- What a step leaves, by the outcome of its instruction; and each instruction's outcome, as an equation to cite. Assumes nothing.
use Prim.Native.Nat.{ℕ, ◌+◌, ◌-◌}
use mathlib.Core.Path.{◌≡◌, refl, ap, sym}
use mathlib.Core.Bool.{cond, not as negate}
use lib.Dec.{ltb}
use lib.IntN.{ℤ, pos, neg_ℤ, ◌+ℤ◌, ◌-ℤ◌, ◌*ℤ◌}
use lib.ListN.{set, replicate}
use lib.Seq.{sets}
use lib.Signed.{le_z, lt_z, quot_z, rem_z}
use Rattle.arithmetic.specs.Arithmetic.{eq_z}
use Rattle.machine.specs.Execution.{Outcome, a_condition, a_mutex, a_semaphore, a_thread, binary, compared, condition_made, creating, division, done, ending, exec, fault, fits, frame_cell, fresh, joining, locking, lowering, mutex_made, needs, opening, popped, pushed, raising, replaced, returning, rooms, truth, unlocking, waiting, within}
use Rattle.machine.specs.Instructions.{Instruction}
use Rattle.machine.specs.Instructions as instr
use Rattle.machine.specs.Registers.{halted, stopped, with_cells, with_fp, with_pc, with_state}
use Rattle.machine.specs.Size.{condition_limit, mutex_limit, shared, stack_at}
use Rattle.machine.specs.State.{State, below, blocked, cell, minus_one, shared_cell, top, with_regs, with_store, with_tables, written}
use Rattle.machine.specs.Step.{entered, executed, onward}
use Rattle.machine.specs.Tables.{at_condition, ready, wake_all, wake_first}

-- a fault leaves the state stopped
pub faults : (size n : ℕ) (s : State) (i : Instruction) (k : ℕ) → exec size n (onward s) i ≡ fault k →
    with_regs s (stopped s.regs k) ≡ (executed size n s i).state
faults size n s i k e = sym (ap (λ (o : Outcome). (entered size s (onward s) i o).state) e)

-- an instruction that is carried out leaves its state
pub carries : (size n : ℕ) (s : State) (i : Instruction) (u : State) → exec size n (onward s) i ≡ done u →
    u ≡ (executed size n s i).state
carries size n s i u e = sym (ap (λ (o : Outcome). (entered size s (onward s) i o).state) e)

module _ (size n : ℕ) (s : State) where
  pub halt_is : exec size n s instr.halt ≡ done (with_regs s (with_state s.regs halted s.regs.thread))
  unfolding exec
  halt_is = refl

  pub loadc_is : (k : ℤ) → exec size n s (instr.loadc k) ≡ rooms 1 s.regs.cells (done (pushed size n s k))
  unfolding exec
  loadc_is k = refl

  pub load_is : exec size n s instr.load
      ≡ needs 1 s.regs.cells (within (top size s) (shared size) 23 λ a. done (replaced size n s (shared_cell s a)))
  unfolding exec
  load_is = refl

  pub store_is :
      exec size n s instr.store
      ≡ needs 2 s.regs.cells
      (within (top size s) (shared size) 23 λ a. done (with_regs (with_store s (set s.store a (below size s))) (with_cells s.regs (s.regs.cells - 1))))
  unfolding exec
  store_is = refl

  pub loadr_is : (k : ℤ) → exec size n s (instr.loadr k)
      ≡ rooms 1 s.regs.cells (frame_cell size n s k λ i. done (pushed size n s (cell size s i)))
  unfolding exec
  loadr_is k = refl

  pub storer_is : (k : ℤ) → exec size n s (instr.storer k)
      ≡ needs 1 s.regs.cells (frame_cell size n s k λ i. done (written size s i (top size s)))
  unfolding exec
  storer_is k = refl

  pub alloc_is : (k : ℕ) →
      exec size n s (instr.alloc k)
      ≡ rooms k s.regs.cells
      (done (with_regs (with_store s (sets s.store (stack_at size s.regs.thread s.regs.cells) (replicate k (pos 0)))) (with_cells s.regs (s.regs.cells + k))))
  unfolding exec
  alloc_is k = refl

  pub pop_is : exec size n s instr.pop ≡ needs 1 s.regs.cells (done (popped size n s 1))
  unfolding exec
  pop_is = refl

  pub dup_is : exec size n s instr.dup
      ≡ needs 1 s.regs.cells (rooms 1 s.regs.cells (done (pushed size n s (top size s))))
  unfolding exec
  dup_is = refl

  pub add_is : exec size n s instr.add ≡ binary size n s ◌+ℤ◌
  unfolding exec
  add_is = refl

  pub sub_is : exec size n s instr.sub ≡ binary size n s ◌-ℤ◌
  unfolding exec
  sub_is = refl

  pub mul_is : exec size n s instr.mul ≡ binary size n s ◌*ℤ◌
  unfolding exec
  mul_is = refl

  pub div_is : exec size n s instr.div ≡ division size n s quot_z
  unfolding exec
  div_is = refl

  pub mod_is : exec size n s instr.«mod» ≡ division size n s rem_z
  unfolding exec
  mod_is = refl

  pub neg_is : exec size n s instr.neg
      ≡ needs 1 s.regs.cells (fits (neg_ℤ (top size s)) λ v. done (replaced size n s v))
  unfolding exec
  neg_is = refl

  pub eq_is : exec size n s instr.eq ≡ compared size n s eq_z
  unfolding exec
  eq_is = refl

  pub neq_is : exec size n s instr.neq ≡ compared size n s (λ a b. negate (eq_z a b))
  unfolding exec
  neq_is = refl

  pub less_is : exec size n s instr.less ≡ compared size n s lt_z
  unfolding exec
  less_is = refl

  pub leq_is : exec size n s instr.leq ≡ compared size n s le_z
  unfolding exec
  leq_is = refl

  pub not_is : exec size n s instr.not
      ≡ needs 1 s.regs.cells (done (replaced size n s (truth (eq_z (top size s) (pos 0)))))
  unfolding exec
  not_is = refl

  pub jump_is : (a : ℕ) → exec size n s (instr.jump a) ≡ done (with_regs s (with_pc s.regs a))
  unfolding exec
  jump_is a = refl

  pub jumpz_is : (a : ℕ) →
      exec size n s (instr.jumpz a)
      ≡ needs 1 s.regs.cells
      (done (with_regs s (with_pc (with_cells s.regs (s.regs.cells - 1)) (cond (eq_z (top size s) (pos 0)) a s.regs.pc))))
  unfolding exec
  jumpz_is a = refl

  pub mark_is : exec size n s instr.mark ≡ rooms 1 s.regs.cells (done (pushed size n s (pos s.regs.fp)))
  unfolding exec
  mark_is = refl

  pub call_is :
      exec size n s instr.call
      ≡ needs 3 s.regs.cells
      (within (top size s) n 25 λ a. done (with_regs (replaced size n s (pos s.regs.pc)) (with_pc (with_fp s.regs (s.regs.cells - 1)) a)))
  unfolding exec
  call_is = refl

  pub return_is : exec size n s instr.return ≡ returning size n s
  unfolding exec
  return_is = refl

  pub new_is : exec size n s instr.new ≡ needs 1 s.regs.cells (fresh size n s (top size s))
  unfolding exec
  new_is = refl

  pub create_is : exec size n s instr.create ≡ needs 2 s.regs.cells (creating size n s)
  unfolding exec
  create_is = refl

  pub yield_is : exec size n s instr.yield ≡ done (blocked size s ready)
  unfolding exec
  yield_is = refl

  pub exit_is : exec size n s instr.exit ≡ needs 1 s.regs.cells (ending size s (top size s))
  unfolding exec
  exit_is = refl

  pub join_is : exec size n s instr.join ≡ needs 1 s.regs.cells (a_thread size n s (top size s) (joining size n s))
  unfolding exec
  join_is = refl

  pub finalize_is : exec size n s instr.finalize ≡ needs 1 s.regs.cells (done s)
  unfolding exec
  finalize_is = refl

  pub newmutex_is :
      exec size n s instr.newmutex
      ≡ rooms 1 s.regs.cells (cond (ltb s.regs.mutexes (mutex_limit size)) (done (mutex_made size n s)) (done (pushed size n s minus_one)))
  unfolding exec
  newmutex_is = refl

  pub lock_is : exec size n s instr.lock ≡ needs 1 s.regs.cells (a_mutex size n s (top size s) (locking size n s))
  unfolding exec
  lock_is = refl

  pub unlock_is : exec size n s instr.unlock
      ≡ needs 1 s.regs.cells (a_mutex size n s (top size s) (unlocking size n s))
  unfolding exec
  unlock_is = refl

  pub newcond_is :
      exec size n s instr.newcond
      ≡ rooms 1 s.regs.cells (cond (ltb s.regs.conditions (condition_limit size)) (done (condition_made size n s)) (done (pushed size n s minus_one)))
  unfolding exec
  newcond_is = refl

  pub wait_is : exec size n s instr.wait
      ≡ needs 2 s.regs.cells (a_condition size n s (top size s) λ c. a_mutex size n s (below size s) λ m. waiting size n s c m)
  unfolding exec
  wait_is = refl

  pub signal_is :
      exec size n s instr.signal
      ≡ needs 1 s.regs.cells (a_condition size n s (top size s) λ c. done (with_tables (popped size n s 1) (wake_first s.tables (at_condition size c))))
  unfolding exec
  signal_is = refl

  pub broadcast_is :
      exec size n s instr.broadcast
      ≡ needs 1 s.regs.cells (a_condition size n s (top size s) λ c. done (with_tables (popped size n s 1) (wake_all s.tables (at_condition size c))))
  unfolding exec
  broadcast_is = refl

  pub newsema_is : exec size n s instr.newsema ≡ needs 1 s.regs.cells (opening size n s (top size s))
  unfolding exec
  newsema_is = refl

  pub up_is : exec size n s instr.up ≡ needs 1 s.regs.cells (a_semaphore size n s (top size s) (raising size n s))
  unfolding exec
  up_is = refl

  pub down_is : exec size n s instr.down
      ≡ needs 1 s.regs.cells (a_semaphore size n s (top size s) (lowering size n s))
  unfolding exec
  down_is = refl
