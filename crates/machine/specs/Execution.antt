-- "What each instruction does", in the paper's order, with the faults of the table in their order of precedence: 21
-- and 22 come first. PC has advanced already: see Step.antt.
use Rattle.std.specs.Prelude.{ℕ, ◌+◌, ◌-◌, Bool, cond, not as negate, ◌&&◌, eqb, leb, ltb, ℤ, pos, negsuc, neg_ℤ, ◌+ℤ◌, ◌-ℤ◌, ◌*ℤ◌, get_or, set, replicate}
use Rattle.std.proofs.lemmas.List.Edits.{sets}
use Rattle.std.specs.Int.Signed.{le_z, lt_z, mag, quot_z, rem_z}
use Rattle.arithmetic.specs.Arithmetic.{eq_z}
use Rattle.machine.specs.Instructions.{Instruction}
use Rattle.machine.specs.Instructions as instr
use Rattle.machine.specs.Registers.{halted, with_cells, with_fp, with_free, with_made, with_pc, with_semaphores, with_state}
use Rattle.machine.specs.Size.{condition_limit, mutex_limit, semaphore_limit, shared, stack_at}
use Rattle.machine.specs.State.{State, below, blocked, cell, ends, left, minus_one, new_cells, new_fp, new_stack, next, semaphore_count, shared_cell, top, with_count, with_regs, with_store, with_tables, written}
use Rattle.machine.specs.Tables.{at_condition, at_end, at_mutex, at_semaphore, ended, owned, owner_of, owns_any, place_of, ready, saved, sent, unlocked, wake_all, wake_first}

-- an instruction is carried out, or it is a fault with its number
pub data Outcome : Type 0 where
  done : State → Outcome
  fault : ℕ → Outcome

-- 21: "no top, or no cell below it, where the instruction uses it; for call, under 3 cells"
unfoldable pub needs : ℕ → ℕ → Outcome → Outcome
needs k cells o = cond (ltb cells k) (fault 21) o

-- 22: "SP would pass 127"
unfoldable pub rooms : ℕ → ℕ → Outcome → Outcome
rooms k cells o = cond (ltb 128 (cells + k)) (fault 22) o

-- a cell's value that must be a number from 0 to limit − 1
unfoldable pub within : ℤ → ℕ → ℕ → (ℕ → Outcome) → Outcome
within (pos a) limit number f = cond (ltb a limit) (f a) (fault number)
within (negsuc a) limit number f = fault number

-- 24: "number beyond 32 bits"
unfoldable pub fits : ℤ → (ℤ → Outcome) → Outcome
fits v f = cond (ltb (mag v) 2147483648) (f v) (fault 24)

-- 24: ".. or zero divisor"
unfoldable pub divides : ℤ → Outcome → Outcome
divides (pos a) o = cond (eqb a 0) (fault 24) o
divides (negsuc a) o = o

-- a test as a cell: "Comparisons give 1 or 0"
abbrev pub truth : Bool → ℤ
truth b = cond b (pos 1) (pos 0)

-- 31: "exit, and a return that ends the thread, are faulted when the thread owns any mutex" (change request Two);
-- else "the thread ends with" a value
abbrev pub ending : ℕ → State → ℤ → Outcome
ending size s v = cond (owns_any size s.tables s.regs.thread) (fault 31) (done (ends size s v))

module _ (size n : ℕ) (s : State) where
  abbrev pub depth : ℕ
  depth = s.regs.cells

  -- a value is pushed
  abbrev pub pushed : ℤ → State
  pushed v = with_regs (written size s depth v) (with_cells s.regs (depth + 1))

  -- so many cells are popped
  abbrev pub popped : ℕ → State
  popped k = with_regs s (with_cells s.regs (depth - k))

  -- top is replaced
  abbrev pub replaced : ℤ → State
  replaced v = written size s (depth - 1) v

  -- top is dropped, and the new top replaced
  abbrev pub combined : ℤ → State
  combined v = with_regs (written size s (depth - 2) v) (with_cells s.regs (depth - 1))

  -- an operation on top and the cell below it
  abbrev pub binary : (ℤ → ℤ → ℤ) → Outcome
  binary f = needs 2 depth (fits (f (below size s) (top size s)) λ v. done (combined v))

  -- the same, of which top must not be 0
  abbrev pub division : (ℤ → ℤ → ℤ) → Outcome
  division f = needs 2 depth (divides (top size s) (fits (f (below size s) (top size s)) λ v. done (combined v)))

  -- a comparison
  abbrev pub compared : (ℤ → ℤ → Bool) → Outcome
  compared f = needs 2 depth (done (combined (truth (f (below size s) (top size s)))))

  -- cell FP + k: "0 ≤ FP+k ≤ SP"
  abbrev pub frame_cell : ℤ → (ℕ → Outcome) → Outcome
  frame_cell k f = within (pos s.regs.fp +ℤ k) depth 23 f

  -- "return needs FP ≤ SP and cell FP−1 either −1 or 2 to FP−1. At −1 the thread ends with cell FP−2. Else cell FP
  -- must be 0 to n−1: SP = FP−2, PC and FP are taken from the two cells."
  abbrev pub returned : ℕ → ℕ → State
  returned fp pc = with_regs s (with_pc (with_fp (with_cells s.regs (s.regs.fp - 1)) fp) pc)

  unfoldable pub frame : ℤ → Outcome
  frame (pos fp) =
      cond (leb 2 fp && ltb fp s.regs.fp) (within (cell size s s.regs.fp) n 26 λ pc. done (returned fp pc))
      (fault 26)
  frame (negsuc k) = cond (eqb k 0) (ending size s (cell size s (s.regs.fp - 2))) (fault 26)

  abbrev pub returning : Outcome
  returning = cond (ltb s.regs.fp depth) (frame (cell size s (s.regs.fp - 1))) (fault 26)

  -- "new: n in top becomes the first of n fresh shared cells, or 0 exactly if fewer than n are left"; 30: "new of
  -- fewer than 1"
  unfoldable pub fresh : ℤ → Outcome
  fresh (pos k) =
      cond (eqb k 0) (fault 30)
      (cond (leb (s.regs.free + k) (shared size))
      (done (with_regs (replaced (pos s.regs.free)) (with_free s.regs (s.regs.free + k))))
      (done (replaced (pos 0))))
  fresh (negsuc k) = fault 30

  -- "both go, the new thread's number is pushed and it joins the ready tail, its PC the entry, or −1 exactly if 32
  -- were made"
  abbrev pub created : ℕ → State
  created entry =
      record {
        store =
            set (new_stack size s.store s.regs.threads (top size s)) (stack_at size s.regs.thread (depth - 2))
            (pos s.regs.threads);
        tables = sent (saved s.tables s.regs.threads entry new_cells new_fp) s.regs.threads ready;
        values = s.values;
        regs =
            with_made (with_cells s.regs (depth - 1)) (s.regs.threads + 1) s.regs.mutexes s.regs.conditions;
      }

  abbrev pub creating : Outcome
  creating =
      within (below size s) n 25
      λ entry. cond (ltb s.regs.threads size) (done (created entry)) (done (combined minus_one))

  -- "newmutex, newcond push the next number, or −1 exactly if 64 were made"
  abbrev pub mutex_made : State
  mutex_made =
      with_regs (pushed (pos s.regs.mutexes))
      (with_made (with_cells s.regs (depth + 1)) s.regs.threads (s.regs.mutexes + 1) s.regs.conditions)

  abbrev pub condition_made : State
  condition_made =
      with_regs (pushed (pos s.regs.conditions))
      (with_made (with_cells s.regs (depth + 1)) s.regs.threads s.regs.mutexes (s.regs.conditions + 1))

  -- "no such thread, mutex or condition": "27 for a mutex number", "32 condition, 33 thread, where 27 stood" (change
  -- request Three)
  abbrev pub a_thread : ℤ → (ℕ → Outcome) → Outcome
  a_thread v f = within v s.regs.threads 33 f

  abbrev pub a_mutex : ℤ → (ℕ → Outcome) → Outcome
  a_mutex v f = within v s.regs.mutexes 27 f

  abbrev pub a_condition : ℤ → (ℕ → Outcome) → Outcome
  a_condition v f = within v s.regs.conditions 32 f

  -- 34: "no such semaphore, beside 27" (change request Four)
  abbrev pub a_semaphore : ℤ → (ℕ → Outcome) → Outcome
  a_semaphore v f = within v s.regs.semaphores 34 f

  -- 28: "unlock or wait by another than the owner"
  unfoldable pub owns : ℕ → Outcome → Outcome
  owns m o = cond (eqb (owner_of s.tables m) s.regs.thread) o (fault 28)

  -- "when the awaited thread has ended already, join replaces top by its result" (change request Six); "else wait in
  -- its queue, then Next", its top still the number, until the ending thread writes the result there: `delivered`
  abbrev pub joining : ℕ → Outcome
  joining t =
      cond (eqb (place_of s.tables t) ended) (done (replaced (get_or s.values t (pos 0))))
      (done (blocked size s (at_end size t)))

  -- "lock pops; if free, take it; else wait, then Next"
  abbrev pub locking : ℕ → Outcome
  locking m =
      cond (eqb (owner_of s.tables m) size)
      (done (with_tables (popped 1) (owned s.tables m s.regs.thread)))
      (done (blocked size (popped 1) (at_mutex m)))

  -- "unlock pops; the queue gives the first waiter, or nobody"
  abbrev pub unlocking : ℕ → Outcome
  unlocking m = owns m (done (with_tables (popped 1) (unlocked size s.tables m)))

  -- "The thread enters the condition's queue, the condition is popped, the mutex is unlocked as above and stays on
  -- the stack, then Next."
  abbrev pub waited : ℕ → ℕ → State
  waited c m =
      let away = left size (popped 1) (at_condition size c) in
      next size (with_tables away (unlocked size away.tables m))

  abbrev pub waiting : ℕ → ℕ → Outcome
  waiting c m = owns m (done (waited c m))

  -- Semaphores (change request Four). The lectures' bodies Down and Up (document 000) lower and raise the count, and
  -- test it, as these do. They differ so: there a semaphore is a mutex, a condition and a cell, and each body locks
  -- the mutex first and unlocks it last, so that threads come in the order of that lock, may wait for it even where
  -- the count is positive, and a woken one waits for it once more before its Down is over. Here each is one step: who
  -- is first is who executes it first, and a woken thread's down is over with the up that woke it. The count is no
  -- cell that a store could reach, 24 leaves no mutex locked, and a negative starting count, where nobody waits, is
  -- refused.

  -- "newsema replaces its starting count on top by the next number, or by −1 exactly if 32 were made"
  abbrev pub semaphore_made : ℤ → State
  semaphore_made starting =
      with_regs (with_count size (replaced (pos s.regs.semaphores)) s.regs.semaphores starting)
      (with_semaphores s.regs (s.regs.semaphores + 1))

  -- 30: "a negative starting count, tested before the room"
  unfoldable pub opening : ℤ → Outcome
  opening (pos starting) =
      cond (ltb s.regs.semaphores (semaphore_limit size)) (done (semaphore_made (pos starting)))
      (done (replaced minus_one))
  opening (negsuc k) = fault 30

  -- "up pops and raises the count; if it is then not positive, the first waiter goes to the ready tail"; 24: "an up
  -- at 2,147,483,647"
  abbrev pub raised : ℕ → ℤ → State
  raised k count =
      let up = with_count size (popped 1) k count in
      cond (le_z count (pos 0)) (with_tables up (wake_first s.tables (at_semaphore size k))) up

  abbrev pub raising : ℕ → Outcome
  raising k = fits (semaphore_count size s.values k +ℤ pos 1) λ count. done (raised k count)

  -- "down pops and lowers the count; if it is now negative, the thread waits in the semaphore's queue and Next follows"
  abbrev pub lowered : ℕ → ℤ → State
  lowered k count =
      let down = with_count size (popped 1) k count in
      cond (lt_z count (pos 0)) (blocked size down (at_semaphore size k)) down

  abbrev pub lowering : ℕ → Outcome
  lowering k = done (lowered k (semaphore_count size s.values k -ℤ pos 1))

  unfoldable pub exec : Instruction → Outcome
  exec instr.halt = done (with_regs s (with_state s.regs halted s.regs.thread))
  exec (instr.loadc k) = rooms 1 depth (done (pushed k))
  exec instr.load = needs 1 depth (within (top size s) (shared size) 23 λ a. done (replaced (shared_cell s a)))
  exec instr.store =
      needs 2 depth
      (within (top size s) (shared size) 23 λ a.
      done (with_regs (with_store s (set s.store a (below size s))) (with_cells s.regs (depth - 1))))
  exec (instr.loadr k) = rooms 1 depth (frame_cell k λ i. done (pushed (cell size s i)))
  exec (instr.storer k) = needs 1 depth (frame_cell k λ i. done (written size s i (top size s)))
  exec (instr.alloc k) =
      rooms k depth
      (done (with_regs (with_store s (sets s.store (stack_at size s.regs.thread depth) (replicate k (pos 0))))
      (with_cells s.regs (depth + k))))
  exec instr.pop = needs 1 depth (done (popped 1))
  exec instr.dup = needs 1 depth (rooms 1 depth (done (pushed (top size s))))
  exec instr.add = binary ◌+ℤ◌
  exec instr.sub = binary ◌-ℤ◌
  exec instr.mul = binary ◌*ℤ◌
  exec instr.div = division quot_z
  exec instr.«mod» = division rem_z
  exec instr.neg = needs 1 depth (fits (neg_ℤ (top size s)) λ v. done (replaced v))
  exec instr.eq = compared eq_z
  exec instr.neq = compared (λ a b. negate (eq_z a b))
  exec instr.less = compared lt_z
  exec instr.leq = compared le_z
  exec instr.not = needs 1 depth (done (replaced (truth (eq_z (top size s) (pos 0)))))
  exec (instr.jump a) = done (with_regs s (with_pc s.regs a))
  exec (instr.jumpz a) =
      needs 1 depth
      (done (with_regs s (with_pc (with_cells s.regs (depth - 1)) (cond (eq_z (top size s) (pos 0)) a s.regs.pc))))
  exec instr.mark = rooms 1 depth (done (pushed (pos s.regs.fp)))
  exec instr.call =
      needs 3 depth
      (within (top size s) n 25 λ a.
      done (with_regs (replaced (pos s.regs.pc)) (with_pc (with_fp s.regs (depth - 1)) a)))
  exec instr.return = returning
  exec instr.new = needs 1 depth (fresh (top size s))
  exec instr.create = needs 2 depth creating
  exec instr.yield = done (blocked size s ready)
  exec instr.exit = needs 1 depth (ending size s (top size s))
  exec instr.join = needs 1 depth (a_thread (top size s) joining)
  -- "finalize keeps its opcode, needs one cell and does nothing" (change request Six): after a join the result is on
  -- top already, so the lectures' join and finalize, one after the other, still leave the result there
  exec instr.finalize = needs 1 depth (done s)
  exec instr.newmutex =
      rooms 1 depth (cond (ltb s.regs.mutexes (mutex_limit size)) (done mutex_made) (done (pushed minus_one)))
  exec instr.lock = needs 1 depth (a_mutex (top size s) locking)
  exec instr.unlock = needs 1 depth (a_mutex (top size s) unlocking)
  exec instr.newcond =
      rooms 1 depth (cond (ltb s.regs.conditions (condition_limit size)) (done condition_made) (done (pushed minus_one)))
  exec instr.wait = needs 2 depth (a_condition (top size s) λ c. a_mutex (below size s) λ m. waiting c m)
  exec instr.signal =
      needs 1 depth
      (a_condition (top size s) λ c. done (with_tables (popped 1) (wake_first s.tables (at_condition size c))))
  exec instr.broadcast =
      needs 1 depth (a_condition (top size s) λ c. done (with_tables (popped 1) (wake_all s.tables (at_condition size c))))
  exec instr.newsema = needs 1 depth (opening (top size s))
  exec instr.up = needs 1 depth (a_semaphore (top size s) raising)
  exec instr.down = needs 1 depth (a_semaphore (top size s) lowering)
