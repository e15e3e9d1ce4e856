-- Each instruction leaves the machine right, and the book beside it, or is a fault of the table. Assumes nothing.
use Prim.Native.Nat.{ℕ, ◌+◌, ◌-◌, ◌<◌, ◌≤◌}
use mathlib.Core.Path.{◌≡◌, refl, sym, ◌∙◌}
use mathlib.Core.Bool.{Bool, true, false, cond, ◌&&◌}
use mathlib.Core.List.{List}
use mathlib.Core.Logic.{◌≢◌}
use native.Mathlib.Omega.{arith}
use lib.Dec.{eqb, leb, lit≤, ltb}
use lib.IntN.{ℤ, pos, negsuc, ◌+ℤ◌, ◌-ℤ◌}
use lib.ListN.{length, get_or, set, replicate, length-set}
use lib.Seq.{get_or-set_same, length-sets}
use lib.Signed.{le_z, lt_z}
use borrow.Author.Tests.{eqb-true, eqb-false, leb-true, leb-false, ltb-true, ltb-false}
use Rattle.machine.specs.Book.{Book, event_of, fed, permitted}
use Rattle.machine.specs.Book as event
use Rattle.arithmetic.specs.Arithmetic.{eq_z}
use Rattle.machine.specs.Execution.{Outcome, ending, exec, fault, frame, fresh, lowered, opening, owns, raised}
use Rattle.machine.specs.Instructions.{Instruction}
use Rattle.machine.specs.Instructions as instr
use Rattle.machine.specs.Plain.{Frame}
use Rattle.machine.specs.Registers.{with_pc, with_cells, with_fp, with_free, with_made, with_semaphores}
use Rattle.machine.specs.Size.{condition_limit, mutex_limit, semaphore_limit, shared, stack_at, store_size}
use Rattle.machine.specs.State.{State, below, cell, ends, minus_one, new_cells, new_fp, new_stack, semaphore_count, top, with_regs, with_store}
use Rattle.machine.specs.Tables.{Tables, at_condition, at_end, ended, owner_of, owns_any, place_of, ready, saved, sent}
use Rattle.machine.proofs.Booked.{entry}
use Rattle.machine.proofs.Changes.{Both, aside_condition, aside_end, aside_ready, gives, lowers, makes, opens_next, raises, raises_first, saves, takes, wakes_all, wakes_first}
use Rattle.machine.proofs.Every.{and_first, and_second}
use Rattle.machine.proofs.Lists.{cases}
use Rattle.machine.proofs.Moves.{awaited_end, awaited_low, counts_grow}
use Rattle.machine.proofs.Outcomes.{Ends, ends_cond, ends_divides, ends_fits, ends_needs, ends_rooms, ends_within}
use Rattle.machine.proofs.Permits.{Counted, counted_downed, counted_opened, counted_upped, down_sign, fed_creates, fed_downs, fed_locks, fed_opens, fed_unlocks, fed_ups, nobody_left, up_sign}
use Rattle.machine.proofs.Queues.{saved_depth, saved_frame, saved_pc}
use Rattle.machine.proofs.Steady.{Landed, Runs, active_landed, blocked_right, down_blocked, ends_right, lock_blocked, wait_right}
use Rattle.machine.proofs.Targets.{target_of}

module _ (size n : ℕ) (s : State) (book : Book) (y : Runs size s book) (short : n ≤ 4096) where
  -- what an instruction must leave
  abbrev Leaves : Instruction → State → Type 0
  Leaves i u = Landed size u (fed book (entry s.regs.thread (event_of size s i u)))

  -- an instruction that touches only the store, PC, the stack, FP and the next free cell
  abbrev local : List ℤ → ℕ → ℕ → ℕ → ℕ → State
  local store pc cells fp free = with_regs (with_store s store) (with_free (with_fp (with_cells (with_pc s.regs pc) cells) fp) free)

  stays : (store : List ℤ) (pc cells fp free : ℕ) → length store ≡ length s.store → Frame pc cells fp → 1 ≤ free →
      free ≤ shared size → Landed size (local store pc cells fp free) book
  stays store pc cells fp free same f least most =
      active_landed size _ book
      (record {
        both = y.steady.both;
        frame = f;
        free_least = least;
        free_most = most;
        stored = same ∙ y.steady.stored;
        valued = y.steady.valued;
        counted = y.steady.counted;
      })
      (record { runs = y.marked.runs; sound = y.marked.sound })
      y.some

  -- the same with the next free cell as it was
  keeps : (store : List ℤ) (pc cells fp : ℕ) → length store ≡ length s.store → Frame pc cells fp →
      Landed size (local store pc cells fp s.regs.free) book
  keeps store pc cells fp same f = stays store pc cells fp s.regs.free same f y.steady.free_least y.steady.free_most

  -- another number of cells
  resized : (cells : ℕ) → cells ≤ 128 → Frame s.regs.pc cells s.regs.fp
  resized cells h = let f = y.steady.frame in record { pc_fits = f.pc_fits; cells_fit = h; fp_least = f.fp_least; fp_most = f.fp_most }

  room : s.regs.cells ≤ 128
  room = y.steady.frame.cells_fit

  one_set : (a : ℕ) (v : ℤ) → length (set s.store a v) ≡ length s.store
  one_set a v = length-set s.store a v

  -- a push, a pop, a new top, and a new top after a pop
  push : (v : ℤ) → s.regs.cells + 1 ≤ 128 →
      Landed size (local (set s.store (stack_at size s.regs.thread s.regs.cells) v) s.regs.pc (s.regs.cells + 1) s.regs.fp s.regs.free) book
  push v h = keeps _ _ _ _ (one_set _ v) (resized _ h)

  pop : (k : ℕ) → Landed size (local s.store s.regs.pc (s.regs.cells - k) s.regs.fp s.regs.free) book
  pop k = keeps _ _ _ _ refl (resized _ (omega (arith, room)))

  poke : (i : ℕ) (v : ℤ) → Landed size (local (set s.store (stack_at size s.regs.thread i) v) s.regs.pc s.regs.cells s.regs.fp s.regs.free) book
  poke i v = keeps _ _ _ _ (one_set _ v) (resized _ room)

  combine : (v : ℤ) → Landed size (local (set s.store (stack_at size s.regs.thread (s.regs.cells - 2)) v) s.regs.pc (s.regs.cells - 1) s.regs.fp s.regs.free) book
  combine v = keeps _ _ _ _ (one_set _ v) (resized _ (omega (arith, room)))

  -- ---- instructions on cells

  abbrev Done : Instruction → Type 0
  Done i = Ends (Leaves i) (exec size n s i)

  exec_loadc : (k : ℤ) → Done (instr.loadc k)
  unfolding exec event_of fed
  exec_loadc k = ends_rooms _ 1 _ _ (λ h. push k h)

  exec_load : Done instr.load
  unfolding exec event_of fed
  exec_load = ends_needs _ 1 _ _ (λ h. ends_within _ _ _ _ _ refl (λ a e below. poke _ _))

  exec_store : Done instr.store
  unfolding exec event_of fed
  exec_store =
      ends_needs _ 2 _ _
      (λ h. ends_within _ _ _ _ _ refl (λ a e below. keeps _ _ _ _ (one_set a _) (resized _ (omega (arith, room)))))

  exec_loadr : (k : ℤ) → Done (instr.loadr k)
  unfolding exec event_of fed
  exec_loadr k = ends_rooms _ 1 _ _ (λ h. ends_within _ _ _ _ _ refl (λ i e below. push _ h))

  exec_storer : (k : ℤ) → Done (instr.storer k)
  unfolding exec event_of fed
  exec_storer k = ends_needs _ 1 _ _ (λ h. ends_within _ _ _ _ _ refl (λ i e below. poke i _))

  exec_alloc : (k : ℕ) → Done (instr.alloc k)
  unfolding exec event_of fed
  exec_alloc k = ends_rooms _ k _ _ (λ h. keeps _ _ _ _ (length-sets s.store _ (replicate k (pos 0))) (resized _ h))

  exec_pop : Done instr.pop
  unfolding exec event_of fed
  exec_pop = ends_needs _ 1 _ _ (λ h. pop 1)

  exec_dup : Done instr.dup
  unfolding exec event_of fed
  exec_dup = ends_needs _ 1 _ _ (λ h. ends_rooms _ 1 _ _ (λ k. push _ k))

  exec_add : Done instr.add
  unfolding exec event_of fed
  exec_add = ends_needs _ 2 _ _ (λ h. ends_fits _ _ _ (combine _))

  exec_sub : Done instr.sub
  unfolding exec event_of fed
  exec_sub = ends_needs _ 2 _ _ (λ h. ends_fits _ _ _ (combine _))

  exec_mul : Done instr.mul
  unfolding exec event_of fed
  exec_mul = ends_needs _ 2 _ _ (λ h. ends_fits _ _ _ (combine _))

  exec_div : Done instr.div
  unfolding exec event_of fed
  exec_div = ends_needs _ 2 _ _ (λ h. ends_divides _ _ _ (ends_fits _ _ _ (combine _)))

  exec_mod : Done instr.«mod»
  unfolding exec event_of fed
  exec_mod = ends_needs _ 2 _ _ (λ h. ends_divides _ _ _ (ends_fits _ _ _ (combine _)))

  exec_neg : Done instr.neg
  unfolding exec event_of fed
  exec_neg = ends_needs _ 1 _ _ (λ h. ends_fits _ _ _ (poke _ _))

  exec_eq : Done instr.eq
  unfolding exec event_of fed
  exec_eq = ends_needs _ 2 _ _ (λ h. combine _)

  exec_neq : Done instr.neq
  unfolding exec event_of fed
  exec_neq = ends_needs _ 2 _ _ (λ h. combine _)

  exec_less : Done instr.less
  unfolding exec event_of fed
  exec_less = ends_needs _ 2 _ _ (λ h. combine _)

  exec_leq : Done instr.leq
  unfolding exec event_of fed
  exec_leq = ends_needs _ 2 _ _ (λ h. combine _)

  exec_not : Done instr.not
  unfolding exec event_of fed
  exec_not = ends_needs _ 1 _ _ (λ h. poke _ _)

  -- ---- jumps and calls

  -- another PC
  aimed : (pc cells : ℕ) → pc ≤ 4096 → cells ≤ 128 → Frame pc cells s.regs.fp
  aimed pc cells h k = let f = y.steady.frame in record { pc_fits = h; cells_fit = k; fp_least = f.fp_least; fp_most = f.fp_most }

  exec_jump : (a : ℕ) → a < n → Done (instr.jump a)
  unfolding exec event_of fed
  exec_jump a h = keeps _ _ _ _ refl (aimed a _ (omega arith) room)

  exec_jumpz : (a : ℕ) → a < n → Done (instr.jumpz a)
  unfolding exec event_of fed
  exec_jumpz a h =
      ends_needs _ 1 _ _
      (λ k. keeps _ _ _ _ refl (aimed _ _ (either_way (eq_z (top size s) (pos 0))) (omega (arith, room))))
    where
      either_way : (b : Bool) → cond b a s.regs.pc ≤ 4096
      either_way true = omega arith
      either_way false = y.steady.frame.pc_fits

  exec_mark : Done instr.mark
  unfolding exec event_of fed
  exec_mark = ends_rooms _ 1 _ _ (λ h. push _ h)

  exec_call : Done instr.call
  unfolding exec event_of fed
  exec_call =
      ends_needs _ 3 _ _
      (λ h.
      ends_within _ _ _ _ _ refl
      (λ a e below.
      keeps _ _ _ _ (one_set _ _)
      (record { pc_fits = omega arith; cells_fit = room; fp_least = omega arith; fp_most = omega (arith, room) })))

  exec_new : Done instr.new
  unfolding exec event_of fed fresh
  exec_new = ends_needs _ 1 _ _ (λ h. made (top size s))
    where
      made : (v : ℤ) → Ends (Leaves instr.new) (fresh size n s v)
      made (pos k) =
          ends_cond _ (eqb k 0) _ _ (λ e. refl)
          (λ e.
          ends_cond _ (leb (s.regs.free + k) (shared size)) _ _
          (λ fits. stays _ _ _ _ _ (one_set _ _) y.steady.frame (omega (arith, y.steady.free_least)) (leb-true _ _ fits))
          (λ full. poke _ _))
      made (negsuc k) = refl

  -- ---- threads

  exec_halt : Done instr.halt
  unfolding exec event_of fed
  exec_halt =
      record {
        sound = y.marked.sound;
        right =
            record {
              steady =
                  record {
                    both = y.steady.both;
                    frame = y.steady.frame;
                    free_least = y.steady.free_least;
                    free_most = y.steady.free_most;
                    stored = y.steady.stored;
                    valued = y.steady.valued;
                    counted = y.steady.counted;
                  };
              mode =
                  record {
                    known = omega arith;
                    has_thread = λ e. y.some;
                    fault_thread = λ e. y.some;
                    stuck_none = λ e. absurd (omega (arith, e));
                    stuck_unready = λ e. absurd (omega (arith, e));
                    stuck_lives = λ e. absurd (omega (arith, e));
                    halted_empty = λ e none. absurd (y.some none);
                  };
              number = record { listed = λ e. absurd (omega (arith, e)); none = λ e. y.marked.sound };
            };
      }

  -- 31, or the thread's end
  ends_ending : (P : State → Type 0) (v : ℤ) →
      (Landed size (ends size s v) (fed book (entry s.regs.thread (event.ends v))) → P (ends size s v)) →
      Ends P (ending size s v)
  ends_ending P v f = ends_cond P (owns_any size s.tables s.regs.thread) _ _ (λ e. refl) (λ e. f (ends_right size s book y e v))

  exec_exit : Done instr.exit
  unfolding exec event_of
  exec_exit = ends_needs _ 1 _ _ (λ h. ends_ending _ (top size s) (λ l. l))

  -- return: a frame, or the thread's end
  returns : (v : ℤ) → v ≡ cell size s (s.regs.fp - 1) → Ends (Leaves instr.return) (frame size n s v)
  unfolding event_of frame
  returns (pos fp) e =
      ends_cond _ (leb 2 fp && ltb fp s.regs.fp) _ _
      (λ k.
      let low : 2 ≤ fp = leb-true 2 fp (and_first (leb 2 fp) (ltb fp s.regs.fp) k) in
      let high : fp < s.regs.fp = ltb-true fp s.regs.fp (and_second (leb 2 fp) (ltb fp s.regs.fp) k) in
      ends_within _ _ _ _ _ refl
      (λ pc i below.
      rw (← e)
      (unfold fed in keeps _ _ _ _ refl
      (record {
        pc_fits = omega arith;
        cells_fit = omega (arith, y.steady.frame.fp_most);
        fp_least = low;
        fp_most = omega (arith, y.steady.frame.fp_most);
      }))))
      (λ k. refl)
  returns (negsuc k) e =
      ends_cond _ (eqb k 0) _ _
      (λ i. ends_ending _ (cell size s (s.regs.fp - 2)) (λ l. rw (← e, eqb-true k 0 i) l))
      (λ i. refl)

  exec_return : Done instr.return
  unfolding exec
  exec_return = ends_cond _ (ltb s.regs.fp s.regs.cells) _ _ (λ e. returns _ refl) (λ e. refl)

  exec_yield : Done instr.yield
  unfolding exec event_of fed
  exec_yield =
      blocked_right size s book y ready (omega arith) aside_ready (awaited_low ready (omega arith)) (λ u e. absurd (omega (arith, e)))

  exec_join : Done instr.join
  unfolding exec event_of fed
  exec_join =
      ends_needs _ 1 _ _
      (λ h.
      ends_within _ _ _ _ _ refl
      (λ t e made.
      ends_cond _ (eqb (place_of s.tables t) ended) _ _
      (λ k. poke _ _)
      (λ k.
      blocked_right size s book y (at_end size t) (omega arith) (aside_end t) (awaited_end t made (eqb-false _ _ k)) (λ u i. h))))

  exec_finalize : Done instr.finalize
  unfolding exec event_of fed
  exec_finalize = ends_needs _ 1 _ _ (λ h. active_landed size s book y.steady y.marked y.some)

  -- other tables, a book that was fed, and other counts, with the thread still running
  changed : (store : List ℤ) (tables : Tables) (cells threads mutexes conditions : ℕ) (book' : Book) →
      book'.permits ≡ book.permits →
      length store ≡ length s.store → cells ≤ 128 → Both size threads mutexes conditions s.regs.semaphores s.regs.thread tables book' →
      Landed size (record { store = store; tables = tables; values = s.values; regs = with_made (with_cells s.regs cells) threads mutexes conditions }) book'
  changed store tables cells threads mutexes conditions book' permits same h b =
      active_landed size _ book'
      (record {
        both = b;
        frame = resized cells h;
        free_least = y.steady.free_least;
        free_most = y.steady.free_most;
        stored = same ∙ y.steady.stored;
        valued = y.steady.valued;
        counted = rw permits y.steady.counted;
      })
      (record { runs = y.marked.runs; sound = y.marked.sound })
      y.some

  -- the counts of mutexes and conditions grow
  grown : (mutexes conditions : ℕ) → s.regs.mutexes ≤ mutexes → mutexes ≤ mutex_limit size →
      s.regs.conditions ≤ conditions → conditions ≤ condition_limit size →
      Both size s.regs.threads mutexes conditions s.regs.semaphores s.regs.thread s.tables book
  grown mutexes conditions a b c d =
      let fit = y.steady.both.kempt.tidy.counts in
      record {
        kempt =
            counts_grow y.steady.both.kempt mutexes conditions s.regs.semaphores a c (omega arith)
            (record {
              some_thread = fit.some_thread;
              threads_fit = fit.threads_fit;
              mutexes_fit = b;
              conditions_fit = d;
              semaphores_fit = fit.semaphores_fit;
            });
        booked = y.steady.both.booked;
        passing = y.steady.both.passing;
      }

  exec_newmutex : Done instr.newmutex
  unfolding exec event_of fed
  exec_newmutex =
      ends_rooms _ 1 _ _
      (λ h.
      ends_cond _ (ltb s.regs.mutexes (mutex_limit size)) _ _
      (λ e.
      let less : s.regs.mutexes < mutex_limit size = ltb-true _ _ e in
      changed _ _ _ _ _ _ book refl (one_set _ _) h
      (grown (s.regs.mutexes + 1) s.regs.conditions (omega arith) (omega arith) (omega arith) y.steady.both.kempt.tidy.counts.conditions_fit))
      (λ e. push _ h))

  exec_newcond : Done instr.newcond
  unfolding exec event_of fed
  exec_newcond =
      ends_rooms _ 1 _ _
      (λ h.
      ends_cond _ (ltb s.regs.conditions (condition_limit size)) _ _
      (λ e.
      let less : s.regs.conditions < condition_limit size = ltb-true _ _ e in
      changed _ _ _ _ _ _ book refl (one_set _ _) h
      (grown s.regs.mutexes (s.regs.conditions + 1) (omega arith) y.steady.both.kempt.tidy.counts.mutexes_fit (omega arith) (omega arith)))
      (λ e. push _ h))

  -- ---- mutexes and conditions

  -- the machine with top popped still runs
  popped_runs : Runs size (with_regs s (with_cells s.regs (s.regs.cells - 1))) book
  popped_runs =
      record {
        steady =
            record {
              both = y.steady.both;
              frame = resized _ (omega (arith, room));
              free_least = y.steady.free_least;
              free_most = y.steady.free_most;
              stored = y.steady.stored;
              valued = y.steady.valued;
              counted = y.steady.counted;
            };
        marked = record { runs = y.marked.runs; sound = y.marked.sound };
        some = y.some;
      }

  exec_lock : Done instr.lock
  unfolding exec event_of
  exec_lock =
      ends_needs _ 1 _ _
      (λ h.
      ends_within _ _ _ _ _ refl
      (λ m e made.
      ends_cond _ (eqb (owner_of s.tables m) size) _ _
      (λ k. rw e (changed _ _ _ _ _ _ _ (fed_locks book s.regs.thread m) refl (omega (arith, room)) (takes y.steady.both m y.some made (eqb-true _ _ k))))
      (λ k. rw e (lock_blocked size _ book popped_runs m made (eqb-false _ _ k)))))

  -- 28 is not given: the mutex is owned by the running thread
  pub ends_owns : (P : State → Type 0) (m : ℕ) (o : Outcome) → (owner_of s.tables m ≡ s.regs.thread → Ends P o) →
      Ends P (owns size n s m o)
  unfolding owns
  ends_owns P m o f = ends_cond P _ o (fault 28) (λ e. f (eqb-true _ _ e)) (λ e. refl)

  -- .. and so by some thread
  owned : (m : ℕ) → owner_of s.tables m ≡ s.regs.thread → owner_of s.tables m ≢ size
  owned m mine none = y.some (sym mine ∙ none)

  exec_unlock : Done instr.unlock
  unfolding exec event_of
  exec_unlock =
      ends_needs _ 1 _ _
      (λ h.
      ends_within _ _ _ _ _ refl
      (λ m e made.
      ends_owns _ m _
      (λ mine. rw e (changed _ _ _ _ _ _ _ (fed_unlocks book s.regs.thread m) refl (omega (arith, room)) (gives y.steady.both m s.regs.thread made (owned m mine))))))

  exec_wait : Done instr.wait
  unfolding exec event_of
  exec_wait =
      ends_needs _ 2 _ _
      (λ h.
      ends_within _ _ _ _ _ refl
      (λ c e made_c.
      ends_within _ _ _ _ _ refl
      (λ m i made_m. ends_owns _ m _ (λ mine. rw i (wait_right size _ book popped_runs c m made_c made_m (owned m mine))))))

  -- a condition that was made is one of the box
  within_limit : (c : ℕ) → c < s.regs.conditions → c < condition_limit size
  within_limit c made = omega (arith, y.steady.both.kempt.tidy.counts.conditions_fit)

  exec_signal : Done instr.signal
  unfolding exec event_of fed
  exec_signal =
      ends_needs _ 1 _ _
      (λ h.
      ends_within _ _ _ _ _ refl
      (λ c e made. changed _ _ _ _ _ _ book refl refl (omega (arith, room)) (wakes_first y.steady.both (at_condition size c) (omega arith) (aside_condition c (within_limit c made)))))

  exec_broadcast : Done instr.broadcast
  unfolding exec event_of fed
  exec_broadcast =
      ends_needs _ 1 _ _
      (λ h.
      ends_within _ _ _ _ _ refl
      (λ c e made. changed _ _ _ _ _ _ book refl refl (omega (arith, room)) (wakes_all y.steady.both (at_condition size c) (omega arith) (aside_condition c (within_limit c made))).0))

  -- ---- semaphores

  -- other tables, values, semaphores made and a book that was fed, with the thread still running
  recounted : (store : List ℤ) (tables : Tables) (values : List ℤ) (cells semaphores : ℕ) (book' : Book) →
      length store ≡ length s.store →
      length values ≡ length s.values → cells ≤ 128 → Counted size values semaphores book'.permits →
      Both size s.regs.threads s.regs.mutexes s.regs.conditions semaphores s.regs.thread tables book' →
      Landed size (record { store = store; tables = tables; values = values; regs = with_semaphores (with_cells s.regs cells) semaphores }) book'
  recounted store tables values cells semaphores book' same long h counted b =
      active_landed size _ book'
      (record {
        both = b;
        frame = resized cells h;
        free_least = y.steady.free_least;
        free_most = y.steady.free_most;
        stored = same ∙ y.steady.stored;
        valued = long ∙ y.steady.valued;
        counted = counted;
      })
      (record { runs = y.marked.runs; sound = y.marked.sound })
      y.some

  -- what newsema puts on top is top afterwards
  replaced_top : (v : ℤ) → 1 ≤ s.regs.cells →
      get_or (set s.store (stack_at size s.regs.thread (s.regs.cells - 1)) v) (stack_at size s.regs.thread (s.regs.cells - 1)) (pos 0) ≡ v
  replaced_top v h =
      let t = y.steady.both.kempt.tidy in
      get_or-set_same s.store (stack_at size s.regs.thread (s.regs.cells - 1)) v (pos 0)
      (omega (arith, (t.runner y.some).0, t.counts.threads_fit, room, y.steady.stored))

  exec_newsema : Done instr.newsema
  unfolding exec event_of opening
  exec_newsema = ends_needs _ 1 _ _ (λ h. opened (top size s) refl h)
    where
      opened : (v : ℤ) → v ≡ top size s → 1 ≤ s.regs.cells → Ends (Leaves instr.newsema) (opening size n s v)
      opened (pos k) e h =
          ends_cond (Leaves instr.newsema) (ltb s.regs.semaphores (semaphore_limit size)) _ _
          (λ r.
          let less : s.regs.semaphores < semaphore_limit size = ltb-true _ _ r in
          rw (replaced_top (pos s.regs.semaphores) h, ← e)
          (recounted _ _ _ _ _ _ (one_set _ _) (length-set s.values (size + s.regs.semaphores) (pos k)) room
          (rw (fed_opens book s.regs.thread k s.regs.semaphores) (counted_opened y.steady.counted k less y.steady.valued))
          (opens_next y.steady.both s.regs.thread k less)))
          (λ r. rw (replaced_top minus_one h) (unfold fed in poke (s.regs.cells - 1) minus_one))
      opened (negsuc k) e h = refl

  -- a semaphore that was made is one of the box
  semaphore_limit_lem : (k : ℕ) → k < s.regs.semaphores → k < semaphore_limit size
  semaphore_limit_lem k made = omega (arith, y.steady.both.kempt.tidy.counts.semaphores_fit)

  up_right : (k : ℕ) → k < s.regs.semaphores →
      Landed size (raised size n s k (semaphore_count size s.values k +ℤ pos 1)) (fed book (entry s.regs.thread (event.ups k)))
  up_right k made =
      let count : ℤ = semaphore_count size s.values k +ℤ pos 1 in
      let limit = semaphore_limit_lem k made in
      let sign = up_sign y.steady.counted k made in
      let counted : Counted size (set s.values (size + k) count) s.regs.semaphores (fed book (entry s.regs.thread (event.ups k))).permits =
      rw (fed_ups book s.regs.thread k) (counted_upped y.steady.counted k made limit y.steady.valued) in
      cases (le_z count (pos 0))
      (λ b.
      rw b
      (recounted _ _ _ _ _ _ refl (length-set s.values (size + k) count) (omega (arith, room)) counted
      (raises_first y.steady.both k made s.regs.thread)))
      (λ b.
      let enough : length (book.permits.downs k) < permitted book k + 1 = leb-false _ _ (sym sign ∙ b) in
      rw b
      (recounted _ _ _ _ _ _ refl (length-set s.values (size + k) count) (omega (arith, room)) counted
      (raises y.steady.both k made s.regs.thread (nobody_left y.steady.both.passing k limit (omega arith)))))

  exec_up : Done instr.up
  unfolding exec event_of
  exec_up = ends_needs _ 1 _ _ (λ h. ends_within _ _ _ _ _ refl (λ k e made. ends_fits _ _ _ (rw e (up_right k made))))

  down_right : (k : ℕ) → k < s.regs.semaphores →
      Landed size (lowered size n s k (semaphore_count size s.values k -ℤ pos 1)) (fed book (entry s.regs.thread (event.downs k)))
  down_right k made =
      let count : ℤ = semaphore_count size s.values k -ℤ pos 1 in
      let limit = semaphore_limit_lem k made in
      let sign = down_sign y.steady.counted k made in
      cases (lt_z count (pos 0))
      (λ b. let full : permitted book k < length (book.permits.downs k) + 1 = ltb-true _ _ (sym sign ∙ b) in rw b (down_blocked size _ book popped_runs k made (omega arith)))
      (λ b.
      let enough : length (book.permits.downs k) + 1 ≤ permitted book k = ltb-false _ _ (sym sign ∙ b) in
      rw b
      (recounted _ _ _ _ _ _ refl (length-set s.values (size + k) count) (omega (arith, room))
      (rw (fed_downs book s.regs.thread k) (counted_downed y.steady.counted k s.regs.thread made limit y.steady.valued))
      (lowers y.steady.both k made s.regs.thread (omega arith))))

  exec_down : Done instr.down
  unfolding exec event_of
  exec_down = ends_needs _ 1 _ _ (λ h. ends_within _ _ _ _ _ refl (λ k e made. rw e (down_right k made)))

  -- what create pushes is top afterwards
  pushed_top : (store : List ℤ) (v : ℤ) → length store ≡ store_size size → 2 ≤ s.regs.cells →
      get_or (set store (stack_at size s.regs.thread (s.regs.cells - 2)) v) (stack_at size s.regs.thread (s.regs.cells - 1 - 1)) (pos 0) ≡ v
  pushed_top store v same h =
      let t = y.steady.both.kempt.tidy in
      let two : s.regs.cells - 1 - 1 ≡ s.regs.cells - 2 = omega arith in
      rw two
      (get_or-set_same store (stack_at size s.regs.thread (s.regs.cells - 2)) v (pos 0)
      (omega (arith, (t.runner y.some).0, t.counts.threads_fit, room, same)))

  -- the new thread's registers are saved, and it joins the ready queue
  made_both : (pc : ℕ) → pc < n → s.regs.threads < size →
      Both size (s.regs.threads + 1) s.regs.mutexes s.regs.conditions s.regs.semaphores s.regs.thread
      (sent (saved s.tables s.regs.threads pc new_cells new_fp) s.regs.threads ready)
      (fed book (entry s.regs.thread (event.creates (pos s.regs.threads))))
  made_both pc below less =
      let z = y.steady.both.kempt.sizes in
      let f : Frame pc new_cells new_fp = record { pc_fits = omega arith; cells_fit = lit≤ tt; fp_least = lit≤ tt; fp_most = lit≤ tt } in
      let unmade_yet = (y.steady.both.kempt.tidy.placed s.regs.threads less).not_made (omega arith) in
      makes (saves y.steady.both s.regs.threads pc new_cells new_fp less (omega (arith, unmade_yet)) f) s.regs.thread less
      (rw (
        saved_pc s.tables s.regs.threads pc new_cells new_fp (rw z.pcs less),
        saved_depth s.tables s.regs.threads pc new_cells new_fp (rw z.depths less),
        saved_frame s.tables s.regs.threads pc new_cells new_fp (rw z.frames less),
      )
      f)

  exec_create : Done instr.create
  unfolding exec event_of
  exec_create =
      ends_needs _ 2 _ _
      (λ h.
      ends_within _ _ _ _ _ refl
      (λ pc e below.
      ends_cond (Leaves instr.create) (ltb s.regs.threads size) _ _
      (λ k. made pc below h (ltb-true _ _ k))
      (λ k. rw (pushed_top s.store minus_one y.steady.stored h) (unfold fed in combine minus_one))))
    where
      after : ℕ → State
      after pc =
          record {
            store = set (new_stack size s.store s.regs.threads (top size s)) (stack_at size s.regs.thread (s.regs.cells - 2)) (pos s.regs.threads);
            tables = sent (saved s.tables s.regs.threads pc new_cells new_fp) s.regs.threads ready;
            values = s.values;
            regs = with_made (with_cells s.regs (s.regs.cells - 1)) (s.regs.threads + 1) s.regs.mutexes s.regs.conditions;
          }

      made : (pc : ℕ) → pc < n → 2 ≤ s.regs.cells → s.regs.threads < size → Leaves instr.create (after pc)
      made pc below h less =
          rw (pushed_top (new_stack size s.store s.regs.threads (top size s)) (pos s.regs.threads) (simp length-set y.steady.stored) h)
          (changed _ _ _ _ _ _ _ (fed_creates book s.regs.thread (pos s.regs.threads)) (simp length-set) (omega (arith, room)) (made_both pc below less))

  -- every instruction, where a jump goes to an instruction of the card
  pub exec_right : (i : Instruction) → target_of i < n → Done i
  unfolding target_of
  exec_right instr.halt t = exec_halt
  exec_right (instr.loadc k) t = exec_loadc k
  exec_right instr.load t = exec_load
  exec_right instr.store t = exec_store
  exec_right (instr.loadr k) t = exec_loadr k
  exec_right (instr.storer k) t = exec_storer k
  exec_right (instr.alloc k) t = exec_alloc k
  exec_right instr.pop t = exec_pop
  exec_right instr.dup t = exec_dup
  exec_right instr.add t = exec_add
  exec_right instr.sub t = exec_sub
  exec_right instr.mul t = exec_mul
  exec_right instr.div t = exec_div
  exec_right instr.«mod» t = exec_mod
  exec_right instr.neg t = exec_neg
  exec_right instr.eq t = exec_eq
  exec_right instr.neq t = exec_neq
  exec_right instr.less t = exec_less
  exec_right instr.leq t = exec_leq
  exec_right instr.not t = exec_not
  exec_right (instr.jump a) t = exec_jump a t
  exec_right (instr.jumpz a) t = exec_jumpz a t
  exec_right instr.mark t = exec_mark
  exec_right instr.call t = exec_call
  exec_right instr.return t = exec_return
  exec_right instr.new t = exec_new
  exec_right instr.create t = exec_create
  exec_right instr.yield t = exec_yield
  exec_right instr.exit t = exec_exit
  exec_right instr.join t = exec_join
  exec_right instr.finalize t = exec_finalize
  exec_right instr.newmutex t = exec_newmutex
  exec_right instr.lock t = exec_lock
  exec_right instr.unlock t = exec_unlock
  exec_right instr.newcond t = exec_newcond
  exec_right instr.wait t = exec_wait
  exec_right instr.signal t = exec_signal
  exec_right instr.broadcast t = exec_broadcast
  exec_right instr.newsema t = exec_newsema
  exec_right instr.up t = exec_up
  exec_right instr.down t = exec_down
