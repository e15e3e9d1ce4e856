-- What each instruction that is carried out does to other threads: it leaves them alone, or it is a join or an end. Assumes nothing.
use Prim.Native.Nat.{ℕ, ◌+◌, ◌-◌, ◌<◌, ◌≤◌}
use mathlib.Core.Path.{◌≡◌, refl, ap, ◌∙◌}
use mathlib.Core.Bool.{◌&&◌}
use mathlib.Core.List.{List, []}
use mathlib.Core.Logic.{◌≢◌}
use native.Mathlib.Omega.{arith}
use lib.Dec.{eqb, leb, ltb}
use lib.IntN.{ℤ, pos, negsuc, ◌+ℤ◌, ◌-ℤ◌}
use lib.ListN.{get_or, set}
use lib.Seq.{get_or-set_other}
use lib.Signed.{le_z, lt_z}
use borrow.Author.Tests.{eqb-true, ltb-true}
use Rattle.machine.specs.Book.{Book, event_of}
use Rattle.machine.specs.Book as event
use Rattle.machine.specs.Execution.{combined, created, exec, frame, fresh, lowered, opening, raised}
use Rattle.machine.specs.Instructions.{Instruction}
use Rattle.machine.specs.Instructions as instr
use Rattle.machine.specs.Registers.{with_cells}
use Rattle.machine.specs.Size.{condition_limit, mutex_limit, semaphore_limit, shared, stack_at}
use Rattle.machine.specs.State.{State, blocked, cell, ends, left, minus_one, new_cells, new_fp, new_stack, next, semaphore_count, top, with_count, with_regs, with_tables, written}
use Rattle.machine.specs.Tables.{Tables, at_condition, at_end, at_mutex, at_semaphore, ended, owner_of, owns_any, place_of, queue, ready, saved, unlocked, unmade, wake_first}
use Rattle.machine.specs.declared.registers.Registers.{Registers}
use Rattle.machine.proofs.Apart.{Apart, Awake, Places, Standing, Wakeable, apart_blocked, apart_cells, apart_left, apart_next, apart_on, apart_tables, apart_then, apart_wider, first_depths, given_depths, lined_given, lined_left, places_all, places_first, places_given, places_same, places_sent, places_then, places_wider, stacks_own, stacks_run, stacks_shared, standing, woken_depths}
use Rattle.machine.proofs.Execution.{ends_owns}
use Rattle.machine.proofs.Lists.{cases}
use Rattle.machine.proofs.Outcomes.{Ends, ends_cond, ends_divides, ends_fits, ends_needs, ends_rooms, ends_within}
use Rattle.machine.proofs.Queues.{owned_places, owned_saved, saved_other, saved_places, sent_saved}
use Rattle.machine.proofs.Slates.{end_of, join_of}
use Rattle.machine.proofs.Steady.{Runs}

-- what an instruction from s that leaves u is to other threads
pub data Effect (size : ℕ) (s : State) (i : Instruction) (u : State) : Type 0 where
  -- it neither joins nor ends, and leaves them alone
  aside : join_of (event_of size s i u) ≡ [] → end_of (event_of size s i u) ≡ [] → Apart size s.regs.thread s u →
      Effect size s i u
  -- it is a join of a thread that has ended, or of one that has not
  late : (w : ℕ) → event_of size s i u ≡ event.joins w → w < size → 1 ≤ s.regs.cells →
      place_of s.tables w ≡ ended →
      u ≡ written size s (s.regs.cells - 1) (get_or s.values w (pos 0)) →
      Effect size s i u
  waits : (w : ℕ) → event_of size s i u ≡ event.joins w → u ≡ blocked size s (at_end size w) → Effect size s i u
  -- it is an end
  stops : (v : ℤ) → event_of size s i u ≡ event.ends v → u ≡ ends size s v → Effect size s i u

module _ (size n : ℕ) (s : State) (book : Book) (y : Runs size s book) (short : n ≤ 4096) where
  abbrev runner : ℕ
  runner = s.regs.thread

  stands : Standing size s.tables runner
  stands = standing size s book y

  room : s.regs.cells ≤ 128
  room = y.steady.frame.cells_fit

  abbrev Has : Instruction → Type 0
  Has i = Ends (Effect size s i) (exec size n s i)

  -- a cell of the thread's own stack is written, or none
  own : (j : ℕ) (v : ℤ) (regs : Registers) → regs.thread ≡ runner → j < 128 →
      Apart size runner s (record { store = set s.store (stack_at size runner j) v; tables = s.tables; values = s.values; regs = regs })
  own j v regs same small = apart_cells size s stands _ regs same (stacks_own size s stands j v small)

  none : (regs : Registers) → regs.thread ≡ runner →
      Apart size runner s (record { store = s.store; tables = s.tables; values = s.values; regs = regs })
  none regs same = apart_cells size s stands _ regs same (λ t i h far awake small. refl)

  -- ---- instructions on cells

  effect_loadc : (k : ℤ) → Has (instr.loadc k)
  unfolding exec event_of
  effect_loadc k = ends_rooms _ 1 _ _ (λ h. aside refl refl (own _ _ _ refl (omega arith)))

  effect_load : Has instr.load
  unfolding exec event_of
  effect_load = ends_needs _ 1 _ _ (λ h. ends_within _ _ _ _ _ refl (λ a e below. aside refl refl (own _ _ _ refl (omega (arith, room)))))

  effect_store : Has instr.store
  unfolding exec event_of
  effect_store =
      ends_needs _ 2 _ _
      (λ h. ends_within _ _ _ _ _ refl
      (λ a e below. aside refl refl (apart_cells size s stands _ _ refl (stacks_shared size s stands a _ below))))

  effect_loadr : (k : ℤ) → Has (instr.loadr k)
  unfolding exec event_of
  effect_loadr k = ends_rooms _ 1 _ _ (λ h. ends_within _ _ _ _ _ refl (λ i e below. aside refl refl (own _ _ _ refl (omega arith))))

  effect_storer : (k : ℤ) → Has (instr.storer k)
  unfolding exec event_of
  effect_storer k =
      ends_needs _ 1 _ _ (λ h. ends_within _ _ _ _ _ refl (λ i e below. aside refl refl (own i _ _ refl (omega (arith, room)))))

  effect_alloc : (k : ℕ) → Has (instr.alloc k)
  unfolding exec event_of
  effect_alloc k =
      ends_rooms _ k _ _ (λ h. aside refl refl
      (apart_cells size s stands _ _ refl (stacks_run size s stands k s.regs.cells h)))

  effect_pop : Has instr.pop
  unfolding exec event_of
  effect_pop = ends_needs _ 1 _ _ (λ h. aside refl refl (none _ refl))

  effect_dup : Has instr.dup
  unfolding exec event_of
  effect_dup = ends_needs _ 1 _ _ (λ h. ends_rooms _ 1 _ _ (λ k. aside refl refl (own _ _ _ refl (omega arith))))

  -- a new top after a pop
  combine : (v : ℤ) (i : Instruction) → join_of (event_of size s i (combined size n s v)) ≡ [] →
      end_of (event_of size s i (combined size n s v)) ≡ [] → Effect size s i (combined size n s v)
  combine v i j e = aside j e (own (s.regs.cells - 2) v _ refl (omega (arith, room)))

  effect_add : Has instr.add
  unfolding exec event_of
  effect_add = ends_needs _ 2 _ _ (λ h. ends_fits _ _ _ (combine _ instr.add refl refl))

  effect_sub : Has instr.sub
  unfolding exec event_of
  effect_sub = ends_needs _ 2 _ _ (λ h. ends_fits _ _ _ (combine _ instr.sub refl refl))

  effect_mul : Has instr.mul
  unfolding exec event_of
  effect_mul = ends_needs _ 2 _ _ (λ h. ends_fits _ _ _ (combine _ instr.mul refl refl))

  effect_div : Has instr.div
  unfolding exec event_of
  effect_div = ends_needs _ 2 _ _ (λ h. ends_divides _ _ _ (ends_fits _ _ _ (combine _ instr.div refl refl)))

  effect_mod : Has instr.«mod»
  unfolding exec event_of
  effect_mod = ends_needs _ 2 _ _ (λ h. ends_divides _ _ _ (ends_fits _ _ _ (combine _ instr.«mod» refl refl)))

  effect_neg : Has instr.neg
  unfolding exec event_of
  effect_neg = ends_needs _ 1 _ _ (λ h. ends_fits _ _ _ (aside refl refl (own _ _ _ refl (omega (arith, room)))))

  effect_eq : Has instr.eq
  unfolding exec event_of
  effect_eq = ends_needs _ 2 _ _ (λ h. combine _ instr.eq refl refl)

  effect_neq : Has instr.neq
  unfolding exec event_of
  effect_neq = ends_needs _ 2 _ _ (λ h. combine _ instr.neq refl refl)

  effect_less : Has instr.less
  unfolding exec event_of
  effect_less = ends_needs _ 2 _ _ (λ h. combine _ instr.less refl refl)

  effect_leq : Has instr.leq
  unfolding exec event_of
  effect_leq = ends_needs _ 2 _ _ (λ h. combine _ instr.leq refl refl)

  effect_not : Has instr.not
  unfolding exec event_of
  effect_not = ends_needs _ 1 _ _ (λ h. aside refl refl (own _ _ _ refl (omega (arith, room))))

  effect_jump : (a : ℕ) → Has (instr.jump a)
  unfolding exec event_of
  effect_jump a = aside refl refl (none _ refl)

  effect_jumpz : (a : ℕ) → Has (instr.jumpz a)
  unfolding exec event_of
  effect_jumpz a = ends_needs _ 1 _ _ (λ h. aside refl refl (none _ refl))

  effect_mark : Has instr.mark
  unfolding exec event_of
  effect_mark = ends_rooms _ 1 _ _ (λ h. aside refl refl (own _ _ _ refl (omega arith)))

  effect_call : Has instr.call
  unfolding exec event_of
  effect_call = ends_needs _ 3 _ _ (λ h. ends_within _ _ _ _ _ refl (λ a e below. aside refl refl (own _ _ _ refl (omega (arith, room)))))

  effect_new : Has instr.new
  unfolding exec event_of fresh
  effect_new = ends_needs _ 1 _ _ (λ h. made (top size s))
    where
      made : (v : ℤ) → Ends (Effect size s instr.new) (fresh size n s v)
      made (pos k) =
          ends_cond _ (eqb k 0) _ _ (λ e. refl)
          (λ e.
          ends_cond _ (leb (s.regs.free + k) (shared size)) _ _
          (λ fits. aside refl refl (own _ _ _ refl (omega (arith, room))))
          (λ full. aside refl refl (own _ _ _ refl (omega (arith, room)))))
      made (negsuc k) = refl

  effect_newmutex : Has instr.newmutex
  unfolding exec event_of
  effect_newmutex =
      ends_rooms _ 1 _ _
      (λ h.
      ends_cond _ (ltb s.regs.mutexes (mutex_limit size)) _ _
      (λ e. aside refl refl (own _ _ _ refl (omega arith)))
      (λ e. aside refl refl (own _ _ _ refl (omega arith))))

  effect_newcond : Has instr.newcond
  unfolding exec event_of
  effect_newcond =
      ends_rooms _ 1 _ _
      (λ h.
      ends_cond _ (ltb s.regs.conditions (condition_limit size)) _ _
      (λ e. aside refl refl (own _ _ _ refl (omega arith)))
      (λ e. aside refl refl (own _ _ _ refl (omega arith))))

  effect_halt : Has instr.halt
  unfolding exec event_of
  effect_halt = aside refl refl (none _ refl)

  effect_finalize : Has instr.finalize
  unfolding exec event_of
  effect_finalize = ends_needs _ 1 _ _ (λ h. aside refl refl (none _ refl))

  -- ---- queues

  -- other tables with as many cells saved of each thread, and so many cells on the stack
  queues : (tables : Tables) (regs : Registers) → regs.thread ≡ runner → Places size runner s.tables tables →
      tables.depths ≡ s.tables.depths →
      Apart size runner s (record { store = s.store; tables = tables; values = s.values; regs = regs })
  queues tables regs same places depths =
      apart_on size s stands _ tables _ regs same places (λ t h far i. ap (λ (l : List ℕ). get_or l t 0) depths) (λ t h. refl)
      (λ t i h far awake small. refl)

  -- the machine with top popped
  abbrev less : State
  less = with_regs s (with_cells s.regs (s.regs.cells - 1))

  popping : Apart size runner s less
  popping = none _ refl

  effect_yield : Has instr.yield
  unfolding exec event_of
  effect_yield = aside refl refl (apart_blocked size s stands ready (λ e. omega (arith, e)))

  effect_lock : Has instr.lock
  unfolding exec event_of
  effect_lock =
      ends_needs _ 1 _ _
      (λ h.
      ends_within _ _ _ _ _ refl
      (λ m e made.
      ends_cond _ (eqb (owner_of s.tables m) size) _ _
      (λ k. aside refl refl (queues _ _ refl (places_same (owned_places s.tables m runner)) (owned_saved s.tables m runner).1))
      (λ k. aside refl refl (apart_then popping (apart_blocked size less stands (at_mutex m) (λ i. omega (arith, i)))))))

  -- a mutex that was made is one of the box
  mutex_limit_lem : (m : ℕ) → m < s.regs.mutexes → m < mutex_limit size
  mutex_limit_lem m made = omega (arith, y.steady.both.kempt.tidy.counts.mutexes_fit)

  effect_unlock : Has instr.unlock
  unfolding exec event_of
  effect_unlock =
      ends_needs _ 1 _ _
      (λ h.
      ends_within _ _ _ _ _ refl
      (λ m e made.
      ends_owns size n s book y short _ m _
      (λ mine. aside refl refl (queues _ _ refl (places_wider (places_given stands.lined m (mutex_limit_lem m made)))
      (given_depths size s.tables m)))))

  -- the thread leaves for a condition, and a mutex is given on
  away_given : (c m : ℕ) → m < mutex_limit size →
      let away = left size less (at_condition size c) in
      Apart size runner s (next size (with_tables away (unlocked size away.tables m)))
  away_given c m limit =
      let away : State = left size less (at_condition size c) in
      let lined = lined_left size less stands (at_condition size c) in
      apart_then popping
      (apart_then (apart_left size less stands (at_condition size c) (λ k. omega (arith, k)))
      (apart_wider
      (apart_then (apart_tables size away (unlocked size away.tables m) (places_given lined m limit)
      (given_depths size away.tables m))
      (apart_next size (with_tables away (unlocked size away.tables m)) (lined_given lined m) (unfold left in refl)))))

  effect_wait : Has instr.wait
  unfolding exec event_of
  effect_wait =
      ends_needs _ 2 _ _
      (λ h.
      ends_within _ _ _ _ _ refl
      (λ c e made_c.
      ends_within _ _ _ _ _ refl
      (λ m i made_m. ends_owns size n s book y short _ m _ (λ mine. aside refl refl (away_given c m (mutex_limit_lem m made_m))))))

  wakeable_condition : (c : ℕ) → c < s.regs.conditions → Wakeable size (at_condition size c)
  wakeable_condition c made =
      let fit = y.steady.both.kempt.tidy.counts.conditions_fit in
      record { not_ended = λ k. omega (arith, k); no_end = λ w k. omega (arith, k) }

  effect_signal : Has instr.signal
  unfolding exec event_of
  effect_signal =
      ends_needs _ 1 _ _
      (λ h.
      ends_within _ _ _ _ _ refl
      (λ c e made. aside refl refl
      (queues _ _ refl (places_wider (places_first stands.lined (at_condition size c) (wakeable_condition c made)))
      (first_depths s.tables (at_condition size c)))))

  effect_broadcast : Has instr.broadcast
  unfolding exec event_of
  effect_broadcast =
      ends_needs _ 1 _ _
      (λ h.
      ends_within _ _ _ _ _ refl
      (λ c e made.
      aside refl refl
      (queues _ _ refl (places_wider (places_all stands.lined (at_condition size c) (wakeable_condition c made)))
      (woken_depths (queue s.tables (at_condition size c)) s.tables))))

  -- ---- semaphores

  -- a semaphore's count is no thread's result
  count_apart : (k : ℕ) (v : ℤ) (t : ℕ) → t < size → get_or (set s.values (size + k) v) t (pos 0) ≡ get_or s.values t (pos 0)
  count_apart k v t h = get_or-set_other s.values (size + k) t v (pos 0) (λ e. omega (arith, e))

  effect_newsema : Has instr.newsema
  unfolding exec event_of opening
  effect_newsema = ends_needs _ 1 _ _ (λ h. opened (top size s))
    where
      opened : (v : ℤ) → Ends (Effect size s instr.newsema) (opening size n s v)
      opened (pos k) =
          ends_cond (Effect size s instr.newsema) (ltb s.regs.semaphores (semaphore_limit size)) _ _
          (λ r.
          aside refl refl
          (apart_on size s stands _ _ _ _ refl (places_same refl) (λ t h far i. refl) (count_apart s.regs.semaphores (pos k))
          (stacks_own size s stands (s.regs.cells - 1) _ (omega (arith, room)))))
          (λ r. aside refl refl (own _ _ _ refl (omega (arith, room))))
      opened (negsuc k) = refl

  -- a count is set, with top popped and other tables
  counting : (k : ℕ) (v : ℤ) (tables : Tables) → Places size runner s.tables tables → tables.depths ≡ s.tables.depths →
      Apart size runner s (record {
        store = s.store;
        tables = tables;
        values = set s.values (size + k) v;
        regs = with_cells s.regs (s.regs.cells - 1);
      })
  counting k v tables places depths =
      apart_on size s stands _ tables _ _ refl places (λ t h far i. ap (λ (l : List ℕ). get_or l t 0) depths) (count_apart k v)
      (λ t i h far awake small. refl)

  raised_apart : (k : ℕ) (count : ℤ) → k < s.regs.semaphores → Apart size runner s (raised size n s k count)
  raised_apart k count made =
      let fit = y.steady.both.kempt.tidy.counts.semaphores_fit in
      cases (le_z count (pos 0))
      (λ b.
      rw b
      (counting k count (wake_first s.tables (at_semaphore size k))
      (places_wider (places_first stands.lined (at_semaphore size k)
      (record { not_ended = λ i. omega (arith, i); no_end = λ w i. omega (arith, i) })))
      (first_depths s.tables (at_semaphore size k))))
      (λ b. rw b (counting k count s.tables (places_same refl) refl))

  effect_up : Has instr.up
  unfolding exec event_of
  effect_up =
      ends_needs _ 1 _ _ (λ h. ends_within _ _ _ _ _ refl
      (λ k e made. ends_fits _ _ _ (aside refl refl (raised_apart k (semaphore_count size s.values k +ℤ pos 1) made))))

  lowered_apart : (k : ℕ) (count : ℤ) → Apart size runner s (lowered size n s k count)
  lowered_apart k count =
      cases (lt_z count (pos 0))
      (λ b.
      rw b
      (apart_then (counting k count s.tables (places_same refl) refl)
      (apart_blocked size (with_count size less k count) stands (at_semaphore size k) (λ i. omega (arith, i)))))
      (λ b. rw b (counting k count s.tables (places_same refl) refl))

  effect_down : Has instr.down
  unfolding exec event_of
  effect_down =
      ends_needs _ 1 _ _ (λ h. ends_within _ _ _ _ _ refl
      (λ k e made. aside refl refl (lowered_apart k (semaphore_count size s.values k -ℤ pos 1))))

  -- ---- threads

  effect_exit : Has instr.exit
  unfolding exec event_of
  effect_exit =
      ends_needs _ 1 _ _ (λ h. ends_cond _ (owns_any size s.tables runner) _ _ (λ e. refl) (λ e. stops (top size s) refl refl))

  returns : (v : ℤ) → v ≡ cell size s (s.regs.fp - 1) → Ends (Effect size s instr.return) (frame size n s v)
  unfolding event_of frame
  returns (pos fp) e =
      ends_cond _ (leb 2 fp && ltb fp s.regs.fp) _ _
      (λ k. ends_within _ _ _ _ _ refl (λ pc i below. aside (rw (← e)) (rw (← e)) (none _ refl)))
      (λ k. refl)
  returns (negsuc k) e =
      ends_cond _ (eqb k 0) _ _
      (λ i.
      ends_cond _ (owns_any size s.tables runner) _ _ (λ o. refl)
      (λ o. stops (cell size s (s.regs.fp - 2)) (rw (← e, eqb-true k 0 i)) refl))
      (λ i. refl)

  effect_return : Has instr.return
  unfolding exec
  effect_return = ends_cond _ (ltb s.regs.fp s.regs.cells) _ _ (λ e. returns _ refl) (λ e. refl)

  effect_join : Has instr.join
  unfolding exec event_of
  effect_join =
      ends_needs _ 1 _ _
      (λ h.
      ends_within _ _ _ _ _ refl
      (λ w e made.
      let below : w < size = omega (arith, y.steady.both.kempt.tidy.counts.threads_fit) in
      ends_cond _ (eqb (place_of s.tables w) ended) _ _
      (λ k. late w (rw e) below h (eqb-true _ _ k) refl)
      (λ k. waits w (rw e) refl)))

  -- the new thread was in no place
  new_unmade : s.regs.threads < size → place_of s.tables s.regs.threads ≡ unmade
  new_unmade less = (y.steady.both.kempt.tidy.placed s.regs.threads less).not_made (omega arith)

  -- .. so it is no thread that is awake
  not_new : s.regs.threads < size → (t : ℕ) → Awake (place_of s.tables t) → t ≢ s.regs.threads
  not_new less t awake e = omega (arith, awake.least, ap (place_of s.tables) e, new_unmade less)

  created_apart : (pc : ℕ) → 2 ≤ s.regs.cells → s.regs.threads < size → Apart size runner s (created size n s pc)
  created_apart pc h less =
      let kept : Tables = saved s.tables s.regs.threads pc new_cells new_fp in
      let same = saved_places s.tables s.regs.threads pc new_cells new_fp in
      let at : place_of kept s.regs.threads ≡ unmade = ap (λ (l : List ℕ). get_or l s.regs.threads 0) same ∙ new_unmade less in
      apart_on size s stands _ _ _ _ refl
      (places_then (places_same same)
      (places_sent s.regs.threads ready (rw (same, stands.lined.long) less) (λ k. omega (arith, k))
      (λ k. omega (arith, at, k)) (λ far w k. omega (arith, at, k))
      (λ far awake. record { least = omega arith; most = omega arith })))
      (λ t below far awake.
      ap (λ (l : List ℕ). get_or l t 0) (sent_saved kept s.regs.threads ready).1
      ∙ (saved_other s.tables s.regs.threads pc new_cells new_fp t (not_new less t awake)).1)
      (λ t below. refl)
      (λ t i below far awake small.
      let new = not_new less t awake in
      let first : List ℤ = set s.store (stack_at size s.regs.threads 0) (top size s) in
      let second : List ℤ = set first (stack_at size s.regs.threads 1) minus_one in
      get_or-set_other (new_stack size s.store s.regs.threads (top size s)) (stack_at size runner (s.regs.cells - 2))
      (stack_at size t i) _ (pos 0) (λ e. omega (arith, e, room))
      ∙ get_or-set_other second (stack_at size s.regs.threads 2) (stack_at size t i) minus_one (pos 0) (λ e. omega (arith, e))
      ∙ get_or-set_other first (stack_at size s.regs.threads 1) (stack_at size t i) minus_one (pos 0) (λ e. omega (arith, e))
      ∙ get_or-set_other s.store (stack_at size s.regs.threads 0) (stack_at size t i) (top size s) (pos 0) (λ e. omega (arith, e)))

  effect_create : Has instr.create
  unfolding exec event_of
  effect_create =
      ends_needs _ 2 _ _
      (λ h.
      ends_within _ _ _ _ _ refl
      (λ pc e below.
      ends_cond (Effect size s instr.create) (ltb s.regs.threads size) _ _
      (λ k. aside refl refl (created_apart pc h (ltb-true _ _ k)))
      (λ k. combine minus_one instr.create refl refl)))

  -- every instruction
  pub effect : (i : Instruction) → Has i
  effect instr.halt = effect_halt
  effect (instr.loadc k) = effect_loadc k
  effect instr.load = effect_load
  effect instr.store = effect_store
  effect (instr.loadr k) = effect_loadr k
  effect (instr.storer k) = effect_storer k
  effect (instr.alloc k) = effect_alloc k
  effect instr.pop = effect_pop
  effect instr.dup = effect_dup
  effect instr.add = effect_add
  effect instr.sub = effect_sub
  effect instr.mul = effect_mul
  effect instr.div = effect_div
  effect instr.«mod» = effect_mod
  effect instr.neg = effect_neg
  effect instr.eq = effect_eq
  effect instr.neq = effect_neq
  effect instr.less = effect_less
  effect instr.leq = effect_leq
  effect instr.not = effect_not
  effect (instr.jump a) = effect_jump a
  effect (instr.jumpz a) = effect_jumpz a
  effect instr.mark = effect_mark
  effect instr.call = effect_call
  effect instr.return = effect_return
  effect instr.new = effect_new
  effect instr.create = effect_create
  effect instr.yield = effect_yield
  effect instr.exit = effect_exit
  effect instr.join = effect_join
  effect instr.finalize = effect_finalize
  effect instr.newmutex = effect_newmutex
  effect instr.lock = effect_lock
  effect instr.unlock = effect_unlock
  effect instr.newcond = effect_newcond
  effect instr.wait = effect_wait
  effect instr.signal = effect_signal
  effect instr.broadcast = effect_broadcast
  effect instr.newsema = effect_newsema
  effect instr.up = effect_up
  effect instr.down = effect_down
