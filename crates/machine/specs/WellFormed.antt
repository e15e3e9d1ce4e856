-- "Well formed": each clause of the paper as a test that computes. Plain.antt has the plain reading of each, proved
-- from it and back.
use Rattle.std.specs.Prelude.{ℕ, suc, ◌+◌, ◌-◌, ◌*◌, Bool, true, cond, not as negate, ◌&&◌, ◌||◌, List, [], ◌∷◌, eqb, leb, ltb, ℤ, pos, negsuc, length, get_or}
use Rattle.machine.specs.Lists.{count, every, some}
use Rattle.machine.specs.Registers.{faulted, halted, is_fault, running, stuck}
use Rattle.machine.specs.Size.{condition_limit, mutex_limit, semaphore_limit, shared, tables_size, values_size}
use Rattle.machine.specs.State.{semaphore_count}
use Rattle.machine.specs.Tables.{Tables, active, any_live, at_semaphore, ended, is_at, lives, owner_of, place_of, queue, ready, tables_of, unmade}
use Rattle.machine.specs.declared.registers.Registers.{Registers}

-- low ≤ x ≤ high
abbrev pub in_range : ℕ → ℕ → ℕ → Bool
in_range low high x = leb low x && leb x high

-- "counts .. in range"
abbrev pub counts_fit : ℕ → Registers → Bool
counts_fit size r =
    in_range 1 size r.threads
    && (leb r.mutexes (mutex_limit size)
    && (leb r.conditions (condition_limit size) && leb r.semaphores (semaphore_limit size)))

-- "PC 0 to 4,096, SP −1 to 127, FP 2 to 127", of the registers and of a saved thread
abbrev pub frame_fits : ℕ → ℕ → ℕ → Bool
frame_fits pc cells fp = leb pc 4096 && (leb cells 128 && in_range 2 127 fp)

abbrev pub saved_fits : Tables → ℕ → Bool
saved_fits tables t = frame_fits (get_or tables.pcs t 0) (get_or tables.depths t 0) (get_or tables.frames t 0)

-- "counts and registers in range, next free cell 1 to 4,096"; the running thread is one that was made, or nobody
abbrev pub registers_fit : ℕ → Registers → Bool
registers_fit size r =
    counts_fit size r
    && (frame_fits r.pc r.cells r.fp
    && (in_range 1 (shared size) r.free && (ltb r.thread r.threads || eqb r.thread size)))

-- every number of a list is below a bound
unfoldable pub all_below : ℕ → List ℕ → Bool
all_below bound [] = true
all_below bound (x ∷ xs) = ltb x bound && all_below bound xs

-- the line holds each thread once: that is how "in one place" reads in this storage
abbrev pub line_fits : ℕ → List ℕ → Bool
line_fits size line = all_below size line && every size (λ t. eqb (count t line) 1)

-- a thread that waits, waits for what is made: "free mutexes and ended threads have no waiters, .. and what isn't
-- made yet has neither owner nor waiters", semaphores too
abbrev pub wait_fits : ℕ → Registers → Tables → ℕ → Bool
wait_fits size r tables p =
    cond (ltb p (4 + 2 * size)) (ltb (p - 4) r.mutexes && negate (eqb (owner_of tables (p - 4)) size))
    (cond (ltb p (4 + 4 * size)) (ltb (p - (4 + 2 * size)) r.conditions)
    (cond (ltb p (4 + 5 * size)) (ltb (p - (4 + 4 * size)) r.semaphores)
    (ltb (p - (4 + 5 * size)) r.threads && negate (eqb (place_of tables (p - (4 + 5 * size))) ended))))

-- "a thread waiting for another's end has a cell on its stack" (change request Six)
abbrev pub joiner_fits : ℕ → Tables → ℕ → Bool
joiner_fits size tables t = ltb (place_of tables t) (4 + 5 * size) || ltb 0 (get_or tables.depths t 0)

-- "each live thread in one place, ended and unmade ones in none": a thread's place by what it is
abbrev pub thread_fits : ℕ → Registers → Tables → ℕ → Bool
thread_fits size r tables t =
    cond (leb r.threads t) (is_at tables unmade t)
    (cond (eqb t r.thread) (is_at tables active t)
    (is_at tables ended t
    || (saved_fits tables t
    && (is_at tables ready t
    || (leb 4 (place_of tables t)
    && (wait_fits size r tables (place_of tables t) && joiner_fits size tables t))))))

-- "owners are threads made, and what isn't made yet has neither owner .."; "an owner is a live thread" (change
-- request Two)
abbrev pub owner_fits : ℕ → Registers → Tables → ℕ → Bool
owner_fits size r tables m =
    eqb (owner_of tables m) size
    || (ltb m r.mutexes && (ltb (owner_of tables m) r.threads && lives tables (owner_of tables m)))

-- "the larger of 0 and minus the count"
abbrev pub shortfall : ℤ → ℕ
shortfall (pos a) = 0
shortfall (negsuc a) = suc a

-- "the number waiting is the larger of 0 and minus the count", for a semaphore made (change request Four)
abbrev pub level_fits : ℕ → Tables → List ℤ → ℕ → Bool
level_fits size tables values k =
    eqb (length (queue tables (at_semaphore size k))) (shortfall (semaphore_count size values k))

-- "the fault number is one of the table from 20 up when faulted, else 0"
abbrev pub fault_fits : Registers → Bool
fault_fits r = cond (eqb r.state faulted) (is_fault r.fault) (eqb r.fault 0)

-- a thread is in the ready queue
abbrev pub any_ready : ℕ → Tables → Bool
any_ready size tables = some size (is_at tables ready)

-- "running and faulted have a running thread, stuck has none running, none ready and a live one, halted has a running
-- thread or no live one"
abbrev pub state_fits : ℕ → Registers → Tables → Bool
state_fits size r tables =
    cond (eqb r.thread size)
    (cond (eqb r.state stuck) (negate (any_ready size tables) && any_live size tables)
    (eqb r.state halted && negate (any_live size tables)))
    (eqb r.state running || (eqb r.state faulted || eqb r.state halted))

unfoldable pub formed : ℕ → Registers → Tables → List ℤ → Bool
formed size r tables values =
    registers_fit size r
    && (line_fits size tables.line
    && (every size (thread_fits size r tables)
    && (every (mutex_limit size) (owner_fits size r tables)
    && (every r.semaphores (level_fits size tables values) && (fault_fits r && state_fits size r tables)))))

-- "a lent table of the wrong size .. is never well formed"
abbrev pub tables_fit : ℕ → List ℕ → List ℤ → Bool
tables_fit size tables values = eqb (length tables) (tables_size size) && eqb (length values) (values_size size)

unfoldable pub well_formed : ℕ → Registers → List ℕ → List ℤ → Bool
well_formed size r tables values = tables_fit size tables values && formed size r (tables_of size tables) values
