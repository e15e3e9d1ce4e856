-- Only the thread that has a mutex executes unlock or wait on it: 28 stops any other. Assumes nothing.
use Prim.Native.Nat.{ℕ, ◌-◌, ◌<◌, ◌≤◌}
use mathlib.Core.Path.{◌≡◌, refl, sym, ap, ◌∙◌}
use mathlib.Core.Bool.{Bool, true, false, cond}
use mathlib.Core.List.{List, [], ◌∷◌, ◌++◌}
use mathlib.Core.Logic.{◌≢◌}
use native.Mathlib.Omega.{arith}
use lib.IntN.{ℤ}
use Rattle.machine.specs.Book.{Book, Entry, Event, book_of, event_of, fed}
use Rattle.machine.specs.Book as event
use Rattle.arithmetic.specs.Arithmetic.{eq_z}
use Rattle.machine.specs.Execution.{exec}
use Rattle.machine.specs.Instructions.{Instruction}
use Rattle.machine.specs.Instructions as instr
use Rattle.machine.specs.Order.{Has, Rightful}
use Rattle.machine.specs.Size.{mutex_limit}
use Rattle.machine.specs.State.{State, cell, minus_one}
use Rattle.machine.specs.Tables.{Tables, at_mutex, owner_of, queue}
use Rattle.machine.proofs.Booked.{Booked, entry, held}
use Rattle.machine.proofs.Execution.{ends_owns, exec_right}
use Rattle.machine.proofs.Outcomes.{Ends, ends_map, ends_needs, ends_within}
use Rattle.machine.proofs.Steady.{Runs}
use Rattle.machine.proofs.Targets.{target_of}

-- ---- which instructions release

pub data Releasing (i : Instruction) : Type 0 where
  by_unlock : i ≡ instr.unlock → Releasing i
  by_wait : i ≡ instr.wait → Releasing i
  neither : ((size : ℕ) (s u : State) (m : ℕ) → event_of size s i u ≢ event.unlocks m) → Releasing i

differs : (happens : Event) (m : ℕ) → (happens ≡ event.other) → happens ≢ event.unlocks m
differs happens m is e = absurd (let z : ◌≡◌ {A = ℕ} 0 1 = cc in omega arith)

-- an instruction that tells the book nothing
silent : (i : Instruction) → ((size : ℕ) (s u : State) → event_of size s i u ≡ event.other) → Releasing i
silent i is = neither (λ size s u m. differs (event_of size s i u) m (is size s u))

-- whether a return ends its thread or not
return_differs : (b : Bool) (v : ℤ) (m : ℕ) → cond b (event.ends v) event.other ≢ event.unlocks m
return_differs true v m e = absurd (let z : ◌≡◌ {A = ℕ} 0 1 = cc in omega arith)
return_differs false v m e = absurd (let z : ◌≡◌ {A = ℕ} 0 1 = cc in omega arith)

pub releasing : (i : Instruction) → Releasing i
unfolding event_of
releasing instr.unlock = by_unlock refl
releasing instr.wait = by_wait refl
releasing instr.lock = neither (λ size s u m e. absurd (let z : ◌≡◌ {A = ℕ} 0 1 = cc in omega arith))
releasing instr.create = neither (λ size s u m e. absurd (let z : ◌≡◌ {A = ℕ} 0 1 = cc in omega arith))
releasing instr.exit = neither (λ size s u m e. absurd (let z : ◌≡◌ {A = ℕ} 0 1 = cc in omega arith))
releasing instr.return = neither (λ size s u m. return_differs (eq_z (cell size s (s.regs.fp - 1)) minus_one) (cell size s (s.regs.fp - 2)) m)
releasing instr.join = neither (λ size s u m e. absurd (let z : ◌≡◌ {A = ℕ} 0 1 = cc in omega arith))
releasing instr.newsema = neither (λ size s u m e. absurd (let z : ◌≡◌ {A = ℕ} 0 1 = cc in omega arith))
releasing instr.up = neither (λ size s u m e. absurd (let z : ◌≡◌ {A = ℕ} 0 1 = cc in omega arith))
releasing instr.down = neither (λ size s u m e. absurd (let z : ◌≡◌ {A = ℕ} 0 1 = cc in omega arith))
releasing instr.halt = silent _ (λ size s u. refl)
releasing (instr.loadc k) = silent _ (λ size s u. refl)
releasing instr.load = silent _ (λ size s u. refl)
releasing instr.store = silent _ (λ size s u. refl)
releasing (instr.loadr k) = silent _ (λ size s u. refl)
releasing (instr.storer k) = silent _ (λ size s u. refl)
releasing (instr.alloc k) = silent _ (λ size s u. refl)
releasing instr.pop = silent _ (λ size s u. refl)
releasing instr.dup = silent _ (λ size s u. refl)
releasing instr.add = silent _ (λ size s u. refl)
releasing instr.sub = silent _ (λ size s u. refl)
releasing instr.mul = silent _ (λ size s u. refl)
releasing instr.div = silent _ (λ size s u. refl)
releasing instr.«mod» = silent _ (λ size s u. refl)
releasing instr.neg = silent _ (λ size s u. refl)
releasing instr.eq = silent _ (λ size s u. refl)
releasing instr.neq = silent _ (λ size s u. refl)
releasing instr.less = silent _ (λ size s u. refl)
releasing instr.leq = silent _ (λ size s u. refl)
releasing instr.not = silent _ (λ size s u. refl)
releasing (instr.jump a) = silent _ (λ size s u. refl)
releasing (instr.jumpz a) = silent _ (λ size s u. refl)
releasing instr.mark = silent _ (λ size s u. refl)
releasing instr.call = silent _ (λ size s u. refl)
releasing instr.new = silent _ (λ size s u. refl)
releasing instr.yield = silent _ (λ size s u. refl)
releasing instr.finalize = silent _ (λ size s u. refl)
releasing instr.newmutex = silent _ (λ size s u. refl)
releasing instr.newcond = silent _ (λ size s u. refl)
releasing instr.signal = silent _ (λ size s u. refl)
releasing instr.broadcast = silent _ (λ size s u. refl)

-- ---- one instruction

-- the owner of a mutex has it
has : (size : ℕ) (tables : Tables) (book : Book) → Booked size tables book → (m t : ℕ) → m < mutex_limit size →
    owner_of tables m ≡ t → t ≢ size → Has book m t
has size tables book b m t limit owner some =
    (queue tables (at_mutex m), b.ordered m limit ∙ ap (λ (l : List ℕ). l ++ queue tables (at_mutex m)) (held size tables m t owner some))

module _ (size n : ℕ) (s : State) (book : Book) (y : Runs size s book) (short : n ≤ 4096) where
  abbrev Rights : Instruction → State → Type 0
  Rights i u = Rightful book (entry s.regs.thread (event_of size s i u))

  -- unlock and wait come to their mutex where the running thread owns it
  mine : (m k : ℕ) → m < s.regs.mutexes → owner_of s.tables m ≡ s.regs.thread →
      event.unlocks m ≡ event.unlocks k → Has book k s.regs.thread
  mine m k made owner same =
      let is : m ≡ k = cc in
      has size s.tables book y.steady.both.booked k s.regs.thread (omega (arith, is, y.steady.both.kempt.tidy.counts.mutexes_fit)) (ap (owner_of s.tables) (sym is) ∙ owner) y.some

  unlock_rightful : Ends (Rights instr.unlock) (exec size n s instr.unlock)
  unfolding exec event_of
  unlock_rightful =
      ends_needs _ 1 _ _
      (λ h. ends_within _ _ _ _ _ refl (λ m e made. ends_owns size n s book y short _ m _ (λ owner. rw e (λ k same. mine m k made owner same))))

  wait_rightful : Ends (Rights instr.wait) (exec size n s instr.wait)
  unfolding exec event_of
  wait_rightful =
      ends_needs _ 2 _ _
      (λ h.
      ends_within _ _ _ _ _ refl
      (λ c i made_c.
      ends_within _ _ _ _ _ refl (λ m e made. ends_owns size n s book y short _ m _ (λ owner. rw e (λ k same. mine m k made owner same)))))

  pub exec_rightful : (i : Instruction) → target_of i < n → Ends (Rights i) (exec size n s i)
  exec_rightful i t = by_kind (releasing i)
    where
      by_kind : Releasing i → Ends (Rights i) (exec size n s i)
      by_kind (by_unlock e) = rw e unlock_rightful
      by_kind (by_wait e) = rw e wait_rightful
      by_kind (neither h) = ends_map _ _ (λ u l m e. absurd (h size s u m e)) (exec size n s i) (exec_right size n s book y short i t)

-- ---- along a trace

-- each release is rightful, by the book as it is then
unfoldable pub Lawful : Book → List Entry → Type 0
Lawful book [] = Unit
Lawful book (e ∷ rest) = Rightful book e × Lawful (fed book e) rest

pub lawful_append : (book : Book) (a b : List Entry) → Lawful book a → Lawful (book_of book a) b → Lawful book (a ++ b)
unfolding Lawful book_of
lawful_append book [] b first second = second
lawful_append book (e ∷ a) b first second = (first.0, lawful_append (fed book e) a b first.1 second)
