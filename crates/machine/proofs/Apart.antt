-- What instructions leave of other threads than the one that runs: where each is, its top cell and its result. Assumes nothing.
use Prim.Native.Nat.{ℕ, zero, suc, ◌+◌, ◌-◌, ◌*◌, ◌<◌, ◌≤◌}
use mathlib.Core.Path.{◌≡◌, refl, sym, ap, ◌∙◌}
use mathlib.Core.Bool.{cond}
use mathlib.Core.List.{List, [], ◌∷◌}
use mathlib.Core.Logic.{◌⊎◌, ◌≢◌, inl, inr, ⊎_elim}
use native.Mathlib.Omega.{arith}
use lib.Dec.{eqb}
use lib.IntN.{ℤ, pos}
use lib.ListN.{length, get_or, length-set, replicate, set}
use lib.Seq.{get_or-set_other, sets}
use borrow.Author.Tests.{eq-eqb, ne_eqb}
use Rattle.machine.specs.Book.{Book}
use Rattle.machine.specs.Delivery.{depth_of, top_of}
use Rattle.machine.specs.Lists.{count}
use Rattle.machine.specs.Size.{mutex_limit, stack_at}
use Rattle.machine.specs.State.{State, blocked, left, next, next_of, with_tables}
use Rattle.machine.specs.Tables.{Tables, active, all_ready, at_end, at_mutex, ended, first, owned, place_of, queue, ready, saved, sent, unlocked, wake_all, wake_first}
use Rattle.std.specs.Prelude.{Some, None}
use Rattle.machine.specs.declared.registers.Registers.{Registers}
use Rattle.machine.proofs.Changes.{in_line}
use Rattle.machine.proofs.Lists.{count_cons, less_or_not, one_if_same, same_or_not}
use Rattle.machine.proofs.Queues.{count_queue, count_queued, first_at, first_in_line, first_nobody, first_waiter, owned_line, owned_places, owned_saved, saved_line, saved_other, saved_places, sent_count, sent_here, sent_saved, sent_there}
use Rattle.machine.proofs.Steady.{Runs}

-- running or ready
pub record Awake (p : ℕ) : Type 0 where
  pub least : active ≤ p
  pub most : p ≤ ready

-- tables whose places are those of the box's threads, in whose line nobody else is
pub record Lined (size : ℕ) (tables : Tables) : Type 0 where
  pub long : length tables.places ≡ size
  pub within : (t : ℕ) → 0 < count t tables.line → t < size

module _ {size : ℕ} {tables : Tables} (l : Lined size tables) where
  pub lined_sent : (t p : ℕ) → Lined size (sent tables t p)
  lined_sent t p =
      record {
        long = unfold sent in length-set tables.places t p ∙ l.long;
        within = λ u h. l.within u (rw (sent_count tables t p u) at h);
      }

  pub lined_same : (next : Tables) → next.places ≡ tables.places → next.line ≡ tables.line → Lined size next
  lined_same next places line = record { long = ap length places ∙ l.long; within = λ u h. l.within u (rw line at h) }

-- ---- places

-- of all threads but r: who waits for an end, or is awake, does so afterwards; of all: nobody ends or comes back
pub record Places (size r : ℕ) (a b : Tables) : Type 0 where
  pub ended_too : (t : ℕ) → t < size → place_of a t ≡ ended → place_of b t ≡ ended
  pub living_too : (t : ℕ) → t < size → place_of a t ≢ ended → place_of b t ≢ ended
  pub waits_too : (t w : ℕ) → t < size → t ≢ r → place_of a t ≡ at_end size w → place_of b t ≡ at_end size w
  pub awake_too : (t : ℕ) → t < size → t ≢ r → Awake (place_of a t) → Awake (place_of b t)

pub places_same : {size r : ℕ} {a b : Tables} → b.places ≡ a.places → Places size r a b
places_same {a = a} {b = b} e =
    let at : (t : ℕ) → place_of b t ≡ place_of a t = λ t. ap (λ (l : List ℕ). get_or l t 0) e in
    record {
      ended_too = λ t h i. at t ∙ i;
      living_too = λ t h i k. i (sym (at t) ∙ k);
      waits_too = λ t w h far i. at t ∙ i;
      awake_too = λ t h far i. rw (at t) i;
    }

pub places_then : {size r : ℕ} {a b c : Tables} → Places size r a b → Places size r b c → Places size r a c
places_then p q =
    record {
      ended_too = λ t h i. q.ended_too t h (p.ended_too t h i);
      living_too = λ t h i. q.living_too t h (p.living_too t h i);
      waits_too = λ t w h far i. q.waits_too t w h far (p.waits_too t w h far i);
      awake_too = λ t h far i. q.awake_too t h far (p.awake_too t h far i);
    }

-- where nobody is excepted, r may be
pub places_wider : {size r : ℕ} {a b : Tables} → Places size size a b → Places size r a b
places_wider p =
    record {
      ended_too = p.ended_too;
      living_too = p.living_too;
      waits_too = λ t w h far. p.waits_too t w h (λ e. omega (arith, e));
      awake_too = λ t h far. p.awake_too t h (λ e. omega (arith, e));
    }

-- a place from which a thread may go without a trace in these: it has not ended, and waits for no end
pub record Wakeable (size p : ℕ) : Type 0 where
  pub not_ended : p ≢ ended
  pub no_end : (w : ℕ) → p ≢ at_end size w

module _ {size r : ℕ} {a : Tables} where
  -- a thread goes elsewhere: r, or one that stays awake
  pub places_sent : (t p : ℕ) → t < length a.places → p ≢ ended → place_of a t ≢ ended →
      (t ≢ r → (w : ℕ) → place_of a t ≢ at_end size w) → (t ≢ r → Awake (place_of a t) → Awake p) →
      Places size r a (sent a t p)
  places_sent t p below goes lives waits wakes =
      let here = sent_here a t p below in
      let there = sent_there a t p in
      record {
        ended_too = λ u h i. same_or_not u t (λ e. absurd (lives (ap (place_of a) (sym e) ∙ i))) (λ far. there u far ∙ i);
        living_too = λ u h i. same_or_not u t
            (λ e k. goes (sym here ∙ ap (place_of (sent a t p)) (sym e) ∙ k))
            (λ far k. i (sym (there u far) ∙ k));
        waits_too = λ u w h out i. same_or_not u t
            (λ e. absurd (waits (λ k. out (e ∙ k)) w (ap (place_of a) (sym e) ∙ i)))
            (λ far. there u far ∙ i);
        awake_too = λ u h out i. same_or_not u t
            (λ e. rw (e, here) (wakes (λ k. out (e ∙ k)) (rw e at i)))
            (λ far. rw (there u far) i);
      }

pub places_woken : {size : ℕ} (l : List ℕ) (a : Tables) → Lined size a →
    ((t : ℕ) → 0 < count t l → (t < size) × Wakeable size (place_of a t)) → Places size size a (all_ready l a)
unfolding all_ready
places_woken [] a lined all = places_same refl
places_woken {size} (t ∷ rest) a lined all =
    let mine = all t (rw (count_cons t t rest, one_if_same t) (omega arith)) in
    let inside : t < length a.places = rw lined.long mine.0 in
    places_then
    (places_sent t ready inside (λ e. omega (arith, e)) mine.1.not_ended (λ far. mine.1.no_end)
    (λ far i. record { least = omega arith; most = omega arith }))
    (places_woken rest (sent a t ready) (lined_sent lined t ready)
    (λ u h.
    let was = all u (rw (count_cons u t rest) (omega arith)) in (
      was.0,
      same_or_not u t
          (λ e. rw (e, sent_here a t ready inside) (record { not_ended = λ k. omega (arith, k); no_end = λ w k. omega (arith, k) }))
          (λ far. rw (sent_there a t ready u far) was.1),
    )))

module _ {size : ℕ} {a : Tables} (lined : Lined size a) where
  -- all of a queue
  pub places_all : (q : ℕ) → Wakeable size q → Places size size a (wake_all a q)
  places_all q able =
      places_woken (queue a q) a lined
      (λ t h.
      same_or_not (place_of a t) q
      (λ e. (lined.within t (rw (count_queued a q t e) at h), rw e able))
      (λ far. absurd (omega (arith, count_queue a q t far))))

  -- the first of a queue
  head : (q t : ℕ) (rest : List ℕ) → queue a q ≡ t ∷ rest → t < size
  head q t rest e = lined.within t (first_in_line a q t rest e)

  pub places_first : (q : ℕ) → Wakeable size q → Places size size a (wake_first a q)
  places_first q able = by_queue (queue a q) refl
    where
      by_queue : (l : List ℕ) → queue a q ≡ l → Places size size a (wake_first a q)
      by_queue [] e = rw (first_nobody a q e) (places_same refl)
      by_queue (t ∷ rest) e =
          let at = first_at a q t rest e in
          rw (first_waiter a q t rest e)
          (places_sent t ready (rw lined.long (head q t rest e)) (λ k. omega (arith, k)) (rw at able.not_ended)
          (λ far. rw at able.no_end)
          (λ far i. record { least = omega arith; most = omega arith }))

  -- a mutex is given on, or free
  pub places_given : (m : ℕ) → m < mutex_limit size → Places size size a (unlocked size a m)
  places_given m limit = by_queue (queue a (at_mutex m)) refl
    where
      by_queue : (l : List ℕ) → queue a (at_mutex m) ≡ l → Places size size a (unlocked size a m)
      by_queue [] e = rw (first_nobody a (at_mutex m) e) (places_same (owned_places a m size))
      by_queue (t ∷ rest) e =
          let at : place_of (owned a m t) t ≡ at_mutex m =
          ap (λ (l : List ℕ). get_or l t 0) (owned_places a m t) ∙ first_at a (at_mutex m) t rest e in
          rw (first_waiter a (at_mutex m) t rest e)
          (places_then (places_same (owned_places a m t))
          (places_sent t ready (rw (owned_places a m t, lined.long) (head (at_mutex m) t rest e)) (λ k. omega (arith, k))
          (λ k. omega (arith, at, k)) (λ far w k. omega (arith, at, k))
          (λ far i. record { least = omega arith; most = omega arith })))

  pub lined_given : (m : ℕ) → Lined size (unlocked size a m)
  lined_given m = by_queue (queue a (at_mutex m)) refl
    where
      by_queue : (l : List ℕ) → queue a (at_mutex m) ≡ l → Lined size (unlocked size a m)
      by_queue [] e = rw (first_nobody a (at_mutex m) e) (lined_same lined (owned a m size) (owned_places a m size) (owned_line a m size))
      by_queue (t ∷ rest) e =
          rw (first_waiter a (at_mutex m) t rest e)
          (lined_sent (lined_same lined (owned a m t) (owned_places a m t) (owned_line a m t)) t ready)

-- ---- saved registers

pub woken_depths : (l : List ℕ) (a : Tables) → (all_ready l a).depths ≡ a.depths
unfolding all_ready
woken_depths [] a = refl
woken_depths (t ∷ rest) a = woken_depths rest (sent a t ready) ∙ (sent_saved a t ready).1

pub first_depths : (a : Tables) (q : ℕ) → (wake_first a q).depths ≡ a.depths
first_depths a q = by_queue (queue a q) refl
  where
    by_queue : (l : List ℕ) → queue a q ≡ l → (wake_first a q).depths ≡ a.depths
    by_queue [] e = rw (first_nobody a q e)
    by_queue (t ∷ rest) e = rw (first_waiter a q t rest e) (sent_saved a t ready).1

pub given_depths : (size : ℕ) (a : Tables) (m : ℕ) → (unlocked size a m).depths ≡ a.depths
given_depths size a m = by_queue (queue a (at_mutex m)) refl
  where
    by_queue : (l : List ℕ) → queue a (at_mutex m) ≡ l → (unlocked size a m).depths ≡ a.depths
    by_queue [] e = rw (first_nobody a (at_mutex m) e) (owned_saved a m size).1
    by_queue (t ∷ rest) e = rw (first_waiter a (at_mutex m) t rest e) ((sent_saved (owned a m t) t ready).1 ∙ (owned_saved a m t).1)

-- ---- states

-- what an instruction of thread r leaves of the others: their places, their results and, where they are awake, their top cells
pub record Apart (size r : ℕ) (s u : State) : Type 0 where
  pub places : Places size r s.tables u.tables
  pub results : (t : ℕ) → t < size → get_or u.values t (pos 0) ≡ get_or s.values t (pos 0)
  pub tops : (t : ℕ) → t < size → t ≢ r → Awake (place_of s.tables t) → top_of size u t ≡ top_of size s t

pub apart_then : {size r : ℕ} {a b c : State} → Apart size r a b → Apart size r b c → Apart size r a c
apart_then p q =
    record {
      places = places_then p.places q.places;
      results = λ t h. q.results t h ∙ p.results t h;
      tops = λ t h far i. q.tops t h far (p.places.awake_too t h far i) ∙ p.tops t h far i;
    }

pub apart_wider : {size r : ℕ} {a b : State} → Apart size size a b → Apart size r a b
apart_wider p = record { places = places_wider p.places; results = p.results; tops = λ t h far. p.tops t h (λ e. omega (arith, e)) }

-- where all threads of two states have as many cells, and the stores are the same, so are their tops
top_same : (size : ℕ) (s u : State) (t : ℕ) → u.store ≡ s.store → depth_of u t ≡ depth_of s t → top_of size u t ≡ top_of size s t
top_same size s u t store depth = rw (store, depth)

-- other tables, in which as many cells are saved of each thread
pub apart_tables : (size : ℕ) (s : State) (tables : Tables) → Places size size s.tables tables →
    tables.depths ≡ s.tables.depths → Apart size size s (with_tables s tables)
apart_tables size s tables places depths =
    record {
      places = places;
      results = λ t h. refl;
      tops =
          λ t h far i. top_same size s (with_tables s tables) t refl
          (ap (λ (l : List ℕ). cond (eqb t s.regs.thread) s.regs.cells (get_or l t 0)) depths);
    }

-- Next, where none runs
pub apart_next : (size : ℕ) (s : State) → Lined size s.tables → s.regs.thread ≡ size →
    Apart size size s (next size s)
unfolding next
apart_next size s lined none = by_queue (queue s.tables ready) refl
  where
    idle : (t : ℕ) → t < size → depth_of s t ≡ get_or s.tables.depths t 0
    idle t h = rw (ne_eqb t s.regs.thread (λ e. omega (arith, e, none)))

    by_queue : (l : List ℕ) → queue s.tables ready ≡ l → Apart size size s (next_of size (first s.tables ready) s)
    by_queue [] e =
        rw (first_nobody s.tables ready e)
        (record {
          places = places_same refl;
          results = λ t h. refl;
          tops = λ t h far i. top_same size s (next_of size None s) t refl (rw (ne_eqb t size far) (sym (idle t h)));
        })
    by_queue (w ∷ rest) e =
        let below = head lined ready w rest e in
        let at = first_at s.tables ready w rest e in
        rw (first_waiter s.tables ready w rest e)
        (record {
          places =
              places_sent w active (rw lined.long below) (λ k. omega (arith, k)) (λ k. omega (arith, at, k))
              (λ far u k. omega (arith, at, k))
              (λ far i. record { least = omega arith; most = omega arith });
          results = λ t h. refl;
          tops =
              λ t h far i.
              top_same size s (next_of size (Some (record { 0 = w })) s) t refl
              (same_or_not t w
              (λ is. rw (eq-eqb t w is) (ap (λ (k : ℕ). get_or s.tables.depths k 0) (sym is) ∙ sym (idle t h)))
              (λ other. rw (ne_eqb t w other, (sent_saved s.tables w active).1) (sym (idle t h))));
        })

-- what this asks of the tables and of the thread that runs
pub record Standing (size : ℕ) (tables : Tables) (r : ℕ) : Type 0 where
  pub below : r < size
  pub runs : place_of tables r ≡ active
  pub lined : Lined size tables
  -- another thread that is awake has its registers saved
  pub few : (t : ℕ) → t < size → t ≢ r → Awake (place_of tables t) → get_or tables.depths t 0 ≤ 128

pub standing : (size : ℕ) (s : State) (book : Book) → Runs size s book → Standing size s.tables s.regs.thread
standing size s book y =
    let tidy = y.steady.both.kempt.tidy in
    record {
      below = omega (arith, (tidy.runner y.some).0, tidy.counts.threads_fit);
      runs = (tidy.runner y.some).1;
      lined = record { long = y.steady.both.kempt.sizes.places; within = in_line y.steady.both };
      few =
          λ t h far i.
          same_or_not (place_of s.tables t) active
          (λ e. absurd (far ((tidy.placed t h).only_run e)))
          (λ e. ((tidy.placed t h).kept (omega (arith, i.least))).cells_fit);
    }

module _ (size : ℕ) (s : State) (y : Standing size s.tables s.regs.thread) where
  abbrev runner : ℕ
  runner = s.regs.thread

  -- the stacks of the others that are awake are as they were
  abbrev pub Stacks : List ℤ → Type 0
  Stacks store =
      (t i : ℕ) → t < size → t ≢ runner → Awake (place_of s.tables t) → i < 128 →
      get_or store (stack_at size t i) (pos 0) ≡ get_or s.store (stack_at size t i) (pos 0)

  -- the running thread runs on, with another store, other tables, values and registers
  pub apart_on : (store : List ℤ) (tables : Tables) (values : List ℤ) (regs : Registers) → regs.thread ≡ runner →
      Places size runner s.tables tables →
      ((t : ℕ) → t < size → t ≢ runner → Awake (place_of s.tables t) → get_or tables.depths t 0 ≡ get_or s.tables.depths t 0) →
      ((t : ℕ) → t < size → get_or values t (pos 0) ≡ get_or s.values t (pos 0)) → Stacks store →
      Apart size runner s (record { store = store; tables = tables; values = values; regs = regs })
  apart_on store tables values regs same places depths results stacks =
      record {
        places = places;
        results = results;
        tops =
            λ t h far i.
            let few = y.few t h far i in
            rw (ne_eqb t regs.thread (λ e. far (e ∙ same)), ne_eqb t runner far, depths t h far i)
            (stacks t (get_or s.tables.depths t 0 - 1) h far i (omega arith));
      }

  -- it touches the store, the registers and semaphores' counts alone
  pub apart_cells : (store : List ℤ) (regs : Registers) → regs.thread ≡ runner → Stacks store →
      Apart size runner s (record { store = store; tables = s.tables; values = s.values; regs = regs })
  apart_cells store regs same stacks =
      apart_on store s.tables s.values regs same (places_same refl) (λ t h far i. refl) (λ t h. refl) stacks

  -- a cell that is in no other stack is written
  pub stacks_set : (a : ℕ) (v : ℤ) → ((t i : ℕ) → t < size → t ≢ runner → i < 128 → stack_at size t i ≢ a) → Stacks (set s.store a v)
  stacks_set a v away t i h far awake small = get_or-set_other s.store a (stack_at size t i) v (pos 0) (away t i h far small)

  -- .. such as one of its own
  pub stacks_own : (j : ℕ) (v : ℤ) → j < 128 → Stacks (set s.store (stack_at size runner j) v)
  stacks_own j v small = stacks_set (stack_at size runner j) v (λ t i h far low e. own t i far low e)
    where
      own : (t i : ℕ) → t ≢ runner → i < 128 → stack_at size t i ≢ stack_at size runner j
      own t i far low e = omega (arith, e)

  -- or a shared one
  pub stacks_shared : (a : ℕ) (v : ℤ) → a < 128 * size → Stacks (set s.store a v)
  stacks_shared a v small = stacks_set a v (λ t i h far low e. omega (arith, e))

  -- it leaves for another place, and none runs
  pub apart_left : (p : ℕ) → p ≢ ended → Apart size runner s (left size s p)
  unfolding left
  apart_left p goes =
      let kept : Tables = saved s.tables runner s.regs.pc s.regs.cells s.regs.fp in
      let same = saved_places s.tables runner s.regs.pc s.regs.cells s.regs.fp in
      let at : place_of kept runner ≡ active = ap (λ (l : List ℕ). get_or l runner 0) same ∙ y.runs in
      record {
        places =
            places_then (places_same same)
            (places_sent runner p (rw (same, y.lined.long) y.below) goes (λ k. omega (arith, at, k))
            (λ far. absurd (far refl)) (λ far. absurd (far refl)));
        results = λ t h. refl;
        tops =
            λ t h far i.
            top_same size s (left size s p) t refl
            (rw (ne_eqb t size (λ e. omega (arith, e)), ne_eqb t runner far, (sent_saved kept runner p).1)
            (saved_other s.tables runner s.regs.pc s.regs.cells s.regs.fp t far).1);
      }

  pub lined_left : (p : ℕ) → Lined size (left size s p).tables
  unfolding left
  lined_left p =
      lined_sent
      (lined_same y.lined (saved s.tables runner s.regs.pc s.regs.cells s.regs.fp)
      (saved_places s.tables runner s.regs.pc s.regs.cells s.regs.fp)
      (saved_line s.tables runner s.regs.pc s.regs.cells s.regs.fp))
      runner p

  -- it is there then
  pub left_there : (p : ℕ) → place_of (left size s p).tables runner ≡ p
  unfolding left
  left_there p =
      sent_here (saved s.tables runner s.regs.pc s.regs.cells s.regs.fp) runner p
      (rw (saved_places s.tables runner s.regs.pc s.regs.cells s.regs.fp, y.lined.long) y.below)

  -- "wait in its queue, then Next"
  pub apart_blocked : (p : ℕ) → p ≢ ended → Apart size runner s (blocked size s p)
  apart_blocked p goes = apart_then (apart_left p goes) (apart_wider (apart_next size (left size s p) (lined_left p) (unfold left in refl)))

  -- so many of its own from one on
  pub stacks_run : (k j : ℕ) → j + k ≤ 128 → Stacks (sets s.store (stack_at size runner j) (replicate k (pos 0)))
  stacks_run k j room t i h far awake small = outside k s.store (stack_at size runner j) (stack_at size t i) (beside t i far small)
    where
      -- a cell before a run of writes, or past it, is as it was
      outside : (k : ℕ) (l : List ℤ) (from a : ℕ) → (a < from) ⊎ (from + k ≤ a) →
          get_or (sets l from (replicate k (pos 0))) a (pos 0) ≡ get_or l a (pos 0)
      outside zero l from a away = refl
      outside (suc k) l from a away =
          ⊎_elim
          (λ less. outside k (set l from (pos 0)) (suc from) a (inl (omega arith)) ∙ get_or-set_other l from a (pos 0) (pos 0)
          (λ e. omega (arith, e)))
          (λ more. outside k (set l from (pos 0)) (suc from) a (inr (omega arith)) ∙ get_or-set_other l from a (pos 0) (pos 0)
          (λ e. omega (arith, e)))
          away

      beside : (t i : ℕ) → t ≢ runner → i < 128 →
          (stack_at size t i < stack_at size runner j) ⊎ (stack_at size runner j + k ≤ stack_at size t i)
      beside t i far low = less_or_not t runner (λ less. inl (omega arith)) (λ more. inr (omega arith))
