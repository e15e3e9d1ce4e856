-- Laws of taking the first of a queue and sending it on, and of waking all one after the other. Assumes nothing.
use Prim.Native.Nat.{ℕ, ◌<◌}
use mathlib.Core.Path.{◌≡◌, refl, sym, ap, ◌∙◌}
use mathlib.Core.List.{List, [], ◌∷◌}
use native.Mathlib.Omega.{arith}
use lib.ListN.{length}
use Rattle.machine.proofs.Queues.{first_nobody, first_waiter, queue_left, sent_again}
use Rattle.machine.proofs.Slices.{slice_sizes}
use Rattle.machine.specs.Tables.{Tables, active, all_ready, first, queue, ready, sent, tables_of, wake_all, wake_first, wake_one}
use Rattle.machine.specs.declared.numbers.Thread.{Thread}
use Rattle.std.specs.Prelude.{Option, Some, None}
use Rattle.tables.specs.Good.{Dequeued, Good, taken}

-- the queue of what was found
pub record Head (tables : Tables) (place t : ℕ) : Type 0 where
  pub rest : List ℕ
  pub is : queue tables place ≡ t ∷ rest

pub head : (tables : Tables) (place : ℕ) (t : Thread) → first tables place ≡ Some t → Head tables place t.0
head tables place t e = by_queue (queue tables place) refl
  where
    who : Option Thread → ℕ
    who (Some x) = x.0
    who None = 0

    by_queue : (q : List ℕ) → queue tables place ≡ q → Head tables place t.0
    by_queue [] k = absurd (let z : Some t ≡ None = sym e ∙ first_nobody tables place k in let w : ◌≡◌ {A = ℕ} 0 1 = cc in omega arith)
    by_queue (s ∷ rest) k =
        let same : s ≡ t.0 = ap who (sym (first_waiter tables place s rest k) ∙ e) in
        record { rest = rest; is = k ∙ ap (λ (x : ℕ). x ∷ rest) same }

pub none : (tables : Tables) (place : ℕ) → first tables place ≡ None → queue tables place ≡ []
none tables place e = by_queue (queue tables place) refl
  where
    by_queue : (q : List ℕ) → queue tables place ≡ q → queue tables place ≡ []
    by_queue [] k = k
    by_queue (s ∷ rest) k = absurd (let z : Some (record { 0 = s }) ≡ None = sym (first_waiter tables place s rest k) ∙ e in let w : ◌≡◌ {A = ℕ} 0 1 = cc in omega arith)

-- what a queue gave, and the tables without it
module _ (size : ℕ) (l l' : List ℕ) (from : ℕ) (answer first' : Option Thread) (d : Dequeued size l from answer l')
    (e : answer ≡ first') where
  pub took_first : first (tables_of size l) from ≡ first'
  took_first = sym d.found ∙ e

  pub took_tables : tables_of size l' ≡ taken first' (tables_of size l)
  took_tables = d.left.is ∙ ap (λ (a : Option Thread). taken a (tables_of size l)) e

-- what becomes of the one that was taken out
module _ (size : ℕ) (l l₁ : List ℕ) (from : ℕ) (answer : Option Thread) (g : Good size l)
    (d : Dequeued size l from answer l₁) where
  -- it is then sent on: that is one move
  pub sent_on : (t : Thread) (p : ℕ) → answer ≡ Some t →
      sent (tables_of size l₁) t.0 p ≡ sent (tables_of size l) t.0 p
  sent_on t p e =
      ap (λ (x : Tables). sent x t.0 p) (took_tables size l l₁ from answer (Some t) d e)
      ∙ sent_again (tables_of size l) t.0 active p (g.line.once t.0 (d.real t e))

  -- the first waiter is sent to the ready tail
  pub woken : (t : Thread) → answer ≡ Some t → sent (tables_of size l₁) t.0 ready ≡ wake_first (tables_of size l) from
  woken t e = sent_on t ready e ∙ ap (λ (a : Option Thread). wake_one a (tables_of size l)) (sym e ∙ d.found)

  -- nobody waits
  pub none_woken : answer ≡ None → tables_of size l₁ ≡ wake_first (tables_of size l) from
  none_woken e =
      took_tables size l l₁ from answer None d e
      ∙ ap (λ (a : Option Thread). wake_one a (tables_of size l)) (sym e ∙ d.found)

  -- it is sent to the ready tail, and the rest stay in the queue
  pub record Went (l' : List ℕ) (t : ℕ) : Type 0 where
    pub rest : List ℕ
    pub was : queue (tables_of size l) from ≡ t ∷ rest
    pub is : queue (tables_of size l') from ≡ rest
    pub next : tables_of size l' ≡ sent (tables_of size l) t ready

  pub went : (l' : List ℕ) (t : Thread) → 3 < from → answer ≡ Some t →
      tables_of size l' ≡ sent (tables_of size l₁) t.0 ready → Went l' t.0
  went l' t high e on =
      let before : Tables = tables_of size l in
      let h = head before from t (took_first size l l₁ from answer (Some t) d e) in
      let below : t.0 < size = d.real t e in
      let next : tables_of size l' ≡ sent before t.0 ready = on ∙ sent_on t ready e in
      record {
        rest = h.rest;
        was = h.is;
        is =
            ap (λ (x : Tables). queue x from) next
            ∙ queue_left before t.0 ready from h.rest (rw (slice_sizes size l g.long).places below) (g.line.once t.0 below) (λ k. omega (arith, k)) h.is;
        next = next;
      }

  -- all are woken one after the other: one is, and the rest are still to be
  pub record Woke (l' : List ℕ) : Type 0 where
    pub same : wake_all (tables_of size l) from ≡ wake_all (tables_of size l') from
    pub fewer : length (queue (tables_of size l') from) < length (queue (tables_of size l) from)

  pub woke : (l' : List ℕ) (t : Thread) → 3 < from → answer ≡ Some t →
      tables_of size l' ≡ sent (tables_of size l₁) t.0 ready → Woke l'
  unfolding all_ready
  woke l' t high e on =
      let w = went l' t high e on in
      record { same = rw (w.was, w.is, w.next); fewer = rw (w.is, w.was) (omega arith) }

  -- nobody is left
  pub all_woken : answer ≡ None → tables_of size l₁ ≡ wake_all (tables_of size l) from
  unfolding all_ready
  all_woken e = let empty = none (tables_of size l) from (took_first size l l₁ from answer None d e) in d.left.is ∙ rw (e, empty)
