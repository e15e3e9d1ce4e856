-- Laws of the tables: places, owners and queues after a move, an owner, or a save. Only this file opens the moves' definitions.
-- Assumes nothing.
use Prim.Native.Nat.{ℕ, ◌*◌, ◌<◌, ◌≤◌}
use mathlib.Core.Path.{◌≡◌, refl, sym, ap, ◌∙◌}
use mathlib.Core.Bool.{false}
use mathlib.Core.List.{List, [], ◌∷◌, ◌++◌}
use mathlib.Core.Logic.{◌≢◌}
use lib.Dec.{eqb}
use lib.ListN.{length, get_or, length-set}
use lib.Seq.{get_or-set_same, get_or-set_other, set-set}
use borrow.Author.Tests.{eq-eqb, ne_eqb, eqb-true, eqb-false}
use Rattle.machine.specs.Lists.{count}
use Rattle.machine.specs.Tables.{Tables, all_ready, first, first_of, is_at, owned, owner_of, place_of, queue, ready, saved, sent}
use Rattle.std.specs.Prelude.{Some, None}
use Rattle.machine.proofs.Lists.{arrives, count_keep, count_to_end, departs, first_occurs, first_passes, keep_none, keep_same, keep_short, keep_to_end, length_to_end, none_passes, same_or_not, to_end_twice}

-- the tables' lists have the box's sizes
pub record Sizes (size : ℕ) (tables : Tables) : Type 0 where
  pub places : length tables.places ≡ size
  pub pcs : length tables.pcs ≡ size
  pub depths : length tables.depths ≡ size
  pub frames : length tables.frames ≡ size
  pub owners : length tables.owners ≡ 2 * size
  pub line : length tables.line ≡ size

module _ (tables : Tables) (t p : ℕ) where
  pub sent_here : t < length tables.places → place_of (sent tables t p) t ≡ p
  unfolding sent
  sent_here h = get_or-set_same tables.places t p 0 h

  pub sent_there : (s : ℕ) → s ≢ t → place_of (sent tables t p) s ≡ place_of tables s
  unfolding sent
  sent_there s h = get_or-set_other tables.places t s p 0 h

  pub sent_owner : (m : ℕ) → owner_of (sent tables t p) m ≡ owner_of tables m
  unfolding sent
  sent_owner m = refl

  pub sent_count : (s : ℕ) → count s (sent tables t p).line ≡ count s tables.line
  unfolding sent
  sent_count s = count_to_end s t tables.line

  pub sent_saved : ((sent tables t p).pcs ≡ tables.pcs) × ((sent tables t p).depths ≡ tables.depths)
      × ((sent tables t p).frames ≡ tables.frames)
  unfolding sent
  sent_saved = (refl, refl, refl)

  pub sent_sizes : (size : ℕ) → Sizes size tables → Sizes size (sent tables t p)
  unfolding sent
  sent_sizes size s =
      record {
        places = length-set tables.places t p ∙ s.places;
        pcs = s.pcs;
        depths = s.depths;
        frames = s.frames;
        owners = s.owners;
        line = length_to_end t tables.line ∙ s.line;
      }

  -- the tests before and after agree on every other thread
  agree : (q s : ℕ) → s ≢ t → is_at (sent tables t p) q s ≡ is_at tables q s
  agree q s h = ap (λ (k : ℕ). eqb k q) (sent_there s h)

  -- the queue that a thread joins has it last
  pub queue_joined : t < length tables.places → count t tables.line ≡ 1 → place_of tables t ≢ p →
      queue (sent tables t p) p ≡ queue tables p ++ t ∷ []
  unfolding queue sent
  queue_joined h once away =
      arrives (is_at (sent tables t p) p) (is_at tables p) t (agree p) tables.line
      (eq-eqb _ _ (sent_here h)) (ne_eqb _ _ away) once

  -- a queue that a thread neither leaves nor joins stays
  pub queue_kept : (q : ℕ) → t < length tables.places → q ≢ p → place_of tables t ≢ q →
      queue (sent tables t p) q ≡ queue tables q
  unfolding queue sent
  queue_kept q h other away =
      keep_to_end (is_at (sent tables t p) q) t tables.line (ne_eqb _ _ (λ e. other (sym e ∙ sent_here h)))
      ∙ keep_same (is_at (sent tables t p) q) (is_at tables q) tables.line
      (λ s below.
      same_or_not s t
      (λ e. rw e (ne_eqb _ _ (λ k. other (sym k ∙ sent_here h)) ∙ sym (ne_eqb _ _ away)))
      (agree q s))

  -- the queue whose first thread leaves is the rest
  pub queue_left : (q : ℕ) (rest : List ℕ) → t < length tables.places → count t tables.line ≡ 1 → q ≢ p →
      queue tables q ≡ t ∷ rest → queue (sent tables t p) q ≡ rest
  unfolding queue sent
  queue_left q rest h once other e =
      let away : is_at (sent tables t p) q t ≡ false = ne_eqb _ _ (λ k. other (sym k ∙ sent_here h)) in
      keep_to_end (is_at (sent tables t p) q) t tables.line away
      ∙ departs (is_at (sent tables t p) q) (is_at tables q) t (agree q) tables.line rest away
      (first_passes (is_at tables q) tables.line t rest e) once e

module _ (tables : Tables) (m o : ℕ) where
  pub owned_here : m < length tables.owners → owner_of (owned tables m o) m ≡ o
  unfolding owned
  owned_here h = get_or-set_same tables.owners m o 0 h

  pub owned_there : (k : ℕ) → k ≢ m → owner_of (owned tables m o) k ≡ owner_of tables k
  unfolding owned
  owned_there k h = get_or-set_other tables.owners m k o 0 h

  -- everything else stays
  pub owned_places : (owned tables m o).places ≡ tables.places
  unfolding owned
  owned_places = refl

  pub owned_line : (owned tables m o).line ≡ tables.line
  unfolding owned
  owned_line = refl

  pub owned_saved : ((owned tables m o).pcs ≡ tables.pcs) × ((owned tables m o).depths ≡ tables.depths)
      × ((owned tables m o).frames ≡ tables.frames)
  unfolding owned
  owned_saved = (refl, refl, refl)

  pub owned_queue : (q : ℕ) → queue (owned tables m o) q ≡ queue tables q
  unfolding owned queue
  owned_queue q = refl

  pub owned_sizes : (size : ℕ) → Sizes size tables → Sizes size (owned tables m o)
  unfolding owned
  owned_sizes size s =
      record {
        places = s.places;
        pcs = s.pcs;
        depths = s.depths;
        frames = s.frames;
        owners = length-set tables.owners m o ∙ s.owners;
        line = s.line;
      }

module _ (tables : Tables) (t pc cells fp : ℕ) where
  pub saved_places : (saved tables t pc cells fp).places ≡ tables.places
  unfolding saved
  saved_places = refl

  pub saved_owners : (saved tables t pc cells fp).owners ≡ tables.owners
  unfolding saved
  saved_owners = refl

  pub saved_line : (saved tables t pc cells fp).line ≡ tables.line
  unfolding saved
  saved_line = refl

  pub saved_queue : (q : ℕ) → queue (saved tables t pc cells fp) q ≡ queue tables q
  unfolding saved queue
  saved_queue q = refl

  pub saved_sizes : (size : ℕ) → Sizes size tables → Sizes size (saved tables t pc cells fp)
  unfolding saved
  saved_sizes size s =
      record {
        places = s.places;
        pcs = length-set tables.pcs t pc ∙ s.pcs;
        depths = length-set tables.depths t cells ∙ s.depths;
        frames = length-set tables.frames t fp ∙ s.frames;
        owners = s.owners;
        line = s.line;
      }

  pub saved_pc : t < length tables.pcs → get_or (saved tables t pc cells fp).pcs t 0 ≡ pc
  unfolding saved
  saved_pc h = get_or-set_same tables.pcs t pc 0 h

  pub saved_depth : t < length tables.depths → get_or (saved tables t pc cells fp).depths t 0 ≡ cells
  unfolding saved
  saved_depth h = get_or-set_same tables.depths t cells 0 h

  pub saved_frame : t < length tables.frames → get_or (saved tables t pc cells fp).frames t 0 ≡ fp
  unfolding saved
  saved_frame h = get_or-set_same tables.frames t fp 0 h

  pub saved_other : (s : ℕ) → s ≢ t →
      (get_or (saved tables t pc cells fp).pcs s 0 ≡ get_or tables.pcs s 0)
      × (get_or (saved tables t pc cells fp).depths s 0 ≡ get_or tables.depths s 0)
      × (get_or (saved tables t pc cells fp).frames s 0 ≡ get_or tables.frames s 0)
  unfolding saved
  saved_other s h =
      (get_or-set_other tables.pcs t s pc 0 h, get_or-set_other tables.depths t s cells 0 h, get_or-set_other tables.frames t s fp 0 h)

-- ---- the first of a queue

-- a queue's first thread is at its place, and in the line
pub first_at : (tables : Tables) (q t : ℕ) (rest : List ℕ) → queue tables q ≡ t ∷ rest → place_of tables t ≡ q
unfolding queue
first_at tables q t rest e = eqb-true _ _ (first_passes (is_at tables q) tables.line t rest e)

pub first_in_line : (tables : Tables) (q t : ℕ) (rest : List ℕ) → queue tables q ≡ t ∷ rest → 0 < count t tables.line
unfolding queue
first_in_line tables q t rest e = first_occurs (is_at tables q) tables.line t rest e

-- nobody of the line is at the place of an empty queue
pub empty_queue : (tables : Tables) (q : ℕ) → queue tables q ≡ [] → (t : ℕ) → 0 < count t tables.line →
    place_of tables t ≢ q
unfolding queue
empty_queue tables q e t below at = eqb-false _ _ (none_passes (is_at tables q) tables.line e t below) at

-- how often a thread occurs in a queue
pub count_queue : (tables : Tables) (q t : ℕ) → place_of tables t ≢ q → count t (queue tables q) ≡ 0
unfolding queue
count_queue tables q t away = count_keep t (is_at tables q) tables.line ∙ rw (ne_eqb _ _ away)

pub count_queued : (tables : Tables) (q t : ℕ) → place_of tables t ≡ q →
    count t (queue tables q) ≡ count t tables.line
unfolding queue
count_queued tables q t at = count_keep t (is_at tables q) tables.line ∙ rw (eq-eqb _ _ at)

-- what the queue gives, by its list
pub first_nobody : (tables : Tables) (q : ℕ) → queue tables q ≡ [] → first tables q ≡ None
unfolding first
first_nobody tables q e = ap first_of e

pub first_waiter : (tables : Tables) (q t : ℕ) (rest : List ℕ) → queue tables q ≡ t ∷ rest →
    first tables q ≡ Some (record { 0 = t })
unfolding first
first_waiter tables q t rest e = ap first_of e

-- a place where nobody is has an empty queue
pub no_queue : (tables : Tables) (q : ℕ) → ((t : ℕ) → 0 < count t tables.line → place_of tables t ≢ q) →
    queue tables q ≡ []
unfolding queue
no_queue tables q h = keep_none (is_at tables q) tables.line (λ t below. ne_eqb _ _ (h t below))

-- waking threads changes no owner
pub woken_owner : (l : List ℕ) (tables : Tables) (m : ℕ) → owner_of (all_ready l tables) m ≡ owner_of tables m
unfolding all_ready
woken_owner [] tables m = refl
woken_owner (t ∷ rest) tables m = woken_owner rest (sent tables t ready) m ∙ sent_owner tables t ready m

-- a queue is no longer than the line
pub queue_short : (tables : Tables) (q : ℕ) → length (queue tables q) ≤ length tables.line
unfolding queue
queue_short tables q = keep_short (is_at tables q) tables.line

-- of two moves of a thread the second counts
pub sent_again : (tables : Tables) (t p q : ℕ) → count t tables.line ≡ 1 →
    sent (sent tables t p) t q ≡ sent tables t q
unfolding sent
sent_again tables t p q once = rw (set-set tables.places t p q, to_end_twice t tables.line once)

-- sending a thread and giving a mutex commute
pub owned_sent : (tables : Tables) (t p m o : ℕ) → owned (sent tables t p) m o ≡ sent (owned tables m o) t p
unfolding owned sent
owned_sent tables t p m o = refl
