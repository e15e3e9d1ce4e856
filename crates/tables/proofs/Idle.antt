-- Laws of the front of the line that a search passes over: what it may start behind, and what keeps that so. Assumes nothing.
use Prim.Native.Nat.{ℕ, zero, suc, ◌<◌, ◌≤◌}
use mathlib.Core.Path.{◌≡◌, refl, sym, ap, ◌∙◌}
use mathlib.Core.Bool.{true, false}
use mathlib.Core.List.{List, [], ◌∷◌}
use mathlib.Core.Logic.{◌≢◌}
use native.Mathlib.Omega.{arith}
use lib.Dec.{ltb}
use lib.ListN.{get_or, length}
use borrow.Author.Tests.{lt-ltb, ltb-false, ne_eqb}
use Rattle.machine.proofs.Lists.{clash, less_or_not}
use Rattle.machine.proofs.Queues.{first_at, sent_there}
use Rattle.machine.specs.Lists.{to_end}
use Rattle.machine.specs.Tables.{Tables, active, ended, first, lives, owned, place_of, saved, sent}
use Rattle.machine.specs.declared.numbers.Thread.{Thread}
use Rattle.std.specs.Prelude.{Option, Some, None, MatchOption}
use Rattle.std.specs.Option.{unwrap_or}
use Rattle.tables.specs.Idle.{Behind, Idle, IdleAfter, behind, idle}
use Rattle.tables.proofs.Waking.{head}

-- ---- a search that starts behind some

-- who doesn't live is not at a place of the living
behind_idle : (tables : Tables) (place k : ℕ) (l : List ℕ) → idle tables k l → 1 < place → behind tables place k l
behind_idle tables place zero l h high = tt
behind_idle tables place (suc k) [] h high = tt
behind_idle tables place (suc k) (t ∷ rest) h high =
    (ne_eqb (place_of tables t) place (λ e. omega (arith, ltb-false ended (place_of tables t) h.0)), behind_idle tables place k rest h.1 high)

pub idle_behind : (tables : Tables) (place skip : ℕ) → Idle tables skip → 1 < place → Behind tables place skip
idle_behind tables place skip h high = behind_idle tables place skip tables.line h high

-- ---- more that don't live

-- entry by entry
idle_each : (tables : Tables) (i : ℕ) (l : List ℕ) → ((k : ℕ) → k < i → k < length l → lives tables (get_or l k 0) ≡ false) →
    idle tables i l
idle_each tables zero l h = tt
idle_each tables (suc i) [] h = tt
idle_each tables (suc i) (t ∷ rest) h =
    (h 0 (omega arith) (omega arith), idle_each tables i rest (λ k before below. h (suc k) (omega arith) (omega arith)))

idle_at : (tables : Tables) (i : ℕ) (l : List ℕ) → idle tables i l → (k : ℕ) → k < i → k < length l →
    lives tables (get_or l k 0) ≡ false
idle_at tables zero l h k before below = absurd (omega arith)
idle_at tables (suc i) [] h k before below = absurd (omega arith)
idle_at tables (suc i) (t ∷ rest) h zero before below = h.0
idle_at tables (suc i) (t ∷ rest) h (suc k) before below = idle_at tables i rest h.1 k (omega arith) (omega arith)

-- a search for one that lives passed over others from the first it looked at up to i
pub idle_on : (tables : Tables) (skip i : ℕ) → Idle tables skip →
    ((k : ℕ) → skip ≤ k → k < i → lives tables (get_or tables.line k 0) ≡ false) → Idle tables i
idle_on tables skip i h passed =
    idle_each tables i tables.line
    (λ k before below. less_or_not k skip (λ first. idle_at tables skip tables.line h k first below) (λ later. passed k later before))

pub idle_to : (tables : Tables) (skip size : ℕ) → Idle tables skip → (r : Option ℕ) →
    MatchOption r ((k : ℕ) → skip ≤ k → k < size → lives tables (get_or tables.line k 0) ≡ false)
    (λ i. (skip ≤ i) × (i < size) × (lives tables (get_or tables.line i 0) ≡ true)
    × ((k : ℕ) → skip ≤ k → k < i → lives tables (get_or tables.line k 0) ≡ false)) →
    Idle tables (unwrap_or r size)
idle_to tables skip size h None none = idle_on tables skip size h none
idle_to tables skip size h (Some i) found = idle_on tables skip i h found.3

-- ---- who lives

pub place_lives : (tables : Tables) (t p : ℕ) → place_of tables t ≡ p → 1 < p → lives tables t ≡ true
place_lives tables t p e high = lt-ltb ended (place_of tables t) (omega (arith, e))

-- the running thread does
pub active_lives : (tables : Tables) (t : ℕ) → place_of tables t ≡ active → lives tables t ≡ true
active_lives tables t e = place_lives tables t active e (omega arith)

-- and who is found at a place of the living
pub found_lives : (tables : Tables) (place : ℕ) (t : Thread) → first tables place ≡ Some t → 1 < place →
    lives tables t.0 ≡ true
found_lives tables place t e high =
    let h = head tables place t e in
    place_lives tables t.0 place (first_at tables place t.0 h.rest h.is) high

-- ---- what keeps the front idle

-- a thread that lives is behind it, so its going leaves it as it is
module _ (tables : Tables) (t : ℕ) (live : lives tables t ≡ true) where
  idle_gone : (place k : ℕ) (l : List ℕ) → idle tables k l → idle (sent tables t place) k (to_end t l)
  unfolding to_end
  idle_gone place zero l h = tt
  idle_gone place (suc k) [] h = tt
  idle_gone place (suc k) (x ∷ rest) h =
      let away : x ≢ t = λ e. clash live (ap (lives tables) (sym e) ∙ h.0) in
      rw (ne_eqb x t away) (ap (ltb ended) (sent_there tables t place x away) ∙ h.0, idle_gone place k rest h.1)

  pub idle_sent : (place k : ℕ) → Idle tables k → Idle (sent tables t place) k
  unfolding sent
  idle_sent place k h = idle_gone place k tables.line h

  pub idle_after : (k : ℕ) → Idle tables k → IdleAfter tables t k
  idle_after k h = λ place. idle_sent place k h

-- only places and line count: they stay where registers are saved, or a mutex gets an owner
idle_same : (tables tables' : Tables) (k : ℕ) (l : List ℕ) → tables'.places ≡ tables.places → idle tables k l →
    idle tables' k l
idle_same tables tables' zero l same h = tt
idle_same tables tables' (suc k) [] same h = tt
idle_same tables tables' (suc k) (t ∷ rest) same h = (rw same h.0, idle_same tables tables' k rest same h.1)

pub idle_saved : (tables : Tables) (t pc cells fp k : ℕ) → Idle tables k → Idle (saved tables t pc cells fp) k
unfolding saved
idle_saved tables t pc cells fp k h = idle_same tables (saved tables t pc cells fp) k tables.line refl h

pub idle_owned : (tables : Tables) (m o k : ℕ) → Idle tables k → Idle (owned tables m o) k
unfolding owned
idle_owned tables m o k h = idle_same tables (owned tables m o) k tables.line refl h

-- and where a thread goes, its registers saved
pub idle_left : (tables : Tables) (t pc cells fp place k : ℕ) → IdleAfter tables t k →
    Idle (sent (saved tables t pc cells fp) t place) k
unfolding saved sent
idle_left tables t pc cells fp place k h =
    idle_same (sent tables t place) (sent (saved tables t pc cells fp) t place) k (to_end t tables.line) refl (h place)
