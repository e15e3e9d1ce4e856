-- Laws of giving a result to all who wait for it, one after the other. Assumes nothing.
use Prim.Native.Nat.{ℕ, ◌-◌, ◌<◌, ◌≤◌}
use mathlib.Core.Path.{◌≡◌, refl, sym, ap, ◌∙◌}
use mathlib.Core.List.{List, [], ◌∷◌}
use mathlib.Core.Logic.{◌≢◌}
use native.Mathlib.Omega.{arith}
use lib.IntN.{ℤ}
use lib.ListN.{get_or, set}
use Rattle.machine.specs.Size.{stack_at}
use Rattle.machine.specs.State.{delivered, saved_top}
use Rattle.machine.specs.Tables.{Tables, active, place_of, queue, ready, sent, tables_of, wake_all}
use Rattle.std.specs.Prelude.{Option, Some, None}
use Rattle.machine.specs.declared.numbers.Thread.{Thread}
use Rattle.machine.proofs.Queues.{first_at, sent_here, sent_saved, sent_there}
use Rattle.machine.proofs.Slices.{slice_sizes}
use Rattle.tables.specs.Good.{Dequeued, Good}
use Rattle.tables.proofs.Waking.{Went, head, none, took_first, took_tables, went}
use Rattle.endings.specs.Contract.{Receivers}

-- what is left to do, in the midst of it, comes to what there was to do at first
pub record ToGive (size from : ℕ) (v : ℤ) (store₀ : List ℤ) (tables₀ : List ℕ)
    (store : List ℤ) (tables : List ℕ) : Type 0 where
  pub good : Good size tables
  pub receivers : Receivers size from (tables_of size tables)
  pub waking : wake_all (tables_of size tables₀) from ≡ wake_all (tables_of size tables) from
  pub giving : delivered size (tables_of size tables₀) v (queue (tables_of size tables₀) from) store₀
      ≡ delivered size (tables_of size tables) v (queue (tables_of size tables) from) store

-- where the result goes depends on the saved numbers of cells alone
pub same_depths : (size : ℕ) (v : ℤ) (tables tables' : Tables) (l : List ℕ) (store : List ℤ) →
    tables'.depths ≡ tables.depths → delivered size tables' v l store ≡ delivered size tables v l store
unfolding delivered
same_depths size v tables tables' [] store e = refl
same_depths size v tables tables' (t ∷ rest) store e =
    same_depths size v tables tables' rest (set store (saved_top size tables' t) v) e
    ∙ ap (λ (depths : List ℕ). delivered size tables v rest (set store (stack_at size t (get_or depths t 0 - 1)) v)) e

module _ (size : ℕ) (l l₁ : List ℕ) (from : ℕ) (answer : Option Thread) (g : Good size l)
    (d : Dequeued size l from answer l₁) where
  -- nobody is left
  pub all_given : (v : ℤ) (store : List ℤ) → answer ≡ None →
      delivered size (tables_of size l) v (queue (tables_of size l) from) store ≡ store
  unfolding delivered
  all_given v store e = rw (none (tables_of size l) from (took_first size l l₁ from answer None d e))

  module _ (t : Thread) (e : answer ≡ Some t) (receivers : Receivers size from (tables_of size l)) where
    -- who was taken out has the cells that it had, ..
    kept : (tables_of size l₁).depths ≡ (tables_of size l).depths
    kept =
        ap (λ (x : Tables). x.depths) (took_tables size l l₁ from answer (Some t) d e)
        ∙ (sent_saved (tables_of size l) t.0 active).1

    -- .. so there is a top cell
    pub record Room (cells : ℕ) : Type 0 where
      pub some : 1 ≤ cells
      pub most : cells ≤ 128

    pub room : (cells : ℕ) → cells ≡ get_or (tables_of size l₁).depths t.0 0 → Room cells
    room cells is =
        let h = head (tables_of size l) from t (took_first size l l₁ from answer (Some t) d e) in
        let there : place_of (tables_of size l) t.0 ≡ from = first_at (tables_of size l) from t.0 h.rest h.is in
        let same : cells ≡ get_or (tables_of size l).depths t.0 0 = is ∙ rw kept in
        let below : t.0 < size = d.real t e in
        record {
          some = omega (arith, same, receivers.some t.0 below there);
          most = omega (arith, same, receivers.most t.0 below there);
        }

    -- one gets it and goes to the ready tail, and the rest are still to get it
    module _ (l' : List ℕ) (high : 3 < from) (on : tables_of size l' ≡ sent (tables_of size l₁) t.0 ready) where
      moved : Went size l l₁ from answer g d l' t.0
      moved = went size l l₁ from answer g d l' t high e on

      kept_on : (tables_of size l').depths ≡ (tables_of size l).depths
      kept_on = ap (λ (x : Tables). x.depths) moved.next ∙ (sent_saved (tables_of size l) t.0 ready).1

      here : place_of (tables_of size l') t.0 ≡ ready
      here =
          ap (λ (x : Tables). place_of x t.0) moved.next
          ∙ sent_here (tables_of size l) t.0 ready (rw (slice_sizes size l g.long).places (d.real t e))

      -- who is still there was there before
      there : (u : ℕ) → place_of (tables_of size l') u ≡ from → place_of (tables_of size l) u ≡ from
      there u at =
          let other : u ≢ t.0 = λ same. omega (arith, at, here, ap (place_of (tables_of size l')) same) in
          sym (ap (λ (x : Tables). place_of x u) moved.next ∙ sent_there (tables_of size l) t.0 ready u other) ∙ at

      pub still : Receivers size from (tables_of size l')
      still =
          record {
            some = λ u below at. rw kept_on (receivers.some u below (there u at));
            most = λ u below at. rw kept_on (receivers.most u below (there u at));
          }

      pub gave : (v : ℤ) (store : List ℤ) (cells : ℕ) → cells ≡ get_or (tables_of size l₁).depths t.0 0 →
          delivered size (tables_of size l) v (queue (tables_of size l) from) store
          ≡ delivered size (tables_of size l') v (queue (tables_of size l') from)
          (set store (stack_at size t.0 (cells - 1)) v)
      unfolding delivered
      gave v store cells is =
          rw (moved.was, moved.is, is, kept)
          (sym (same_depths size v (tables_of size l) (tables_of size l') moved.rest (set store (saved_top size (tables_of size l) t.0) v) kept_on))
