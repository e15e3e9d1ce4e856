-- The start: setting up leaves a right machine with a blank book. Assumes nothing.
use Prim.Native.Nat.{ℕ, zero, suc, ◌-◌, ◌*◌, ◌<◌, ◌≤◌}
use mathlib.Core.Path.{◌≡◌, refl, ap}
use mathlib.Core.Logic.{◌≢◌}
use native.Mathlib.Omega.{arith}
use lib.Dec.{lit≤}
use lib.IntN.{pos}
use lib.ListN.{get_or, replicate, get_or-replicate, length-replicate, length-set}
use borrow.Author.Tests.{eq-eqb, le-ltb, ne_eqb}
use Rattle.machine.specs.Book.{blank}
use Rattle.machine.specs.Size.{mutex_limit, shared}
use Rattle.machine.specs.State.{start, start_tables}
use Rattle.machine.specs.Tables.{active, at_mutex, at_semaphore, owner_of, place_of, unmade}
use Rattle.machine.proofs.Booked.{Booked}
use Rattle.machine.proofs.Lists.{count_past, count_up_to, length_up_to, less_or_not, same_or_not}
use Rattle.machine.proofs.Moves.{Kempt, awaited_low}
use Rattle.machine.proofs.Queues.{no_queue}
use Rattle.machine.proofs.Steady.{Right, active_right}

zeros : (n k : ℕ) → get_or {A = ℕ} (replicate n 0) k 0 ≡ 0
zeros zero k = refl
zeros (suc n) zero = refl
zeros (suc n) (suc k) = zeros n k

module _ (size : ℕ) (some : 1 ≤ size) where
  elsewhere : (t : ℕ) → t ≢ 0 → place_of (start_tables size) t ≡ unmade
  elsewhere zero h = absurd (h refl)
  elsewhere (suc t) h = zeros (size - 1) t

  -- nobody is at a place past the running one
  low : (t p : ℕ) → active < p → place_of (start_tables size) t ≢ p
  low t p h e =
      same_or_not t 0
      (λ k. let mine : place_of (start_tables size) t ≡ active = ap (place_of (start_tables size)) k in omega (arith, mine, e))
      (λ k. omega (arith, elsewhere t k, e))

  unowned : (m : ℕ) → m < mutex_limit size → owner_of (start_tables size) m ≡ size
  unowned m h = get_or-replicate (2 * size) m size 0 h

  start_kempt : Kempt size 1 0 0 0 0 (start_tables size)
  start_kempt =
      record {
        sizes =
            record {
              places = rw (length-replicate {A = ℕ} (size - 1) 0) (omega arith);
              pcs = length-replicate size 0;
              depths = length-replicate size 0;
              frames = length-replicate size 0;
              owners = length-replicate (2 * size) size;
              line = length_up_to size;
            };
        tidy =
            record {
              counts = record { some_thread = lit≤ tt; threads_fit = some; mutexes_fit = omega arith; conditions_fit = omega arith; semaphores_fit = omega arith };
              line = record { once = count_up_to size; no_other = count_past size };
              placed =
                  λ t h.
                  record {
                    not_made = λ k. elsewhere t (λ e. omega arith);
                    is_made = λ k. let first : t ≡ 0 = omega arith in rw first (lit≤ tt);
                    only_run = λ e. same_or_not t 0 (λ k. k) (λ k. absurd (omega (arith, elsewhere t k, e)));
                    awaited = awaited_low (place_of (start_tables size) t) (less_or_not (place_of (start_tables size) t) 4 (λ k. omega arith) (λ k. absurd (low t _ (omega arith) refl)));
                    kept = λ k. same_or_not t 0 (λ e. absurd (let mine : place_of (start_tables size) t ≡ active = ap (place_of (start_tables size)) e in omega (arith, mine, k))) (λ e. absurd (omega (arith, elsewhere t e, k)));
                    has_cell = λ u e. absurd (low t _ (omega arith) e);
                  };
              runner = λ h. (lit≤ tt, refl);
              holders = λ m hm e. absurd (e (unowned m hm));
              owners_live = λ m hm e. absurd (e (unowned m hm));
            };
      }

  start_booked : Booked size (start_tables size) blank
  start_booked =
      record {
        alive = λ t. same_or_not t 0 (λ e. rw e) (λ e. rw (ne_eqb t 0 e, elsewhere t e));
        counted = λ m h. omega arith;
        ordered = λ m h. rw (unowned m h, eq-eqb size size refl, no_queue (start_tables size) (at_mutex m) (λ t k. low t _ (omega arith)));
      }

  pub start_right : (cells : ℕ) → 1 ≤ cells → cells ≤ shared size → Right size (start size cells) blank
  unfolding start
  start_right cells least most =
      active_right size _ blank
      (record {
        both =
            record {
              kempt = start_kempt;
              booked = start_booked;
              passing = record { left = λ k h. no_queue (start_tables size) (at_semaphore size k) (λ t i. low t _ (omega arith)) };
            };
        frame = record { pc_fits = omega arith; cells_fit = lit≤ tt; fp_least = lit≤ tt; fp_most = lit≤ tt };
        free_least = least;
        free_most = most;
        stored = simp (length-set, length-replicate);
        valued = length-replicate (2 * size) (pos 0);
        counted =
            record {
              made_once = λ k. rw (le-ltb k 0 (omega arith));
              count = λ k h. absurd (omega arith);
              unstarted = λ k h. refl;
              not_upped = λ k h. refl;
              unused = λ k h. refl;
            };
      })
      (record { runs = refl; sound = refl })
      (λ e. omega arith)
