-- One number of a slice, read and stored, in the tables that the slice holds. Assumes nothing.
use Prim.Native.Nat.{ℕ, ◌+◌, ◌*◌, ◌-◌, ◌<◌, ◌≤◌}
use mathlib.Core.Path.{◌≡◌, sym, ap, ◌∙◌}
use mathlib.Core.List.{List}
use native.Mathlib.Omega.{arith}
use lib.ListN.{length, get_or, set, take, drop}
use lib.Seq.{drop-set-add, drop-set-lt, get_or-drop, get_or-take, take-set-le, take-set-lt}
use Rattle.machine.specs.Tables.{Tables, owned, saved, tables_of}
use Rattle.tables.specs.Good.{Good, Left}

-- a number of a region, b numbers from a on
region_read : (l : List ℕ) (a b j : ℕ) → j < b → get_or (take b (drop a l)) j 0 ≡ get_or l (a + j) 0
region_read l a b j h = get_or-take b (drop a l) j 0 h ∙ get_or-drop a l j 0

-- a store outside a region leaves it
region_before : (l : List ℕ) (a b i v : ℕ) → i < a → take b (drop a (set l i v)) ≡ take b (drop a l)
region_before l a b i v h = ap (take b) (drop-set-lt a l i v h)

region_after : (l : List ℕ) (a b i v : ℕ) → a + b ≤ i → take b (drop a (set l i v)) ≡ take b (drop a l)
region_after l a b i v h =
    let split : a + (i - a) ≡ i = omega arith in
    ap (λ (k : ℕ). take b (drop a (set l k v))) (sym split) ∙ ap (take b) (drop-set-add a l (i - a) v) ∙ take-set-le b (drop a l) (i - a) v (omega arith)

-- a store inside it is the region's own
region_in : (l : List ℕ) (a b j v : ℕ) → j < b → take b (drop a (set l (a + j) v)) ≡ set (take b (drop a l)) j v
region_in l a b j v h = ap (take b) (drop-set-add a l j v) ∙ take-set-lt b (drop a l) j v h

module _ (size : ℕ) (l : List ℕ) where
  pub read_place : (t : ℕ) → t < size → get_or (tables_of size l).places t 0 ≡ get_or l t 0
  unfolding tables_of
  read_place t h = get_or-take size l t 0 h

  pub read_pc : (t : ℕ) → t < size → get_or (tables_of size l).pcs t 0 ≡ get_or l (1 * size + t) 0
  unfolding tables_of
  read_pc t h = let once : 1 * size ≡ size = omega arith in rw once (region_read l size size t h)

  pub read_depth : (t : ℕ) → t < size → get_or (tables_of size l).depths t 0 ≡ get_or l (2 * size + t) 0
  unfolding tables_of
  read_depth t h = region_read l (2 * size) size t h

  pub read_frame : (t : ℕ) → t < size → get_or (tables_of size l).frames t 0 ≡ get_or l (3 * size + t) 0
  unfolding tables_of
  read_frame t h = region_read l (3 * size) size t h

  pub read_owner : (m : ℕ) → m < 2 * size → get_or (tables_of size l).owners m 0 ≡ get_or l (4 * size + m) 0
  unfolding tables_of
  read_owner m h = region_read l (4 * size) (2 * size) m h

  pub store_owner : (m o : ℕ) → m < 2 * size → tables_of size (set l (4 * size + m) o) ≡ owned (tables_of size l) m o
  unfolding tables_of owned
  store_owner m o h =
      λ i.
      record {
        places = region_after l 0 size (4 * size + m) o (omega arith) i;
        pcs = region_after l size size (4 * size + m) o (omega arith) i;
        depths = region_after l (2 * size) size (4 * size + m) o (omega arith) i;
        frames = region_after l (3 * size) size (4 * size + m) o (omega arith) i;
        owners = region_in l (4 * size) (2 * size) m o h i;
        line = drop-set-lt (6 * size) l (4 * size + m) o (omega arith) i;
      }

  pub store_saved : (t pc cells fp : ℕ) → t < size →
      tables_of size (set (set (set l (1 * size + t) pc) (2 * size + t) cells) (3 * size + t) fp) ≡ saved (tables_of size l) t pc cells fp
  unfolding tables_of saved
  store_saved t pc cells fp h =
      let once : 1 * size ≡ size = omega arith in
      rw once
      (
      let one : List ℕ = set l (size + t) pc in
      let two : List ℕ = set one (2 * size + t) cells in
      λ i.
      record {
        places = (region_after two 0 size (3 * size + t) fp (omega arith) ∙ region_after one 0 size (2 * size + t) cells (omega arith) ∙ region_after l 0 size (size + t) pc (omega arith)) i;
        pcs = (region_after two size size (3 * size + t) fp (omega arith) ∙ region_after one size size (2 * size + t) cells (omega arith) ∙ region_in l size size t pc h) i;
        depths =
            (region_after two (2 * size) size (3 * size + t) fp (omega arith)
            ∙ region_in one (2 * size) size t cells h
            ∙ ap (λ (x : List ℕ). set x t cells) (region_before l (2 * size) size (size + t) pc (omega arith))) i;
        frames =
            (region_in two (3 * size) size t fp h
            ∙ ap (λ (x : List ℕ). set x t fp) (region_before one (3 * size) size (2 * size + t) cells (omega arith) ∙ region_before l (3 * size) size (size + t) pc (omega arith))) i;
        owners =
            (region_before two (4 * size) (2 * size) (3 * size + t) fp (omega arith)
            ∙ region_before one (4 * size) (2 * size) (2 * size + t) cells (omega arith)
            ∙ region_before l (4 * size) (2 * size) (size + t) pc (omega arith)) i;
        line =
            (drop-set-lt (6 * size) two (3 * size + t) fp (omega arith)
            ∙ drop-set-lt (6 * size) one (2 * size + t) cells (omega arith)
            ∙ drop-set-lt (6 * size) l (size + t) pc (omega arith)) i;
      })

  -- tables whose line is as it was are in order
  pub still_good : (l' : List ℕ) (tables : Tables) → Good size l → tables_of size l' ≡ tables →
      tables.line ≡ (tables_of size l).line → length l' ≡ length l → Left size l' tables
  still_good l' tables g is same long =
      record {
        is = is;
        good = record { small = g.small; long = long ∙ g.long; line = rw (is, same) g.line };
      }
