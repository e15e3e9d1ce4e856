-- The tables in a slice and the slice of tables undo each other. Assumes nothing.
use Prim.Native.Nat.{ℕ, ◌+◌, ◌*◌}
use mathlib.Core.Path.{◌≡◌, sym, ap, ◌∙◌}
use mathlib.Core.List.{List, ◌++◌, append_assoc}
use native.Mathlib.Omega.{arith}
use lib.ListN.{length, take, drop, length-append, length-drop, length-take, take-append-drop}
use lib.Seq.{drop_at, drop-drop, take-add, take_at}
use Rattle.machine.specs.Tables.{Tables, slice_of, tables_of}
use Rattle.machine.proofs.Queues.{Sizes}

-- so many numbers, and as many after them
more : (a b c : ℕ) (l : List ℕ) → a + b ≡ c → take a l ++ take b (drop a l) ≡ take c l
more a b c l e = sym (take-add a b l) ∙ ap (λ (k : ℕ). take k l) e

-- for every slice, whatever its length
pub slice_tables : (size : ℕ) (l : List ℕ) → slice_of (tables_of size l) ≡ l
unfolding slice_of tables_of
slice_tables size l =
    rw (
      more size size (2 * size) l (omega arith),
      more (2 * size) size (3 * size) l (omega arith),
      more (3 * size) size (4 * size) l (omega arith),
      more (4 * size) (2 * size) (6 * size) l (omega arith),
    )
    (take-append-drop (6 * size) l)

-- a slice of the right length has tables of the right sizes
pub slice_sizes : (size : ℕ) (l : List ℕ) → length l ≡ 7 * size → Sizes size (tables_of size l)
unfolding tables_of
slice_sizes size l h =
    record {
      places = simp length-take (omega arith);
      pcs = simp (length-take, length-drop) (omega arith);
      depths = simp (length-take, length-drop) (omega arith);
      frames = simp (length-take, length-drop) (omega arith);
      owners = simp (length-take, length-drop) (omega arith);
      line = simp length-drop (omega arith);
    }

pub length_slice : (size : ℕ) (t : Tables) → Sizes size t → length (slice_of t) ≡ 7 * size
unfolding slice_of
length_slice size t s = simp length-append (omega (arith, s.places, s.pcs, s.depths, s.frames, s.owners, s.line))

-- what follows a list's first part
after : (l x y : List ℕ) (a b c : ℕ) → drop a l ≡ x ++ y → length x ≡ b → a + b ≡ c → drop c l ≡ y
after l x y a b c h len sum = ap (λ (k : ℕ). drop k l) (sym sum) ∙ sym (drop-drop b a l) ∙ ap (drop b) h ∙ drop_at x y b len

-- and tables of the right sizes come back from their slice
pub tables_slice : (size : ℕ) (t : Tables) → Sizes size t → tables_of size (slice_of t) ≡ t
unfolding tables_of slice_of
tables_slice size t s =
    let l : List ℕ = slice_of t in
    let r0 : l ≡ t.places ++ (t.pcs ++ (t.depths ++ (t.frames ++ (t.owners ++ t.line)))) = simp append_assoc in
    let r1 : drop size l ≡ t.pcs ++ (t.depths ++ (t.frames ++ (t.owners ++ t.line))) = after l t.places _ 0 size size r0 s.places (omega arith) in
    let r2 : drop (2 * size) l ≡ t.depths ++ (t.frames ++ (t.owners ++ t.line)) = after l t.pcs _ size size (2 * size) r1 s.pcs (omega arith) in
    let r3 : drop (3 * size) l ≡ t.frames ++ (t.owners ++ t.line) = after l t.depths _ (2 * size) size (3 * size) r2 s.depths (omega arith) in
    let r4 : drop (4 * size) l ≡ t.owners ++ t.line = after l t.frames _ (3 * size) size (4 * size) r3 s.frames (omega arith) in
    let r5 : drop (6 * size) l ≡ t.line = after l t.owners _ (4 * size) (2 * size) (6 * size) r4 s.owners (omega arith) in
    λ i.
    record {
      places = (ap (take size) r0 ∙ take_at t.places _ size s.places) i;
      pcs = (ap (take size) r1 ∙ take_at t.pcs _ size s.pcs) i;
      depths = (ap (take size) r2 ∙ take_at t.depths _ size s.depths) i;
      frames = (ap (take size) r3 ∙ take_at t.frames _ size s.frames) i;
      owners = (ap (take (2 * size)) r4 ∙ take_at t.owners _ (2 * size) s.owners) i;
      line = r5 i;
    }
