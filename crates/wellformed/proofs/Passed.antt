-- What the tests that passed give to those after them. Assumes nothing.
use Prim.Native.Nat.{ℕ, ◌*◌, ◌≤◌}
use mathlib.Core.Path.{◌≡◌}
use mathlib.Core.Bool.{Bool, true, ◌&&◌}
use mathlib.Core.List.{List}
use borrow.Author.Tests.{eqb-true, leb-true}
use lib.Dec.{eqb, leb}
use lib.IntN.{ℤ}
use lib.ListN.{length}
use Rattle.machine.specs.Lists.{count, every}
use Rattle.machine.specs.Tables.{tables_of}
use Rattle.machine.specs.WellFormed.{all_below, counts_fit, in_range, line_fits, registers_fit, tables_fit}
use Rattle.machine.specs.declared.registers.Registers.{Registers}
use Rattle.machine.proofs.Every.{and_first, and_second, and_true, below_none, every_true}
use Rattle.cells.specs.Contract.{Made}
use Rattle.tables.specs.Good.{Good}

-- the tables and the values have their sizes
pub lined : (size : ℕ) (l : List ℕ) (values : List ℤ) → tables_fit size l values ≡ true → length l ≡ 7 * size
lined size l values sizes = eqb-true (length l) (7 * size) (and_first (eqb (length l) (7 * size)) (eqb (length values) (2 * size)) sizes)

pub valued : (size : ℕ) (l : List ℕ) (values : List ℤ) → tables_fit size l values ≡ true → length values ≡ 2 * size
valued size l values sizes = eqb-true (length values) (2 * size) (and_second (eqb (length l) (7 * size)) (eqb (length values) (2 * size)) sizes)

-- what passed the tests is what the functions on tables ask
pub good : (size : ℕ) (l : List ℕ) (values : List ℤ) → size ≤ 32 → tables_fit size l values ≡ true →
    line_fits size (tables_of size l).line ≡ true → Good size l
good size l values small sizes e =
    let line : List ℕ = (tables_of size l).line in
    let once : ℕ → Bool = λ t. eqb (count t line) 1 in
    let p = and_true (all_below size line) (every size once) e in
    record {
      small = small;
      long = lined size l values sizes;
      line =
          record {
            once = λ t h. eqb-true (count t line) 1 (every_true size once p.1 t h);
            no_other = λ t h. below_none size line p.0 t h;
          };
    }

pub made : (size : ℕ) (r : Registers) → registers_fit size r ≡ true → Made size r
made size r e =
    let m = leb r.mutexes (2 * size) in
    let k = leb r.conditions (2 * size) in
    let j = leb r.semaphores size in
    let p = and_true (in_range 1 size r.threads) (m && (k && j)) (and_first (counts_fit size r) _ e) in
    let q = and_true m (k && j) p.1 in
    let v = and_true k j q.1 in
    record {
      threads = leb-true r.threads size (and_second (leb 1 r.threads) (leb r.threads size) p.0);
      mutexes = leb-true r.mutexes (2 * size) q.0;
      conditions = leb-true r.conditions (2 * size) v.0;
      semaphores = leb-true r.semaphores size v.1;
    }
