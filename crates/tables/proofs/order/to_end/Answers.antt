-- `tables::order::to_end` meets its contract. The walk goes back from the end of the slice. Assumes nothing.
use Prim.Native.Nat.{ℕ, ◌<◌, ◌≤◌}
use mathlib.Core.Path.{◌≡◌, ◌∙◌}
use mathlib.Core.List.{List}
use native.Mathlib.Omega.{arith}
use lib.ListN.{drop, get_or, length, set}
use lib.Seq.{set-get_or, set-set}
use Rattle.machine.specs.Lists.{count}
use Rattle.tables.proofs.Line.{Walking, ahead, walk_start, walking_on, walking_start}
use borrow.Author.Rules.{rules}
use Rattle.tables.proofs.order.to_end.Goals as goal

-- the slice has an entry, ..
some : (l : List ℕ) (from t : ℕ) → from ≤ length l → count t (drop from l) ≡ 1 → from < length l
some l from t low once = ahead l from t (length l) low once (walk_start l t).passed

-- .. and while t is not in hand, one is left
left : {was : List ℕ} {from t : ℕ} {l : List ℕ} {carried i : ℕ} → Walking was from t l carried i → (carried ≡ t → ⊥) →
    from < i
left w away = ahead _ _ _ _ w.low w.once (w.on away).passed

-- the slice before the first store
restored : (l : List ℕ) (k t : ℕ) → set (set l k t) k (get_or l k 0) ≡ l
restored l k t = set-set l k t (get_or l k 0) ∙ set-get_or l k 0

pub overflow_sub-i : goal.overflow_sub-i
overflow_sub-i c = omega (arith, some _ _ _ c.requires.from_in_bounds c.requires.tables_value)

pub bounds-tables-i : goal.bounds-tables-i
bounds-tables-i c = omega (arith, some _ _ _ c.requires.from_in_bounds c.requires.tables_value)

pub bounds-tables-i-2 : goal.bounds-tables-i-2
bounds-tables-i-2 c = omega (arith, some _ _ _ c.requires.from_in_bounds c.requires.tables_value)

pub loop-carried-init : goal.loop-carried-init
loop-carried-init c =
    let below = some _ _ _ c.requires.from_in_bounds c.requires.tables_value in
    rw (restored c.args.tables.now _ c.args.t) (walking_start _ _ _ _ (omega (arith, below)) (omega (arith, below)) c.requires.tables_value)

pub overflow_sub-i-in-loop-carried : goal.overflow_sub-i-in-loop-carried
overflow_sub-i-in-loop-carried c = omega (arith, left c.loop-carried.invariant c.loop-carried-test.true)

pub offset_bounds-tables-i-in-loop-carried : goal.offset_bounds-tables-i-in-loop-carried
offset_bounds-tables-i-in-loop-carried c =
    let same = rw (restored c.args.tables.now _ c.args.t) at c.loop-carried.invariant.long in
    let below = left c.loop-carried.invariant c.loop-carried-test.true in
    let high = c.loop-carried.invariant.high in
    let long = c.loop-carried.invariant.long in
    search (rules, same, below, high, long)

pub bounds-tables-i-in-loop-carried : goal.bounds-tables-i-in-loop-carried
bounds-tables-i-in-loop-carried c = omega (arith, left c.loop-carried.invariant c.loop-carried-test.true, c.loop-carried.invariant.high, c.loop-carried.invariant.long)

pub offset_bounds-tables-i-in-loop-carried-2 : goal.offset_bounds-tables-i-in-loop-carried-2
offset_bounds-tables-i-in-loop-carried-2 c =
    let same = rw (restored c.args.tables.now _ c.args.t) at c.loop-carried.invariant.long in
    let below = left c.loop-carried.invariant c.loop-carried-test.true in
    let high = c.loop-carried.invariant.high in
    let long = c.loop-carried.invariant.long in
    search (rules, same, below, high, long)

pub bounds-tables-i-in-loop-carried-2 : goal.bounds-tables-i-in-loop-carried-2
bounds-tables-i-in-loop-carried-2 c = omega (arith, left c.loop-carried.invariant c.loop-carried-test.true, c.loop-carried.invariant.high, c.loop-carried.invariant.long)

pub loop-carried-smaller : goal.loop-carried-smaller
loop-carried-smaller c = omega (arith, left c.loop-carried.invariant c.loop-carried-test.true)

pub loop-carried-preserved : goal.loop-carried-preserved
loop-carried-preserved c = walking_on _ _ _ _ _ _ _ c.loop-carried.invariant c.loop-carried-test.true (omega (arith, left c.loop-carried.invariant c.loop-carried-test.true))

pub shape_of-tables : goal.shape_of-tables
shape_of-tables c = rw (restored c.args.tables.now _ c.args.t) at c.loop-carried.invariant.long

pub returns : goal.returns
returns c = rw (restored c.args.tables.now _ c.args.t) at (c.loop-carried.invariant.over c.loop-carried-test.false)
