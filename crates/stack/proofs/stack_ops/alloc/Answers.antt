-- `stack::stack_ops::alloc` meets its contract. The loop keeps what the stores that are left come to. Assumes nothing.
use Prim.Native.Nat.{ℕ, suc, ◌+◌, ◌*◌, ◌-◌, ◌<◌}
use mathlib.Core.Path.{◌≡◌, refl, ◌∙◌}
use mathlib.Core.List.{List}
use native.Mathlib.Omega.{arith}
use lib.IntN.{ℤ, pos}
use lib.ListN.{length-set, replicate, set}
use lib.Seq.{sets}
use Rattle.machine.specs.Size.{stack_at}
use Rattle.machine.proofs.Equations.{alloc_is, carries}
use Rattle.cells.proofs.Tests.{rooms_met}
use Rattle.stack.proofs.stack_ops.alloc.Goals as goal

-- the first of the stores that are left
one_less : (xs : List ℤ) (size t i end : ℕ) → i < end →
    sets (set xs (stack_at size t i) (pos 0)) (stack_at size t (i + 1)) (replicate (end - (i + 1)) (pos 0))
    ≡ sets xs (stack_at size t i) (replicate (end - i) (pos 0))
one_less xs size t i end h =
    let more : end - i ≡ suc (end - (i + 1)) = omega arith in
    let next : 128 * (size + t) + (i + 1) ≡ suc (128 * (size + t) + i) = omega arith in
    rw (more, next)

pub loop-i-init : goal.loop-i-init
loop-i-init c =
    let whole : c.args.r.cells + c.args.k - c.args.r.cells ≡ c.args.k = omega arith in
    (omega arith, omega arith, refl, rw whole)

pub loop-i-preserved : goal.loop-i-preserved
loop-i-preserved c = (
  omega arith,
  omega arith,
  rw (c.poke.ensures, length-set) c.loop-i.invariant.2,
  rw c.poke.ensures
      (one_less c.loop-i.store c.args.size c.args.r.thread c.loop-i.i (c.args.r.cells + c.args.k) c.loop-i-test.true
      ∙ c.loop-i.invariant.3),
)

pub returns : goal.returns
returns c n tables values =
    let none : c.args.r.cells + c.args.k - c.loop-i.i ≡ 0 = omega arith in
    rw (c.with_cells.ensures, c.advance.ensures, rw none at c.loop-i.invariant.3)
    (carries _ n _ _ _ (alloc_is _ n _ _ ∙ rooms_met _ _ _ (omega arith)))
