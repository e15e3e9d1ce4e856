-- Attempts, by what the definitions say of the instruction. Assumes nothing.
use Prim.Native.Nat.{ℕ, ◌^◌, ◌<◌}
use mathlib.Core.Path.{◌≡◌, refl, sym, ◌∙◌}
use mathlib.Core.List.{List}
use native.Mathlib.Omega.{arith}
use lib.IntN.{ℤ}
use lib.Signed.{mag}
use mir.Syntax.{w32}
use mir.Val.{of_z, to_z}
use Rattle.std.specs.Prelude.{Result, Ok, Err}
use Rattle.machine.specs.Context.{in_context}
use Rattle.machine.specs.Execution.{done, exec, fault, pushed, rooms}
use Rattle.machine.specs.Faults.{number_of}
use Rattle.machine.specs.Instructions.{Instruction, loadc}
use Rattle.machine.specs.Registers.{stopped}
use Rattle.machine.specs.Tables.{Tables}
use Rattle.machine.specs.declared.context.Context.{Context}
use Rattle.machine.specs.declared.faults.Fault.{Fault}
use Rattle.machine.specs.declared.registers.Registers.{Registers}
use Rattle.machine.proofs.Equations.{carries, faults, loadc_is}
use Rattle.cells.proofs.Tests.{read_back}
use Rattle.cells.specs.Attempts.{Fit, TriesIn, past_of}
use Rattle.cells.specs.Contract.{Able, DoesIn, at}

module _ {size n : ℕ} {i : Instruction} {store : List ℤ} {t : ℕ} {c : Context} where
  -- the instruction is carried out, ..
  pub carried_out : {store' : List ℤ} {c' : Context} →
      ((tables : Tables) (values : List ℤ) (r : Registers) → exec size n (at store tables values (in_context r t c)) i ≡ done (at store' tables values (in_context r t c'))) →
      TriesIn size n i store t c store' (Ok c')
  carried_out h = record { is = h; kept = tt }

  -- .. or it is a fault
  pub refused : {k : Fault} →
      ((tables : Tables) (values : List ℤ) (r : Registers) → exec size n (at store tables values (in_context r t c)) i ≡ fault (number_of k)) →
      TriesIn size n i store t c store (Err k)
  refused h = record { is = h; kept = refl }

  -- an instruction that pushes v does what `loadc` of v does, where v was read as x
  pub pushes : {x v : ℤ} {store' : List ℤ} {tried : Result Context Fault} → mag x < 2 ^ 31 → x ≡ v →
      TriesIn size n (loadc (to_z w32 (of_z w32 x))) store t c store' tried →
      ((tables : Tables) (values : List ℤ) (r : Registers) →
      exec size n (at store tables values (in_context r t c)) i ≡ rooms 1 c.cells (done (pushed size n (at store tables values (in_context r t c)) v))) →
      TriesIn size n i store t c store' tried
  pushes f e h o =
      let tried = rw (read_back f e) at h in
      record { is = λ tables values r. o tables values r ∙ sym (loadc_is size n _ _) ∙ tried.is tables values r; kept = tried.kept }

module _ {size n : ℕ} {i : Instruction} (r : Registers) {store : List ℤ} {c : Context} {store' : List ℤ}
    (past : c ≡ past_of r) where
  -- an attempt in the context past the instruction does what the definitions say of a step, carried out ..
  pub settles : {c' : Context} → TriesIn size n i store r.thread c store' (Ok c') →
      DoesIn size n i store r store' (in_context r r.thread c')
  settles h tables values =
      let h' = rw past at (h.is tables values r) in
      carries size n (at store tables values r) i _ h'

  -- .. or not
  pub settles_fault : {f : Fault} → TriesIn size n i store r.thread c store' (Err f) →
      DoesIn size n i store r store' (stopped r (number_of f))
  settles_fault {f} h tables values =
      let h' = rw past at (h.is tables values r) in
      rw h.kept (faults size n (at store tables values r) i (number_of f) h')

-- what an instruction can be carried out with, in the context past it
pub fit : {size long : ℕ} {r : Registers} → Able size r long → Fit size r.thread (past_of r) long
fit h =
    record {
      small = h.small;
      fits = h.fits;
      thread = h.thread;
      pc = omega (arith, h.pc);
      cells = h.cells;
      fp_least = h.fp_least;
      fp_most = h.fp_most;
    }
