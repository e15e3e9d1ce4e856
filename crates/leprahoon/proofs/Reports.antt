-- Laws of the lists in the place of structs and enums. Assumes nothing.
use Prim.Native.Nat.{ℕ}
use mathlib.Core.List.{List, [], ◌∷◌}
use mathlib.Core.Path.{◌≡◌, refl}
use native.Mathlib.Omega.{arith}
use lib.IntN.{ℤ}
use lib.ListN.{length}
use Rattle.outcome.specs.Outcome.{Gives}
use Rattle.outcome.specs.declared.Outcome.{Outcome}
use Rattle.machine.specs.Calls.{Called, told}
use Rattle.lists.specs.Lists.{answer_list, list_of, registers_of}
use Rattle.leprahoon.specs.Lists.{Reports}

-- what a call gives, put into lists
pub reported : {called : Called} {o : Outcome} {store : List ℤ} {tables : List ℕ} {values : List ℤ} {registers report : List ℕ} →
    Gives called o store tables values → registers ≡ list_of o.registers → report ≡ answer_list (told o.answer) o.count →
    Reports called store tables values registers report
reported g e f =
    record {
      in_store = g.in_store;
      in_tables = g.in_tables;
      in_values = g.in_values;
      in_registers = rw (← g.registers) e;
      reported = rw (← g.answered, ← g.counted) f;
    }

-- eleven numbers are the list of the registers that they are: registers that come back as given are the caller's own list
pub back_and_there : (l : List ℕ) → length l ≡ 11 → list_of (registers_of l) ≡ l
back_and_there [] k = absurd (omega (arith, k))
back_and_there (a ∷ []) k = absurd (omega (arith, k))
back_and_there (a ∷ b ∷ []) k = absurd (omega (arith, k))
back_and_there (a ∷ b ∷ c ∷ []) k = absurd (omega (arith, k))
back_and_there (a ∷ b ∷ c ∷ d ∷ []) k = absurd (omega (arith, k))
back_and_there (a ∷ b ∷ c ∷ d ∷ e ∷ []) k = absurd (omega (arith, k))
back_and_there (a ∷ b ∷ c ∷ d ∷ e ∷ f ∷ []) k = absurd (omega (arith, k))
back_and_there (a ∷ b ∷ c ∷ d ∷ e ∷ f ∷ g ∷ []) k = absurd (omega (arith, k))
back_and_there (a ∷ b ∷ c ∷ d ∷ e ∷ f ∷ g ∷ h ∷ []) k = absurd (omega (arith, k))
back_and_there (a ∷ b ∷ c ∷ d ∷ e ∷ f ∷ g ∷ h ∷ i ∷ []) k = absurd (omega (arith, k))
back_and_there (a ∷ b ∷ c ∷ d ∷ e ∷ f ∷ g ∷ h ∷ i ∷ j ∷ []) k = absurd (omega (arith, k))
back_and_there (a ∷ b ∷ c ∷ d ∷ e ∷ f ∷ g ∷ h ∷ i ∷ j ∷ x ∷ []) k = refl
back_and_there (a ∷ b ∷ c ∷ d ∷ e ∷ f ∷ g ∷ h ∷ i ∷ j ∷ x ∷ y ∷ rest) k = absurd (omega (arith, k))
