-- What `refuse_if` answers and what is handed on by `?`, as this paper has it. Assumes nothing.
use Rattle.std.proofs.Common.{◌≡◌, ℕ, Bool, true, false, cond, MatchResult, IsErrAnd, Ok, Err, refl}
use Rattle.std.specs.declared.result.Result as code
use Rattle.card.specs.Code.{Fine, Bad, found}
use Rattle.card.specs.Result.{number, refuses, told}
use Rattle.card.specs.declared.refusals.Reason.{Reason}
use Rattle.card.specs.declared.refusals.Refusal.{Refusal}

module _ {A : Type 0} (wrong : Bool) (reason : Reason) (place : ℕ) where
  -- the same refusal as a search's
  pub found_if : (r : code.Result A Refusal) →
      MatchResult r (λ _. wrong ≡ false) (λ e. (wrong ≡ true) × (e ≡ record { reason = reason; place = place })) →
      found r ≡ cond wrong (Bad (number reason) place) Fine
  found_if (Ok x) h = rw h refl
  found_if (Err e) h = rw (h.0, h.1) refl

-- a refusal that `?` hands on
pub handed_on : {A : Type 0} (value : A → ℕ) (r : code.Result A Refusal) (e : Refusal) → IsErrAnd r (λ d. d ≡ e) →
    told value r ≡ refuses (number e.reason) e.place
handed_on value (Ok x) e h = absurd h
handed_on value (Err d) e h = rw h refl
