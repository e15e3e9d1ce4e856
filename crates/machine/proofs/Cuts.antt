-- A list of calls can be cut after any number of the instructions that it carries out. Assumes nothing.
use Prim.Native.Nat.{ℕ, ◌+◌, ◌-◌, ◌≤◌}
use mathlib.Core.Path.{◌≡◌, refl, sym, ap, ◌∙◌}
use mathlib.Core.Bool.{false}
use mathlib.Core.List.{List, [], ◌∷◌, append_assoc, append-nil}
use native.Mathlib.Omega.{arith}
use lib.ListN.{length, length-append}
use lib.Seq.{drop-append-add, drop_at, drop-nil, take-append-add, take_at, take-nil}
use Rattle.machine.specs.Calls.{Box, Called, card_of, count_of, run_call, state_of}
use Rattle.machine.specs.Lists.{Each}
use Rattle.machine.specs.Played.{Call, Fitting, call_of, image_of, played, run_on, step_on}
use Rattle.machine.specs.Laws.{then}
use Rattle.machine.specs.Order.{Cut}
use Rattle.machine.specs.Registers.{is_running}
use Rattle.machine.proofs.Laws.{Meets, call_run, goes, meets, refuses, steps_of}
use Rattle.machine.proofs.Lists.{less_or_not}
use Rattle.machine.proofs.RunLaws.{call_counts, counts, run_adds}

-- a run that is cut after some of its instructions carries out exactly these
cut_count : (size : ℕ) (image : List ℕ) (box : Box) (m j : ℕ) → j ≤ count_of (run_call size image m box) →
    count_of (run_call size image j box) ≡ j
cut_count size image box m j h = by_meeting (meets size image box)
  where
    by_meeting : Meets size image box → count_of (run_call size image j box) ≡ j
    by_meeting (refuses number place e) = rw (e j) (omega (arith, ap count_of (e m)))
    by_meeting (goes cells r sound e) =
        let most = (call_counts size image box j).most in
        less_or_not (count_of (run_call size image j box)) j
        (λ less.
        let c = counts size (card_of image) j (state_of size box) in
        let stopped : is_running (run_call size image j box).box.regs ≡ false = rw (e j) (c.fewer (omega (arith, ap count_of (e j)))) in
        let none = ((call_counts size image (run_call size image j box).box (m - j)).stays stopped).1 in
        let whole = (run_adds size image box j (m - j)).1 in
        let sum : j + (m - j) ≡ m = omega (arith, (call_counts size image box m).most) in
        absurd (omega (arith, whole, ap length none, ap (λ (k : ℕ). count_of (run_call size image k box)) sum)))
        (λ more. omega arith)

-- the call's image with another number of steps
fits_too : (card : List ℕ) (call : Call) (j : ℕ) → Fitting card call → Fitting card (run_on (image_of call) j)
fits_too card (step_on image) j f = f
fits_too card (run_on image m) j f = f

pub cut : (size : ℕ) (card : List ℕ) (calls : List Call) → Each (Fitting card) calls → (box : Box) (j : ℕ) →
    j ≤ length (played size calls box).trace → Cut size card calls box j
unfolding played Each
cut size card [] all box j h =
    record { first = []; second = []; first_fits = tt; second_fits = tt; first_trace = sym (take-nil j); second_trace = sym (drop-nil j); same_end = refl }
cut size card (call ∷ rest) all box j h =
    less_or_not (length (call_of size call box).trace) j
    (λ past.
    let d : ℕ = j - length (call_of size call box).trace in
    let sum : length (call_of size call box).trace + d ≡ j = omega arith in
    later d sum (cut size card rest all.1 (call_of size call box).box d (omega (arith, length-append (call_of size call box).trace (played size rest (call_of size call box).box).trace))))
    (λ here. within here)
  where
    later : (d : ℕ) → length (call_of size call box).trace + d ≡ j → Cut size card rest (call_of size call box).box d →
        Cut size card (call ∷ rest) box j
    later d sum c =
        record {
          first = call ∷ c.first;
          second = c.second;
          first_fits = (all.0, c.first_fits);
          second_fits = c.second_fits;
          first_trace = rw (c.first_trace, ← sum) (sym (take-append-add (call_of size call box).trace _ d));
          second_trace = rw (← sum) (c.second_trace ∙ sym (drop-append-add (call_of size call box).trace _ d));
          same_end = c.same_end;
        }

    within : j ≤ length (call_of size call box).trace → Cut size card (call ∷ rest) box j
    within here =
        let image : List ℕ = image_of call in
        let m : ℕ = steps_of call in
        let x : Called = run_call size image j box in
        let y : Called = run_call size image (m - j) x.box in
        let is = call_run size call box in
        let enough : j ≤ count_of (run_call size image m box) = rw is at here in
        let sum : j + (m - j) ≡ m = omega (arith, (call_counts size image box m).most) in
        let both : call_of size call box ≡ then x y = is ∙ ap (λ (k : ℕ). run_call size image k box) (sym sum) ∙ (run_adds size image box j (m - j)).0 in
        let len : length x.trace ≡ j = cut_count size image box m j enough in
        record {
          first = run_on image j ∷ [];
          second = run_on image (m - j) ∷ rest;
          first_fits = (fits_too card call j all.0, tt);
          second_fits = (fits_too card call (m - j) all.0, all.1);
          first_trace = rw (both, append-nil, append_assoc) (sym (take_at x.trace _ j len));
          second_trace = rw (both, append_assoc) (sym (drop_at x.trace _ j len));
          same_end = ap (λ (c : Called). (played size rest c.box).box) (sym both);
        }
