-- Join and a thread's end deliver results, as one claim about any list of calls. Assumes nothing.
use Prim.Native.Nat.{ℕ, zero, suc, ◌<◌, ◌≤◌}
use mathlib.Core.Path.{◌≡◌, refl, sym, ap, subst, ◌∙◌}
use mathlib.Core.Bool.{true}
use mathlib.Core.List.{List, [], ◌∷◌}
use mathlib.Core.Logic.{◌⊎◌, ◌≢◌, inl, inr, ⊎_elim}
use native.Mathlib.Omega.{arith}
use lib.Dec.{lit≤, ltb}
use lib.IntN.{ℤ, pos}
use lib.ListN.{length, get_or}
use borrow.Author.Tests.{ltb-true}
use Rattle.card.proofs.Header.{accepts}
use Rattle.card.specs.Image.{read_of}
use Rattle.card.specs.Result as result
use Rattle.machine.specs.Book.{Book, Entry, blank, book_of, event_of}
use Rattle.machine.specs.Book as event
use Rattle.machine.specs.Calls.{Box, box_of, card_of, run_call, state_of, step_call}
use Rattle.machine.specs.Delivery.{Awaiting, Delivered, Delivering, Delivery6, DeliveryFor, Ended, Ending, Joined, top_of}
use Rattle.machine.specs.Execution.{Outcome, done, exec, fault}
use Rattle.machine.specs.Instructions.{Instruction, decoded}
use Rattle.machine.specs.Lists.{Each}
use Rattle.machine.specs.Played.{Call, Fitting, call_of, image_of, played, run_on, step_on}
use Rattle.machine.specs.Registers.{is_running}
use Rattle.machine.specs.Size.{full}
use Rattle.machine.specs.State.{State, start, with_regs}
use Rattle.machine.specs.Step.{Ran, carried, entered, onward, run, step}
use Rattle.machine.specs.Tables.{ended, place_of}
use Rattle.machine.specs.declared.registers.Registers.{Registers}
use Rattle.machine.proofs.Apart.{places_same}
use Rattle.machine.proofs.Effects.{Effect, aside, effect, late, stops, waits}
use Rattle.machine.proofs.Held.{Held, card_of_lem, goes_on, held, read_back, refused_call, set_up_lem}
use Rattle.machine.proofs.Lists.{cases, less_or_not, same_or_not}
use Rattle.machine.proofs.Outcomes.{Ends}
use Rattle.machine.proofs.Played.{led_for, one_call}
use Rattle.machine.proofs.Runs.{run_more, run_stopped}
use Rattle.machine.proofs.Slates.{Slate, end_of, how_many, end_counts, last_join, once_only, result_found, same_result_lem, slate_append, slate_of, unwritten}
use Rattle.machine.proofs.Start.{start_right}
use Rattle.machine.proofs.Steady.{Right, Runs}
use Rattle.machine.proofs.Steps.{carried_right, onward_runs, run_right, step_right}
use Rattle.machine.proofs.Targets.{Card}
use Rattle.machine.proofs.Told.{Heard, Told, ends_ending, got, nothing, told_effect, told_kept, waiting}

-- ---- along a run

-- other registers, of the same thread with as many cells
marks : {size : ℕ} {s : State} {slate : Slate} → Told size s slate → (r : Registers) → r.thread ≡ s.regs.thread →
    r.cells ≡ s.regs.cells → Told size (with_regs s r) slate
marks told r thread cells =
    told_kept told _ (record { places = places_same refl; results = λ t h. refl; tops = λ t h far awake. rw (thread, cells) })

module _ (size : ℕ) (words : List ℕ) (card : Card words) where
  outcome_told : (s : State) (book : Book) (slate : Slate) → Runs size (onward s) book → Told size s slate →
      (i : Instruction) (o : Outcome) → Ends (Effect size (onward s) i) o →
      Told size (entered size s (onward s) i o).state (slate_of slate (entered size s (onward s) i o).trace)
  unfolding slate_of
  outcome_told s book slate y told i (done u) e =
      told_effect size (onward s) book y slate (marks told _ refl refl) i u e
  outcome_told s book slate y told i (fault k) e =
      marks told _ refl refl

  carried_told : (s : State) (book : Book) (slate : Slate) → Right size s book → is_running s.regs ≡ true →
      Told size s slate → Told size (carried size words s).state (slate_of slate (carried size words s).trace)
  unfolding carried
  carried_told s book slate r e told =
      cases (ltb s.regs.pc (length words))
      (λ k.
      let y = onward_runs size words card s book r e (ltb-true _ _ k) in
      let i : Instruction = decoded (get_or words s.regs.pc 0) in
      rw k (outcome_told s book slate y told i (exec size (length words) (onward s) i)
      (effect size (length words) (onward s) book y card.most i)))
      (λ k. rw k (unfold slate_of in marks told _ refl refl))

  step_told : (s : State) (book : Book) (slate : Slate) → Right size s book → Told size s slate →
      Told size (step size words s).state (slate_of slate (step size words s).trace)
  unfolding step slate_of
  step_told s book slate r told = cases (is_running s.regs) (λ e. rw e (carried_told s book slate r e told)) (λ e. rw e told)

  run_told : (s : State) (book : Book) (slate : Slate) → Right size s book → Told size s slate → (m : ℕ) →
      Told size (run size words s m).state (slate_of slate (run size words s m).trace)
  run_told s book slate r told zero = unfold run slate_of in told
  run_told s book slate r told (suc m) =
      let Left : Ran → Type 0 = λ ran. Told size ran.state (slate_of slate ran.trace) in
      cases (is_running s.regs)
      (λ e.
      let one : Ran = carried size words s in
      let more : Ran = run size words one.state m in
      subst Left (sym (run_more size words s m e))
      (rw (slate_append slate one.trace more.trace)
      (run_told one.state (book_of book one.trace) (slate_of slate one.trace)
      (carried_right size words card s book r e).right (carried_told s book slate r e told) m)))
      (λ e. subst Left (sym (run_stopped size words s (suc m) e)) (unfold slate_of in told))

-- ---- along calls

-- what a call, and then a list of calls, leaves
call_told : (size : ℕ) (call : Call) (box : Box) (book : Book) (slate : Slate) (cells : ℕ) →
    read_of (image_of call) ≡ result.gives cells → Held size box book → Told size (state_of size box) slate →
    Told size (state_of size (call_of size call box).box) (slate_of slate (call_of size call box).trace)
unfolding step_call run_call
call_told size (step_on image) box book slate cells e h told =
    let card = card_of_lem image cells e in
    let ran : Ran = step size (card_of image) (state_of size box) in
    rw (
      e,
      goes_on size box book ran h,
      read_back size ran.state _
          (step_right size (card_of image) card (state_of size box) book h.right).right,
    )
    (step_told size (card_of image) card (state_of size box) book slate h.right told)
call_told size (run_on image m) box book slate cells e h told =
    let card = card_of_lem image cells e in
    let ran : Ran = run size (card_of image) (state_of size box) m in
    rw (
      e,
      goes_on size box book ran h,
      read_back size ran.state _
          (run_right size (card_of image) card (state_of size box) book h.right m).right,
    )
    (run_told size (card_of image) card (state_of size box) book slate h.right told m)

module _ (size : ℕ) (card : List ℕ) (cells : ℕ) (e : read_of card ≡ result.gives cells) where
  fitting_told : (call : Call) → Fitting card call → (box : Box) (book : Book) (slate : Slate) → Held size box book →
      Told size (state_of size box) slate →
      Told size (state_of size (call_of size call box).box) (slate_of slate (call_of size call box).trace)
  fitting_told call (inl same) box book slate h told = call_told size call box book slate cells (ap read_of same ∙ e) h told
  fitting_told call (inr bad) box book slate h told =
      rw (refused_call size call box bad.0 bad.1 bad.2) (unfold slate_of in told)

  list_told : (calls : List Call) → Each (Fitting card) calls → (box : Box) (book : Book) (slate : Slate) →
      Held size box book → Told size (state_of size box) slate →
      Told size (state_of size (played size calls box).box) (slate_of slate (played size calls box).trace)
  unfolding played Each
  list_told [] all box book slate h told = unfold slate_of in told
  list_told (call ∷ rest) all box book slate h told =
      let one = call_of size call box in
      rw (slate_append slate one.trace (played size rest one.box).trace)
      (list_told rest all.1 one.box (book_of book one.trace) (slate_of slate one.trace)
      (one_call size card cells e call all.0 box book h).box (fitting_told call all.0 box book slate h told))

-- nothing is told at the start, and nobody has ended
start_told : (size : ℕ) → 1 ≤ size → (cells : ℕ) → Right size (start size cells) blank →
    Told size (start size cells) unwritten
start_told size some cells r =
    record {
      outside = λ t h. (refl, refl);
      heard = λ t u h e. nothing refl e;
      ended_with = λ t h e. absurd (nobody t h e);
      living = λ t h e. refl;
    }
  where
    nobody : (t : ℕ) → t < size → place_of (start size cells).tables t ≢ ended
    nobody t h e =
        let tidy = r.steady.both.kempt.tidy in
        let first : (start size cells).regs.thread ≡ 0 = unfold start in refl in
        let one : (start size cells).regs.threads ≡ 1 = unfold start in refl in
        same_or_not t 0
        (λ is. omega (arith, (tidy.runner (λ k. omega (arith, k, first))).1, ap (place_of (start size cells).tables) (first ∙ sym is), e))
        (λ far. omega (arith, (tidy.placed t h).not_made (omega arith), e))

-- ---- the claim

module _ (size : ℕ) (words : List ℕ) (card : Card words) (s : State) (book : Book) (r : Right size s book)
    (trace : List Entry) (told : Told size s (slate_of unwritten trace)) where
  -- a thread that joined is one of the box
  joiner_below : (t u : ℕ) → (slate_of unwritten trace).awaits t ≡ u ∷ [] → t < size
  joiner_below t u e = less_or_not t size (λ h. h) (λ h. nothing (told.outside t h).0 e)

  -- a thread has ended once, or not at all
  few : (u : ℕ) → how_many (slate_of unwritten trace) u ≤ 1
  few u =
      less_or_not u size
      (λ h.
      same_or_not (place_of s.tables u) ended
      (λ at. omega (arith, ap length (told.ended_with u h at)))
      (λ away. omega (arith, ap length (told.living u h away))))
      (λ h. omega (arith, ap length (told.outside u h).1))

  until : (t u i : ℕ) → Joined trace t u i → Awaiting size s trace t u ⊎ Delivered size s trace t u
  until t u i j =
      let last = last_join t u trace unwritten i j in
      let below = joiner_below t u last in
      by_case below (told.heard t u below last)
    where
      by_case : t < size → Heard size s (slate_of unwritten trace) t u → Awaiting size s trace t u ⊎ Delivered size s trace t u
      by_case below (waiting p) =
          let tidy = r.steady.both.kempt.tidy in
          let awaited = (tidy.placed t below).awaited.for_end u p in
          let none = told.living u (omega (arith, awaited.0, tidy.counts.threads_fit)) awaited.1 in
          inl (record { queued = p; not_ended = λ k v d. omega (arith, end_counts trace unwritten u k v d, ap length none) })
      by_case below (got awake is) =
          let found = result_found trace unwritten u (top_of size s t) refl is in
          inr (record { instruction = found.where_at; result = top_of size s t; ended = found.there; on_top = refl })

  on : (t u i : ℕ) → Joined trace t u i → s.regs.thread ≡ t → Delivered size s trace t u
  on t u i j runs =
      let below = joiner_below t u (last_join t u trace unwritten i j) in
      let at = (r.steady.both.kempt.tidy.runner (λ e. omega (arith, e, runs))).1 in
      ⊎_elim (λ a. absurd (omega (arith, a.queued, at, ap (place_of s.tables) runs))) (λ d. d) (until t u i j)

  kept : (u i : ℕ) (v : ℤ) → Ended trace u i v → (place_of s.tables u ≡ ended) × (get_or s.values u (pos 0) ≡ v)
  kept u i v d =
      let some = end_counts trace unwritten u i v d in
      less_or_not u size
      (λ h.
      same_or_not (place_of s.tables u) ended
      (λ at.
      let found = result_found trace unwritten u (get_or s.values u (pos 0)) refl (told.ended_with u h at) in
      (at, same_result_lem trace unwritten u (omega (arith, few u)) found.where_at i _ v found.there d))
      (λ away. absurd (omega (arith, ap length (told.living u h away)))))
      (λ h. absurd (omega (arith, ap length (told.outside u h).1)))

  -- an instruction whose entry is an end
  outcome_ending : Runs size (onward s) book → (i : Instruction) (o : Outcome) → Ends (Effect size (onward s) i) o →
      (u : ℕ) (v : ℤ) → (entered size s (onward s) i o).trace ≡ record { thread = u; event = event.ends v } ∷ [] →
      Ending size s (entered size s (onward s) i o).state u v
  outcome_ending y i (fault k) e u v is = nothing refl is
  outcome_ending y i (done after) e u v is =
      let who : s.regs.thread ≡ u = ap (λ (l : List Entry). (get_or l 0 (record { thread = 0; event = event.other })).thread) is in
      let what : event_of size (onward s) i after ≡ event.ends v =
      ap (λ (l : List Entry). (get_or l 0 (record { thread = 0; event = event.other })).event) is in
      by_effect who what e
    where
      by_effect : s.regs.thread ≡ u → event_of size (onward s) i after ≡ event.ends v → Effect size (onward s) i after →
          Ending size s after u v
      by_effect who what (aside joins none apart) = nothing none (ap end_of what)
      by_effect who what (late w joins below some at leaves) = nothing (ap end_of joins) (ap end_of what)
      by_effect who what (waits w joins leaves) = nothing (ap end_of joins) (ap end_of what)
      by_effect who what (stops x ends leaves) =
          let both : event.ends x ≡ event.ends v = sym ends ∙ what in
          let same : x ≡ v = cc in
          let f = ends_ending size (onward s) book y x in
          rw (leaves, ← who, ← same)
          (record { received = f.received; no_other = f.no_other; as_long = f.as_long; in_order = f.in_order })

  ending : (u : ℕ) (v : ℤ) → (step size words s).trace ≡ record { thread = u; event = event.ends v } ∷ [] →
      Ending size s (step size words s).state u v
  unfolding step carried
  ending u v is =
      cases (is_running s.regs)
      (λ running.
      cases (ltb s.regs.pc (length words))
      (λ k.
      let y = onward_runs size words card s book r running (ltb-true _ _ k) in
      let i : Instruction = decoded (get_or words s.regs.pc 0) in
      rw (running, k)
      (outcome_ending y i (exec size (length words) (onward s) i)
      (effect size (length words) (onward s) book y card.most i) u v (rw (running, k) at is)))
      (λ k. nothing refl (rw (running, k) at is)))
      (λ idle. nothing refl (rw idle at is))

  pub delivering : Delivering size words s trace
  delivering =
      record {
        goes_on = on;
        until = until;
        once = λ u i j v w d g. once_only trace unwritten u (omega (arith, few u)) i j v w d g;
        kept = kept;
        ending = ending;
      }

pub delivery_for : (size : ℕ) → 1 ≤ size → DeliveryFor size
delivery_for size some card cells lent calls e fits store tables values all =
    let led = led_for size some card cells lent calls e fits store tables values all in
    let a = accepts card cells e in
    let least : 1 ≤ cells = rw a.globals at a.sized.cells.some in
    let begins : Right size (start size cells) blank = start_right size some cells least fits in
    let up = set_up_lem size card cells lent some e fits store tables values in
    delivering size (card_of card) (card_of_lem card cells e) _ _ led.box.right _
    (rw up
    (list_told size card cells e calls all (box_of (start size cells)) blank unwritten (held size (start size cells) blank begins)
    (rw (read_back size (start size cells) blank begins) (start_told size some cells begins))))

-- the paper's box
pub delivery6 : Delivery6
delivery6 card cells lent calls e store tables values all =
    let a = accepts card cells e in
    let most : cells ≤ 4096 = rw a.globals at a.sized.cells.most in
    delivery_for full (lit≤ tt) card cells lent calls e most store tables values all
