-- What a trace tells of joins and ends: whom each thread joined last, and what it ended with. Assumes nothing.
use Prim.Native.Nat.{ℕ, zero, suc, ◌+◌, ◌<◌, ◌≤◌}
use mathlib.Core.Path.{◌≡◌, refl, sym, ap, ◌∙◌}
use mathlib.Core.Bool.{cond}
use mathlib.Core.List.{List, [], ◌∷◌, ◌++◌, append_assoc, append-nil}
use mathlib.Core.Logic.{◌≢◌}
use native.Mathlib.Omega.{arith}
use lib.Dec.{eqb}
use lib.IntN.{ℤ}
use lib.ListN.{length, length-append}
use borrow.Author.Tests.{eq-eqb, ne_eqb}
use Rattle.machine.specs.Book.{Entry, Event}
use Rattle.machine.specs.Book as event
use Rattle.machine.specs.Delivery.{Ended, Joined}
use Rattle.machine.specs.Order.{entry_at}
use Rattle.machine.proofs.Lists.{less_or_not, same_or_not}

-- the thread that an event joins, and the result that it ends with: one or none
abbrev pub join_of : Event → List ℕ
join_of (event.joins u) = u ∷ []
join_of (event.ends v) = []
join_of (event.locks m) = []
join_of (event.unlocks m) = []
join_of (event.creates v) = []
join_of (event.opens n v) = []
join_of (event.ups k) = []
join_of (event.downs k) = []
join_of event.other = []

abbrev pub end_of : Event → List ℤ
end_of (event.ends v) = v ∷ []
end_of (event.joins u) = []
end_of (event.locks m) = []
end_of (event.unlocks m) = []
end_of (event.creates v) = []
end_of (event.opens n v) = []
end_of (event.ups k) = []
end_of (event.downs k) = []
end_of event.other = []

-- of each thread, whom it joined if that was the last that it executed, and what it ended with
pub record Slate : Type 0 where
  pub awaits : ℕ → List ℕ
  pub results : ℕ → List ℤ

abbrev pub unwritten : Slate
unwritten = record { awaits = λ t. []; results = λ t. [] }

abbrev pub noted : Slate → Entry → Slate
noted slate e =
    record {
      awaits = λ t. cond (eqb t e.thread) (join_of e.event) (slate.awaits t);
      results = λ t. cond (eqb t e.thread) (slate.results t ++ end_of e.event) (slate.results t);
    }

unfoldable pub slate_of : Slate → List Entry → Slate
slate_of slate [] = slate
slate_of slate (e ∷ rest) = slate_of (noted slate e) rest

pub slate_append : (slate : Slate) (a b : List Entry) → slate_of slate (a ++ b) ≡ slate_of (slate_of slate a) b
unfolding slate_of
slate_append slate [] b = refl
slate_append slate (e ∷ a) b = slate_append (noted slate e) a b

-- ---- joins

-- what others execute changes nothing of a thread's last join
others_join : (t : ℕ) (trace : List Entry) (slate : Slate) →
    ((j : ℕ) → j < length trace → (entry_at trace j).thread ≢ t) →
    (slate_of slate trace).awaits t ≡ slate.awaits t
unfolding slate_of
others_join t [] slate none = refl
others_join t (e ∷ rest) slate none =
    others_join t rest (noted slate e) (λ j h. none (suc j) (omega arith))
    ∙ rw (ne_eqb t e.thread (λ same. none 0 (omega arith) (sym same)))

-- the last join is what the slate has
pub last_join : (t u : ℕ) (trace : List Entry) (slate : Slate) (i : ℕ) → Joined trace t u i →
    (slate_of slate trace).awaits t ≡ u ∷ []
unfolding slate_of
last_join t u [] slate i j = absurd (omega (arith, j.carried))
last_join t u (e ∷ rest) slate zero j =
    let is : e ≡ record { thread = t; event = event.joins u } = j.join in
    others_join t rest (noted slate e) (λ k h. j.nothing_since (suc k) (omega arith) (omega arith))
    ∙ rw (is, eq-eqb t t refl)
last_join t u (e ∷ rest) slate (suc i) j =
    last_join t u rest (noted slate e) i
    (record {
      carried = omega (arith, j.carried);
      join = j.join;
      nothing_since = λ k h g. j.nothing_since (suc k) (omega arith) (omega arith);
    })

-- ---- ends

-- how many results a thread has
abbrev pub how_many : Slate → ℕ → ℕ
how_many slate u = length (slate.results u)

one_more : (slate : Slate) (e : Entry) (u : ℕ) → how_many slate u ≤ how_many (noted slate e) u
one_more slate e u =
    same_or_not u e.thread
    (λ is. rw (eq-eqb u e.thread is) (omega (arith, length-append (slate.results u) (end_of e.event))))
    (λ other. rw (ne_eqb u e.thread other) (omega arith))

grows : (trace : List Entry) (slate : Slate) (u : ℕ) → how_many slate u ≤ how_many (slate_of slate trace) u
unfolding slate_of
grows [] slate u = omega arith
grows (e ∷ rest) slate u = omega (arith, grows rest (noted slate e) u, one_more slate e u)

-- the entry of an end
ends_here : (slate : Slate) (e : Entry) (u : ℕ) (v : ℤ) → e ≡ record { thread = u; event = event.ends v } →
    (noted slate e).results u ≡ slate.results u ++ v ∷ []
ends_here slate e u v is = rw (is, eq-eqb u u refl)

later : (e : Entry) (rest : List Entry) (u i : ℕ) (v : ℤ) → Ended (e ∷ rest) u (suc i) v → Ended rest u i v
later e rest u i v d = record { carried = omega (arith, d.carried); end = d.end }

-- an end gives a result, ..
pub end_counts : (trace : List Entry) (slate : Slate) (u i : ℕ) (v : ℤ) → Ended trace u i v →
    how_many slate u < how_many (slate_of slate trace) u
unfolding slate_of
end_counts [] slate u i v d = absurd (omega (arith, d.carried))
end_counts (e ∷ rest) slate u zero v d =
    omega (arith, grows rest (noted slate e) u, ap length (ends_here slate e u v d.end), length-append (slate.results u) (v ∷ []))
end_counts (e ∷ rest) slate u (suc i) v d =
    omega (arith, end_counts rest (noted slate e) u i v (later e rest u i v d), one_more slate e u)

-- .. and two ends two
pub ends_count : (trace : List Entry) (slate : Slate) (u i j : ℕ) (v w : ℤ) → i < j → Ended trace u i v →
    Ended trace u j w → how_many slate u + 2 ≤ how_many (slate_of slate trace) u
unfolding slate_of
ends_count [] slate u i j v w h d g = absurd (omega (arith, d.carried))
ends_count (e ∷ rest) slate u i zero v w h d g = absurd (omega arith)
ends_count (e ∷ rest) slate u zero (suc j) v w h d g =
    omega (
      arith,
      end_counts rest (noted slate e) u j w (later e rest u j w g),
      ap length
          (ends_here slate e u v d.end),
      length-append (slate.results u) (v ∷ []),
    )
ends_count (e ∷ rest) slate u (suc i) (suc j) v w h d g =
    omega (arith, ends_count rest (noted slate e) u i j v w (omega arith) (later e rest u i v d) (later e rest u j w g), one_more slate e u)

-- what a slate has of results stays in front
record Extends (slate after : Slate) (u : ℕ) : Type 0 where
  more : List ℤ
  is : after.results u ≡ slate.results u ++ more

noted_extends : (slate : Slate) (e : Entry) (u : ℕ) → Extends slate (noted slate e) u
noted_extends slate e u =
    same_or_not u e.thread
    (λ is. record { more = end_of e.event; is = rw (eq-eqb u e.thread is) })
    (λ other. record { more = []; is = rw (ne_eqb u e.thread other) (sym (append-nil (slate.results u))) })

extends : (trace : List Entry) (slate : Slate) (u : ℕ) → Extends slate (slate_of slate trace) u
unfolding slate_of
extends [] slate u = record { more = []; is = sym (append-nil (slate.results u)) }
extends (e ∷ rest) slate u =
    let one = noted_extends slate e u in
    let all = extends rest (noted slate e) u in
    record {
      more = one.more ++ all.more;
      is = all.is ∙ ap (λ (l : List ℤ). l ++ all.more) one.is ∙ append_assoc (slate.results u) one.more all.more;
    }

-- a thread ended somewhere in a trace
pub record Found (trace : List Entry) (u : ℕ) (v : ℤ) : Type 0 where
  pub where_at : ℕ
  pub there : Ended trace u where_at v

found_later : (e : Entry) (rest : List Entry) (u : ℕ) (v : ℤ) → Found rest u v → Found (e ∷ rest) u v
found_later e rest u v found =
    record { where_at = suc found.where_at; there = record { carried = omega (arith, found.there.carried); end = found.there.end } }

-- the result that the slate has is one that the thread ended with
pub result_found : (trace : List Entry) (slate : Slate) (u : ℕ) (v : ℤ) → slate.results u ≡ [] →
    (slate_of slate trace).results u ≡ v ∷ [] → Found trace u v
unfolding slate_of
result_found [] slate u v none is = absurd (omega (arith, ap length (sym none ∙ is)))
result_found (e ∷ rest) slate u v none is =
    let further : (noted slate e).results u ≡ [] → Found (e ∷ rest) u v =
    λ still. found_later e rest u v (result_found rest (noted slate e) u v still is) in
    same_or_not u e.thread
    (λ mine. by_event further e.event refl mine)
    (λ other. further (rw (ne_eqb u e.thread other) none))
  where
    silent : ((noted slate e).results u ≡ [] → Found (e ∷ rest) u v) → (happens : Event) → e.event ≡ happens →
        u ≡ e.thread → end_of happens ≡ [] → Found (e ∷ rest) u v
    silent further happens what mine quiet = further (rw (eq-eqb u e.thread mine, none, what) quiet)

    by_event : ((noted slate e).results u ≡ [] → Found (e ∷ rest) u v) → (happens : Event) → e.event ≡ happens →
        u ≡ e.thread → Found (e ∷ rest) u v
    by_event further (event.ends w) what mine =
        let here : e ≡ record { thread = u; event = event.ends w } = λ i. record { thread = sym mine i; event = what i } in
        let all = extends rest (noted slate e) u in
        let both : v ∷ [] ≡ w ∷ all.more =
        sym is ∙ all.is ∙ ap (λ (l : List ℤ). l ++ all.more) (ends_here slate e u w here ∙ ap (λ (l : List ℤ). l ++ w ∷ []) none) in
        let same : w ≡ v = cc in
        record { where_at = 0; there = record { carried = omega arith; end = rw (← same) here } }
    by_event further (event.joins w) what mine = silent further (event.joins w) what mine refl
    by_event further (event.locks m) what mine = silent further (event.locks m) what mine refl
    by_event further (event.unlocks m) what mine = silent further (event.unlocks m) what mine refl
    by_event further (event.creates w) what mine = silent further (event.creates w) what mine refl
    by_event further (event.opens n w) what mine = silent further (event.opens n w) what mine refl
    by_event further (event.ups k) what mine = silent further (event.ups k) what mine refl
    by_event further (event.downs k) what mine = silent further (event.downs k) what mine refl
    by_event further event.other what mine = silent further event.other what mine refl

module _ (trace : List Entry) (slate : Slate) (u : ℕ) (few : how_many (slate_of slate trace) u ≤ how_many slate u + 1) where
  -- with one result more there was one end
  pub once_only : (i j : ℕ) (v w : ℤ) → Ended trace u i v → Ended trace u j w → i ≡ j
  once_only i j v w d g =
      less_or_not i j
      (λ less. absurd (omega (arith, ends_count trace slate u i j v w less d g)))
      (λ more.
      less_or_not j i
      (λ less. absurd (omega (arith, ends_count trace slate u j i w v less g d)))
      (λ same. omega arith))

  -- which gave that result
  pub same_result_lem : (i j : ℕ) (v w : ℤ) → Ended trace u i v → Ended trace u j w → v ≡ w
  same_result_lem i j v w d g =
      let at : i ≡ j = once_only i j v w d g in
      let events : event.ends v ≡ event.ends w = ap (λ (e : Entry). e.event) (sym d.end ∙ ap (entry_at trace) at ∙ g.end) in
      cc
