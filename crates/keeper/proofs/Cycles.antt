-- The first two laws: how long a cycle is, and what it leaves in use.
use Rattle.std.proofs.Common.{◌≡◌, ◌+◌, ◌<◌, ◌≤◌, List, [], ◌∷◌, ◌++◌, refl, ap, subst, inl, inr, arith}
use Rattle.graph.specs.Meaning.{live_words}
use Rattle.keeper.specs.Keeping.{State}
use Rattle.keeper.specs.History.{Moment, History, New, Cycle, Closed, Still, Unended, Ends, Short, Freed, final, steps_in, steps_of, words_of}
use Rattle.keeper.specs.History.{none, then}
use Rattle.keeper.proofs.Effects.{effect}

pub split : (xs ys : List Moment) {s t : State} → History s (xs ++ ys) t → (u : State) × History s xs u × History u ys t
split [] ys {s} h = (s, none, h)
split (x ∷ xs) ys (then d h) = let r = split xs ys h in (r.0, then d r.1, r.2)

closed_end : (es : List Moment) (e : Moment) {s u : State} → History s (e ∷ es) u → Closed (e ∷ es) → u.heap.due ≡ 0
closed_end [] e (then {s = s} {u = u} {c = c} {x = x} d none) k = ((effect s u c x d).end k).0
closed_end (f ∷ es) e (then d h) k = closed_end es f h k

pub closed_rest : (es : List Moment) {s u : State} → History s es u → s.heap.due ≡ 0 → Closed es → u.heap.due ≡ 0
closed_rest [] none z k = z
closed_rest (e ∷ es) h z k = closed_end es e h k

pub still_rest : (es : List Moment) {s u : State} → History s es u → s.heap.due ≡ 0 → Still es → u.heap.due ≡ 0
still_rest [] none z k = z
still_rest (e ∷ es) (then {s = s} {u = u} {c = c} {x = x} d h) z k = still_rest es h ((effect s u c x d).resting z k.0) k.1

-- Calls in a cycle, none of which ends it.
running : (es : List Moment) {s u : State} → History s es u → 0 < s.heap.due → Unended es → (steps_of es + u.heap.due ≤ s.heap.due) × (u.heap.kept ≤ s.heap.kept + words_of es)
running [] none p k = omega arith
running (e ∷ es) (then {s = s} {u = u} {c = c} {x = x} d h) p k =
    let f = effect s u c x d in
    let g = f.going p in
    let i = running es h (f.on k.0 p) k.1 in
    omega arith

-- Calls in a cycle, of which the last ends it.
ending : (es : List Moment) (e : Moment) {s u : State} → History s (e ∷ es) u → 0 < s.heap.due → Ends e es → (steps_of (e ∷ es) + u.heap.due ≤ s.heap.due) × (u.heap.kept ≤ s.heap.kept + words_of (e ∷ es)) × (u.heap.capacity ≤ u.heap.spare + u.heap.kept)
ending [] e (then {s = s} {u = u} {c = c} {x = x} d none) p k =
    let f = effect s u c x d in
    let g = f.going p in
    let i = f.end k in
    omega arith
ending (e' ∷ es) e (then {s = s} {u = u} {c = c} {x = x} d h) p k =
    let f = effect s u c x d in
    let g = f.going p in
    let i = ending es e' h (f.on k.0 p) k.1 in
    omega arith

final_is : (es : List Moment) (e : Moment) {s u : State} → History s (e ∷ es) u → (final e es).after ≡ u
final_is [] e (then d none) = refl
final_is (f ∷ es) e (then d h) = final_is es f h

-- From a start on.
pub record Begun (e : Moment) (es : List Moment) (u : State) : Type 0 where
  pub steps : steps_of (e ∷ es) + u.heap.due ≤ e.before.heap.fixed + live_words e.before.heap
  pub kept : u.heap.kept ≤ live_words e.before.heap + words_of es

begun_open : (es : List Moment) (e : Moment) {s u : State} → History s (e ∷ es) u → s.heap.due ≡ 0 → 0 < steps_in e.said → Unended (e ∷ es) → Begun e es u
begun_open es e (then {s = s} {u = u} {c = c} {x = x} d h) z p k =
    let f = effect s u c x d in
    let g = f.start z p in
    let i = running es h (f.on_made k.0 p) k.1 in
    omega arith

begun_ended : (es : List Moment) (e : Moment) {s u : State} → History s (e ∷ es) u → s.heap.due ≡ 0 → 0 < steps_in e.said → Ends e es → Begun e es u × (u.heap.capacity ≤ u.heap.spare + u.heap.kept)
begun_ended [] e (then {s = s} {u = u} {c = c} {x = x} d none) z p k =
    let f = effect s u c x d in
    let g = f.start z p in
    let i = f.end k in
    omega arith
begun_ended (e' ∷ es) e (then {s = s} {u = u} {c = c} {x = x} d h) z p k =
    let f = effect s u c x d in
    let g = f.start z p in
    let i = ending es e' h (f.on_made k.0 p) k.1 in
    omega arith

-- The state at a cycle's start, and the history from there.
reach : (es : List Moment) {s t : State} → New s → History s es t → (c : Cycle es) → (v u : State) × History v (c.first ∷ c.during) u × (v.heap.due ≡ 0)
reach es {s} {t} n h c =
    let h₁ = subst (λ l. History s l t) c.parts h in
    let a = split c.earlier (c.waiting ++ (c.first ∷ (c.during ++ c.later))) h₁ in
    let b = split c.waiting (c.first ∷ (c.during ++ c.later)) a.2 in
    let d = split (c.first ∷ c.during) c.later b.2 in
    let z = closed_rest c.earlier a.1 n.opened.due c.closed in
    let y = still_rest c.waiting b.1 z c.still in
    (b.0, d.0, d.1, y)

pub short : {s t : State} (es : List Moment) → New s → History s es t → Short es
short es n h c =
    let r = reach es n h c in
    elim c.shape [
      | inl k ↦ (let g = begun_open c.during c.first r.2 r.3 c.starts k in omega arith)
      | inr k ↦ (let g = begun_ended c.during c.first r.2 r.3 c.starts k in omega arith)
    ]

pub freed : {s t : State} (es : List Moment) → New s → History s es t → Freed es
freed es n h c k =
    let r = reach es n h c in
    let g = begun_ended c.during c.first r.2 r.3 c.starts k in
    let e = final_is c.during c.first r.2 in
    let v = ap (λ (q : State). q.heap.capacity) e in
    let y = ap (λ (q : State). q.heap.spare) e in
    omega arith
