-- Every call that made a step lies in a cycle.
use Rattle.std.proofs.Common.{◌≡◌, ◌<◌, true, false, ◌⊎◌, List, [], ◌∷◌, ◌++◌, sym, refl, ap, ◌∙◌, inl, inr, append_assoc}
use Rattle.keeper.specs.History.{Moment, Closed, Still, Unended, Ends, Covered, steps_in, ended_in}
use Rattle.std.proofs.Math.Nat.{eq-zero-or-pos}
use Rattle.std.proofs.lemmas.Bool.{cases_Bool}

-- A list taken apart at its last cycle.
record Cut (l : List Moment) : Type 0 where
  earlier : List Moment
  waiting : List Moment
  first : Moment
  during : List Moment
  parts : l ≡ earlier ++ (waiting ++ (first ∷ during))
  closed : Closed earlier
  still : Still waiting
  quiet : Unended waiting
  starts : 0 < steps_in first.said
  shape : Unended (first ∷ during) ⊎ Ends first during

unended_join : (w : List Moment) (d : List Moment) → Unended w → Unended d → Unended (w ++ d)
unended_join [] d p q = q
unended_join (x ∷ w) d p q = (p.0, unended_join w d p.1 q)

ends_join : (x : Moment) (w : List Moment) (f : Moment) (d : List Moment) → ended_in x.said ≡ false → Unended w → Ends f d → Ends x (w ++ (f ∷ d))
ends_join x [] f d e p q = (e, q)
ends_join x (y ∷ w) f d e p q = (e, ends_join y w f d p.0 p.1 q)

closed_more : (x : Moment) (es : List Moment) → ended_in x.said ≡ true → Closed es → Closed (x ∷ es)
closed_more x [] e c = e
closed_more x (y ∷ es) e c = c

-- One call more in front, which did not end a cycle.
front : (x : Moment) (l : List Moment) → ended_in x.said ≡ false → (earlier waiting : List Moment) (first : Moment) (during : List Moment) → l ≡ earlier ++ (waiting ++ (first ∷ during)) → Closed earlier → Still waiting → Unended waiting → 0 < steps_in first.said → Unended (first ∷ during) ⊎ Ends first during → Cut (x ∷ l)
front x l n (y ∷ ys) w f d p c s q t h = record { earlier = x ∷ (y ∷ ys); waiting = w; first = f; during = d; parts = ap (λ (m : List Moment). x ∷ m) p; closed = c; still = s; quiet = q; starts = t; shape = h }
front x l n [] w f d p c s q t h =
    elim (eq-zero-or-pos (steps_in x.said)) [
      | inl z ↦ record { earlier = []; waiting = x ∷ w; first = f; during = d; parts = ap (λ (m : List Moment). x ∷ m) p; closed = tt; still = (z, s); quiet = (n, q); starts = t; shape = h }
      | inr z ↦ record {
        earlier = [];
        waiting = [];
        first = x;
        during = w ++ (f ∷ d);
        parts = ap (λ (m : List Moment). x ∷ m) p;
        closed = tt;
        still = tt;
        quiet = tt;
        starts = z;
        shape = elim h [ inl u ↦ inl (n, unended_join w (f ∷ d) q u) | inr u ↦ inr (ends_join x w f d n q u) ];
      }
    ]

cut : (xs : List Moment) (e : Moment) → 0 < steps_in e.said → Cut (xs ++ (e ∷ []))
cut [] e p = record { earlier = []; waiting = []; first = e; during = []; parts = refl; closed = tt; still = tt; quiet = tt; starts = p; shape = elim (cases_Bool (ended_in e.said)) [ inl u ↦ inr u | inr u ↦ inl (u, tt) ] }
cut (x ∷ xs) e p =
    let k = cut xs e p in
    elim (cases_Bool (ended_in x.said)) [
      | inr n ↦ front x (xs ++ (e ∷ [])) n k.earlier k.waiting k.first k.during k.parts k.closed k.still k.quiet k.starts k.shape
      | inl n ↦ record { earlier = x ∷ k.earlier; waiting = k.waiting; first = k.first; during = k.during; parts = ap (λ (m : List Moment). x ∷ m) k.parts; closed = closed_more x k.earlier n k.closed; still = k.still; quiet = k.quiet; starts = k.starts; shape = k.shape }
    ]

regroup : (a w d ys : List Moment) (f : Moment) → (a ++ (w ++ (f ∷ d))) ++ ys ≡ a ++ (w ++ (f ∷ (d ++ ys)))
regroup a w d ys f = simp append_assoc

pub covered : (es : List Moment) → Covered es
covered es xs e ys p t =
    let k = cut xs e t in
    let q : xs ++ (e ∷ ys) ≡ (xs ++ (e ∷ [])) ++ ys = simp append_assoc in
    (record { earlier = k.earlier; waiting = k.waiting; first = k.first; during = k.during; later = ys; parts = p ∙ q ∙ ap (λ (m : List Moment). m ++ ys) k.parts ∙ regroup k.earlier k.waiting k.during ys k.first; closed = k.closed; still = k.still; starts = k.starts; shape = k.shape }, sym k.parts, refl)
