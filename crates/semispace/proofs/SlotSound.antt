-- Passing a slot keeps the invariant.
use Rattle.std.proofs.Common.{◌≡◌, ℕ, zero, suc, ◌+◌, ◌-◌, ◌<◌, true, false, ◌||◌, eqb, ◌≢◌, ◌⊎◌, List, get_or, set, sym, refl, ap, ◌∙◌, subst, inl, inr, arith}
use Rattle.std.proofs.lemmas.List.{get_or-set_same, get_or-set_other, length-set}
use Rattle.std.proofs.lemmas.Bool.{eqb-false, or_cases, or_left, or_right, or_parts, eqb-true, eq-eqb, cases_eq, false≢true}
use Rattle.semispace.specs.declared.collector.Collector.{Collector}
use Rattle.semispace.specs.declared.collector.Collector.TheVariants.{Rest, Slots, Scan, Field}
use Rattle.semispace.specs.Layout.{mem}
use Rattle.semispace.specs.Words.{leads_new, State, target, placed_at, set_slots, forwarded_state, forwarded_reference, state_at, reference_at, set_collector, own, resting, place_of, next_place}
use Rattle.semispace.specs.Sound.{the_olds, the_news, the_places, good, opened_at, passed_slot, At, Sound}
use Rattle.semispace.specs.declared.collector.Target.{Target}
use Rattle.semispace.specs.declared.collector.Target.TheVariants.{Settled, Placed, Unplaced}
use Rattle.semispace.proofs.Spreads.{by_bool, mem_append, mem_left}
use Rattle.semispace.proofs.ReserveSound.{noted_state, good_more, reserved_is, sound_after, place_there}
use Rattle.semispace.proofs.ReserveAgree.{new_leads, old_leads_not}
use Rattle.semispace.proofs.Putting.{all}

pub placed_zero : (q : ℕ) → q ≡ 0 → placed_at q ≡ Unplaced
placed_zero zero e = refl
placed_zero (suc q) e = absurd (omega arith)

pub placed_some : (q : ℕ) → q ≢ 0 → placed_at q ≡ Placed q
placed_some zero e = absurd (e refl)
placed_some (suc q) e = refl

pub good_from : (xs : List ℕ) (x r : ℕ) → r ≡ x + 1 → mem x xs ≡ true → good xs r ≡ true
unfolding good
good_from xs x r e m = let q : r - 1 ≡ x = omega arith in or_right (eqb r 0) (mem (r - 1) xs) (rw q m)

pub good_cases : (xs : List ℕ) (r : ℕ) → good xs r ≡ true → (r ≡ 0) ⊎ ((r ≢ 0) × (mem (r - 1) xs ≡ true))
unfolding good
good_cases xs r g = elim (cases_eq r 0) [ inl e ↦ inl e | inr e ↦ elim (or_cases (eqb r 0) (mem (r - 1) xs) g) [ inl d ↦ inl (eqb-true r 0 d) | inr d ↦ inr (e, d) ] ]

pub good_none : (xs : List ℕ) (r : ℕ) → r ≡ 0 → good xs r ≡ true
unfolding good
good_none xs r e = or_left (eqb r 0) (mem (r - 1) xs) (eq-eqb r 0 e)

-- What a call or step gets that puts a reference in a cycle.
pub record Forwarded (s t : State) (v : ℕ) : Type 0 where
  pub sound : Sound t
  pub leads : good (the_news t) v ≡ true
  pub collector : t.collector ≡ s.collector
  pub slots : t.slots ≡ s.slots
  pub count : t.count ≡ s.count

module _ (s : State) (S : Sound s) (going : resting s.collector ≡ false) (r : ℕ) (g : good (all s) r ≡ true) where
  settled : (eqb r 0 || leads_new s.halves r) ≡ true → good (the_news s) r ≡ true
  settled e =
      elim (good_cases (all s) r g) [
        | inl z ↦ good_none (the_news s) r z
        | inr z ↦
            let q : r ≡ r - 1 + 1 = omega (arith, z.0) in
            elim (mem_append (r - 1) (the_news s) (the_olds s) z.1) [
              | inl m ↦ good_from (the_news s) (r - 1) r q m
              | inr m ↦ elim (or_cases (eqb r 0) (leads_new s.halves r) e) [
                | inl d ↦ absurd (z.0 (eqb-true r 0 d))
                | inr d ↦ absurd (false≢true (sym (old_leads_not s S.laid (r - 1) m) ∙ (ap (leads_new s.halves) (sym q) ∙ d)))
              ]
            ]
      ]

  pub old : (eqb r 0 || leads_new s.halves r) ≡ false → (r ≡ r - 1 + 1) × (mem (r - 1) (the_olds s) ≡ true)
  old e =
      let u = or_parts (eqb r 0) (leads_new s.halves r) e in
      elim (good_cases (all s) r g) [
        | inl z ↦ absurd (eqb-false r 0 u.0 z)
        | inr z ↦
            let q : r ≡ r - 1 + 1 = omega (arith, z.0) in
            elim (mem_append (r - 1) (the_news s) (the_olds s) z.1) [
              | inl m ↦ absurd (false≢true (sym u.1 ∙ (ap (leads_new s.halves) q ∙ new_leads s S.laid (r - 1) m)))
              | inr m ↦ (q, m)
            ]
      ]

  pub forward_sound : Forwarded s (forwarded_state s r) (forwarded_reference s r)
  forward_sound =
      let P : Target → Type 0 = λ t. Forwarded s (state_at s r t) (reference_at s r t) in
      by_bool (eqb r 0 || leads_new s.halves r)
      (λ e.
      let q : target s r ≡ Settled = rw e in
      subst P (sym q) (record { sound = S; leads = settled e; collector = refl; slots = refl; count = refl }))
      (λ e.
      let o = old e in
      elim (cases_eq (place_of s (r - 1)) 0) [
        | inl z ↦
            let q : target s r ≡ Unplaced = rw e (placed_zero (place_of s (r - 1)) z) in
            let Q : State → Type 0 = λ t. Forwarded s t (next_place s + 1) in
            subst P (sym q) (subst Q (sym (reserved_is s (r - 1)))
            (record {
              sound = sound_after s S going (r - 1) o.1 z;
              leads = good_from (the_news (noted_state s (r - 1))) (next_place s) (next_place s + 1) refl (mem_left (next_place s) (the_places (noted_state s (r - 1))) _ (place_there s S going (r - 1) o.1 z));
              collector = refl;
              slots = refl;
              count = refl;
            }))
        | inr z ↦
            let q : target s r ≡ Placed (place_of s (r - 1)) = rw e (placed_some (place_of s (r - 1)) z) in
            subst P (sym q)
            (record {
              sound = S;
              leads = good_from (the_news s) (place_of s (r - 1) - 1) (place_of s (r - 1)) (omega arith) (mem_left (place_of s (r - 1) - 1) (the_places s) _ ((S.cycle going).twin (r - 1) o.1 z).inside);
              collector = refl;
              slots = refl;
              count = refl;
            })
      ])

-- Slot n gets v, and the collector moves on to c.
module _ (t : State) (T : Sound t) (n v : ℕ) (c : Collector) (going : resting t.collector ≡ false)
    (leads : good (the_news t) v ≡ true) (there : n < t.count)
    (at_c : At t c) (going_c : resting c ≡ false)
    (opened_c : (x : ℕ) → opened_at t.halves c x ≡ opened_at t.halves t.collector x)
    (own_c : (x k : ℕ) → own t.halves c x k ≡ own t.halves t.collector x k)
    (slots_c : (k : ℕ) → k < t.count → passed_slot c k ≡ true → (k ≡ n) ⊎ (passed_slot t.collector k ≡ true))
  where
    abbrev slotted : State
    slotted = set_collector (set_slots t (set t.slots n v)) c

    at_s : (d : Collector) → At t d → At slotted d
    at_s Rest h = h
    at_s (Slots k) h = h
    at_s (Scan at) h = h
    at_s (Field c) h = h

    slot_is : (xs : List ℕ) (k : ℕ) → k < t.count → (k ≢ n → good xs (get_or t.slots k 0) ≡ true) → good xs v ≡ true → good xs (get_or (set t.slots n v) k 0) ≡ true
    slot_is xs k l f g =
        elim (cases_eq k n) [
          | inl e ↦ let q : get_or (set t.slots n v) k 0 ≡ v = rw e (get_or-set_same t.slots n v 0 (omega (arith, T.enough))) in rw q g
          | inr e ↦ let q : get_or (set t.slots n v) k 0 ≡ get_or t.slots k 0 = get_or-set_other t.slots n k v 0 e in rw q (f e)
        ]

    pub slot_sound : Sound slotted
    slot_sound = record {
      bounds = omega (arith, T.bounds);
      laid = T.laid;
      enough = rw (length-set t.slots n v) T.enough;
      at = at_s c at_c;
      rest = λ r. absurd (false≢true (sym going_c ∙ r));
      cycle = λ r. record {
        sum = (T.cycle going).sum;
        room = (T.cycle going).room;
        twin = λ o m ne. let w = (T.cycle going).twin o m ne in record {
          inside = w.inside;
          kind = w.kind;
          back = λ u. w.back (sym (opened_c (place_of t o - 1)) ∙ u);
          head = λ u. w.head (sym (opened_c (place_of t o - 1)) ∙ u);
        };
        back = λ p m u. (T.cycle going).back p m (sym (opened_c p) ∙ u);
        olds_refer = (T.cycle going).olds_refer;
        slots_refer = λ k l. slot_is (all t) k l (λ e. (T.cycle going).slots_refer k l) (good_more (the_news t) (all t) v (λ x m. mem_left x (the_news t) (the_olds t) m) leads);
      };
      news_refer = λ x k m q o r. T.news_refer x k m q (sym (own_c x k) ∙ o) r;
      slots_passed = λ k l u. slot_is (the_news t) k l (λ e. elim (slots_c k l u) [ inl d ↦ absurd (e d) | inr d ↦ T.slots_passed k l d ]) leads;
      plain = T.plain;
    }
