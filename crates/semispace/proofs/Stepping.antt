-- Every transition keeps the invariant.
use Rattle.std.proofs.Common.{◌≡◌, ℕ, ◌+◌, ◌-◌, ◌<◌, true, false, ◌&&◌, ◌||◌, T, eqb, ltb, leb, ◌≢◌, get_or, set, sym, refl, ap, ◌∙◌, subst, inl, inr, arith}
use Rattle.std.proofs.lemmas.Bool.{or_left, or_right, and_left, ltb-true, le-leb, lt-ltb, and_from, and_parts, ltb-false, eq-eqb, ne_eqb, cases_eq, false≢true}
use Rattle.graph.specs.Graph.{size}
use Rattle.semispace.specs.declared.collector.Collector.{Collector}
use Rattle.semispace.specs.declared.collector.Collector.TheVariants.{Rest, Slots, Scan, Field}
use Rattle.semispace.specs.Layout.{size_at, mades}
use Rattle.semispace.specs.Words.{State, cursor, target, set_slots, state_at, reference_at, passed, opened, made, fitting, fitting_target, fitting_field, stepped, slots_from, put_at, set_collector, written, fields_from, fields_at, resting, refers, kind_at, place_of, word_at, next_place}
use Rattle.semispace.specs.Sound.{the_news, the_places, size_of, good, At, Sound}
use Rattle.semispace.specs.declared.collector.Target.{Target}
use Rattle.semispace.specs.declared.collector.Target.TheVariants.{Settled, Placed, Unplaced}
use Rattle.semispace.specs.declared.collector.Transition.{Transition}
use Rattle.semispace.specs.declared.collector.Transition.TheVariants.{Open, Word, Done}
use Rattle.semispace.proofs.Spreads.{by_bool, first_start, next_start, mem_append, size_two}
use Rattle.semispace.proofs.Reserving.{mades_inside}
use Rattle.semispace.proofs.SlotSound.{Forwarded, forward_sound, slot_sound}
use Rattle.semispace.proofs.Ends.{start_sound, done_sound}
use Rattle.semispace.proofs.FieldNext.{next_field, last_field, front_moves, or3}
use Rattle.semispace.proofs.OpenSound.{open_sound, from_old, at_in, past}

pub size_is : (s : State) (a : ℕ) → size_of s a ≡ 2 + fields_at s a
unfolding size_at
size_is s a = refl

pub written_sound : (t : State) (T : Sound t) (at from i v : ℕ) → t.collector ≡ Field (cursor at from i) → (refers t.book (kind_at t at) i ≡ true → good (the_news t) v ≡ true) → Sound (written t (cursor at from i) v)
written_sound t T at from i v is right =
    let P : Collector → Type 0 = λ c. At t c in
    let here : At t (Field (cursor at from i)) = subst P is T.at in
    let z = size_is t at in
    let Q : ℕ → Type 0 = λ y. Sound (set_collector (put_at t y v) (fields_from t (cursor at from (i + 1)))) in
    let R : Collector → Type 0 = λ c. Sound (set_collector (put_at t (at + (2 + i)) v) c) in
    let e : at + (2 + i) ≡ at + 2 + i = omega arith in
    subst Q e
    (by_bool (ltb (i + 1) (fields_at t at))
    (λ d. let q : fields_from t (cursor at from (i + 1)) ≡ Field (cursor at from (i + 1)) = rw d in
    let l = ltb-true (i + 1) (fields_at t at) d in
    subst R (sym q) (next_field t T at from i v is right (omega arith)))
    (λ d. let q0 : fields_from t (cursor at from (i + 1)) ≡ Scan (at + 2 + fields_at t at) = rw d in
    let q1 : at + 2 + fields_at t at ≡ at + size_of t at = omega arith in
    let q : fields_from t (cursor at from (i + 1)) ≡ Scan (at + size_of t at) = q0 ∙ ap Scan q1 in
    let l = ltb-false (i + 1) (fields_at t at) d in
    let h3 = here.3 in
    subst R (sym q) (last_field t T at from i v is right (omega arith))))

module _ (s : State) (S : Sound s) where
  slots_from_sound : (t : State) (T : Sound t) (n v : ℕ) → t.collector ≡ Slots n → good (the_news t) v ≡ true → Sound (set_collector (set_slots t (set t.slots n v)) (slots_from t (n + 1)))
  slots_from_sound t T n v is leads =
      let P : Collector → Type 0 = λ c. At t c in
      let here : n < t.count = subst P is T.at in
      let R : Collector → Type 0 = λ c. Sound (set_collector (set_slots t (set t.slots n v)) c) in
      by_bool (ltb (n + 1) t.count)
      (λ d. let q : slots_from t (n + 1) ≡ Slots (n + 1) = rw d in
      subst R (sym q) (slot_sound t T n v (Slots (n + 1)) (rw is) leads here (ltb-true (n + 1) t.count d) refl (λ x. rw is) (λ x k. rw is)
      (λ k l u. let g : k < n + 1 = ltb-true k (n + 1) u in elim (cases_eq k n) [ inl e ↦ inl e | inr e ↦ inr (rw is (lt-ltb k n (omega arith))) ])))
      (λ d. let q : slots_from t (n + 1) ≡ Scan t.halves.base = rw d in
      let g = ltb-false (n + 1) t.count d in
      subst R (sym q) (slot_sound t T n v (Scan t.halves.base) (rw is) leads here (first_start t.book t.memory (t.halves.size + 1) t.halves.base _ T.laid.places_fill) refl (λ x. rw is) (λ x k. rw is)
      (λ k l u. elim (cases_eq k n) [ inl e ↦ inl e | inr e ↦ inr (rw is (lt-ltb k n (omega arith))) ])))

  pub passed_sound : (n : ℕ) → s.collector ≡ Slots n → Sound (passed s n)
  passed_sound n is =
      let P : Collector → Type 0 = λ c. At s c in
      let here : n < s.count = subst P is S.at in
      let going : resting s.collector ≡ false = rw is in
      let r = get_or s.slots n 0 in
      let f = forward_sound s S going r ((S.cycle going).slots_refer n here) in
      go (target s r) f
    where
      go : (d : Target) → Forwarded s (state_at s (get_or s.slots n 0) d) (reference_at s (get_or s.slots n 0) d) → Sound (set_collector (set_slots (state_at s (get_or s.slots n 0) d) (set s.slots n (reference_at s (get_or s.slots n 0) d))) (slots_from s (n + 1)))
      go Settled f = slots_from_sound s f.sound n _ is f.leads
      go (Placed p) f = slots_from_sound s f.sound n _ is f.leads
      go Unplaced f = slots_from_sound (state_at s (get_or s.slots n 0) Unplaced) f.sound n _ is f.leads

  pub opened_sound : (at : ℕ) → s.collector ≡ Scan at → ltb at (next_place s) ≡ true → Sound (opened s at)
  opened_sound at is more =
      let b = from_old s S at is more in
      let k = at_in s S at is more in
      let z = size_is s at in
      let t2 = size_two s.book s.memory at in
      let from = word_at s at - 1 in
      let Q : ℕ → Type 0 = λ y. Sound (set_collector (put_at s y (word_at s (word_at s at - 1))) (fields_from s (cursor at (word_at s at - 1) 0))) in
      let R : Collector → Type 0 = λ c. Sound (set_collector (put_at s (at + 0) (word_at s (word_at s at - 1))) c) in
      let e : at + 0 ≡ at = omega arith in
      subst Q e
      (by_bool (ltb 0 (fields_at s at))
      (λ d.
      let l = ltb-true 0 (fields_at s at) d in
      let q : fields_from s (cursor at (word_at s at - 1) 0) ≡ Field (cursor at (word_at s at - 1) 0) = rw d in
      subst R (sym q)
      (open_sound s S at is more (Field (cursor at (word_at s at - 1) 0)) (k, b.1, b.2, omega arith) refl
      (λ x m ne. rw is (ap (λ v. leb (s.halves.base + s.halves.high) x || (ltb x at || v)) (and_left (eqb x at) true (ne_eqb x at ne) ∙ sym (and_left (eqb x at) false (ne_eqb x at ne)))))
      (or_right (leb (s.halves.base + s.halves.high) at) (ltb at at || (eqb at at && true)) (or_right (ltb at at) (eqb at at && true) (and_from (eqb at at) true (eq-eqb at at refl) refl)))
      (λ x n m q2 o. rw is o)))
      (λ d.
      let l = ltb-false 0 (fields_at s at) d in
      let q0 : fields_from s (cursor at (word_at s at - 1) 0) ≡ Scan (at + 2 + fields_at s at) = rw d in
      let q1 : at + 2 + fields_at s at ≡ at + size_of s at = omega arith in
      subst R (sym (q0 ∙ ap Scan q1))
      (open_sound s S at is more (Scan (at + size_of s at)) (next_start s.book s.memory (s.halves.size + 1) _ _ at S.laid.places_fill k) refl
      (λ x m ne. rw is (ap (λ v. leb (s.halves.base + s.halves.high) x || v) (front_moves x at (size_of s at) t2 (past s S at is more x m) ∙ ap (λ v. ltb x at || v) (and_left (eqb x at) true (ne_eqb x at ne) ∙ sym (and_left (eqb x at) false (ne_eqb x at ne))))))
      (or_right (leb (s.halves.base + s.halves.high) at) (ltb at (at + size_of s at) || (eqb at (at + size_of s at) && false)) (or_left (ltb at (at + size_of s at)) (eqb at (at + size_of s at) && false) (lt-ltb at (at + size_of s at) (omega arith))))
      (λ x n m q2 o. rw is
      (elim (or3 (leb (s.halves.base + s.halves.high) x) (ltb x (at + size_of s at)) (eqb x (at + size_of s at) && ltb n 0) o) [
        | inl g ↦ or_left (leb (s.halves.base + s.halves.high) x) (ltb x at || (eqb x at && ltb n 0)) g
        | inr g ↦ elim g [
          | inl j ↦
              elim (mem_append x (the_places s) (mades s.book s.memory s.halves) m) [
                | inl y ↦
                    let lt : x < at + size_of s at = ltb-true x (at + size_of s at) j in
                    let ne : x ≢ at = λ f. let zx : size_of s x ≡ size_of s at = ap (size_of s) f in omega arith in
                    let q3 : x < at = elim (past s S at is more x y) [ inl v ↦ omega arith | inr v ↦ absurd (omega arith) ] in
                    or_right (leb (s.halves.base + s.halves.high) x) (ltb x at || (eqb x at && ltb n 0)) (or_left (ltb x at) (eqb x at && ltb n 0) (lt-ltb x at q3))
                | inr y ↦ or_left (leb (s.halves.base + s.halves.high) x) (ltb x at || (eqb x at && ltb n 0)) (le-leb (s.halves.base + s.halves.high) x (mades_inside _ _ _ S.laid x y).0)
              ]
          | inr j ↦ absurd (omega (arith, ltb-true n 0 (and_parts (eqb x (at + size_of s at)) (ltb n 0) j).1))
        ]
      ])))))

  pub field_transition : (at from i : ℕ) → s.collector ≡ Field (cursor at from i) → Sound (made s (fitting_field s (cursor at from i)))
  field_transition at from i is =
      let P : Collector → Type 0 = λ c. At s c in
      let here : At s (Field (cursor at from i)) = subst P is S.at in
      let going : resting s.collector ≡ false = rw is in
      let w = word_at s (from + 2 + i) in
      let T : Transition → Type 0 = λ t. Sound (made s t) in
      let ne : place_of s from ≢ 0 = λ z. let v = here.2 in omega arith in
      let tw = (S.cycle going).twin from here.1 ne in
      let pq : place_of s from - 1 ≡ at = let v = here.2 in omega arith in
      let kinds : kind_at s at ≡ kind_at s from = ap (kind_at s) (sym pq) ∙ tw.kind in
      let sizes : size_of s from ≡ size_of s at = size_is s from ∙ (ap (λ k. 2 + size s.book k) (sym kinds) ∙ sym (size_is s at)) in
      by_bool (refers s.book (kind_at s from) i)
      (λ e.
      let q : fitting_field s (cursor at from i) ≡ fitting_target (cursor at from i) (target s w) = rw e in
      subst T (sym q) (go (target s w) (forward_sound s S going w ((S.cycle going).olds_refer from i here.1 (rw sizes here.3) e))))
      (λ e.
      let q : fitting_field s (cursor at from i) ≡ Word (cursor at from i) = rw e in
      subst T (sym q) (written_sound s S at from i w is (λ r. absurd (false≢true (sym e ∙ (rw kinds at r))))))
    where
      go : (d : Target) → Forwarded s (state_at s (word_at s (from + 2 + i)) d) (reference_at s (word_at s (from + 2 + i)) d) → Sound (made s (fitting_target (cursor at from i) d))
      go Settled f = written_sound s f.sound at from i _ is (λ r. f.leads)
      go (Placed p) f = written_sound s f.sound at from i _ is (λ r. f.leads)
      go Unplaced f = written_sound (state_at s (word_at s (from + 2 + i)) Unplaced) f.sound at from i _ is (λ r. f.leads)

  step_at : (c : Collector) → s.collector ≡ c → Sound (made s (fitting s c))
  step_at Rest is = start_sound s S is
  step_at (Slots n) is = passed_sound n is
  step_at (Scan at) is =
      let T : Transition → Type 0 = λ t. Sound (made s t) in
      by_bool (ltb at (next_place s))
      (λ e. let q : fitting s (Scan at) ≡ Open at = rw e in subst T (sym q) (opened_sound at is e))
      (λ e. let q : fitting s (Scan at) ≡ Done = rw e in subst T (sym q) (done_sound s S at is e))
  step_at (Field c) is = field_transition c.at c.from c.field is

  -- Every step keeps the invariant.
  pub step_sound : Sound (stepped s)
  step_sound = step_at s.collector refl
