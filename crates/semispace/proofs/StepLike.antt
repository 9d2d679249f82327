-- Every transition within a cycle looks the same to calls.
use Rattle.std.proofs.Common.{rules, ◌≡◌, ℕ, ◌+◌, ◌-◌, ◌<◌, ◌≤◌, Bool, true, false, ◌&&◌, ◌||◌, T, eqb, ltb, leb, ◌≢◌, ◌⊎◌, get_or, set, sym, refl, ap, ◌∙◌, subst, inl, inr, arith}
use Rattle.std.proofs.lemmas.Bool.{or_left, or_right, and_left, ltb-true, le-leb, lt-ltb, and_from, and_parts, eqb-true, ltb-false, eq-eqb, ne_eqb, cases_eq, cases_order, false≢true}
use Rattle.graph.specs.Graph.{size}
use Rattle.semispace.specs.declared.collector.Collector.{Collector}
use Rattle.semispace.specs.declared.collector.Collector.TheVariants.{Slots, Scan, Field}
use Rattle.semispace.specs.Layout.{mem}
use Rattle.semispace.specs.Words.{State, cursor, target, set_slots, state_at, reference_at, passed, opened, made, fitting_target, fitting_field, slots_from, put_at, set_collector, written, fields_from, fields_at, resting, refers, kind_at, place_of, word_at, next_place}
use Rattle.semispace.specs.Sound.{the_olds, the_news, the_places, size_of, good, At, Sound, name}
use Rattle.semispace.specs.declared.collector.Target.{Target}
use Rattle.semispace.specs.declared.collector.Target.TheVariants.{Settled, Placed, Unplaced}
use Rattle.semispace.specs.declared.collector.Transition.{Transition}
use Rattle.semispace.specs.declared.collector.Transition.TheVariants.{Word}
use Rattle.semispace.proofs.Spreads.{by_bool, spread_apart, spread_starts, mem_append, mem_right, size_two}
use Rattle.semispace.proofs.Reserving.{mades_inside}
use Rattle.semispace.proofs.SlotSound.{Forwarded, forward_sound}
use Rattle.semispace.proofs.FieldNext.{next_field, last_field, front_moves, or3}
use Rattle.semispace.proofs.OpenSound.{at_in, past}
use Rattle.semispace.proofs.Stepping.{size_is, passed_sound, opened_sound}
use Rattle.semispace.proofs.Like.{the_mades, objs, Like, Alike}
use Rattle.semispace.proofs.Likes.{like_objs, like_trans, ForwardLike, forward_like, slot_like}
use Rattle.semispace.proofs.FieldLike.{Apart, field_like, open_like}

pub like_apart : (s t : State) → Like s t → Apart s → Apart t
like_apart s t L d a b ka kb e = search (rules, arith, objs, like_objs)

module _ (t : State) (T : Sound t) (distinct : Apart t) (at from i v : ℕ) (is : t.collector ≡ Field (cursor at from i))
    (right : refers t.book (kind_at t at) i ≡ true → good (the_news t) v ≡ true)
    (means : Alike t (kind_at t from) i v (word_at t (from + (2 + i))))
  where
    here : At t (Field (cursor at from i))
    here = let P : Collector → Type 0 = λ c. At t c in subst P is T.at

    abbrev top : ℕ → Bool
    top x = leb (t.halves.base + t.halves.high) x

    past_at : (x : ℕ) → mem x (the_places t) ≡ true → (x ≤ at) ⊎ (at + size_of t at ≤ x)
    past_at x m =
        elim (cases_order x at) [
          | inl e ↦ inl (omega arith)
          | inr e ↦ elim e [
            | inl d ↦ inl (omega arith)
            | inr d ↦ inr (spread_apart t.book t.memory _ _ at x (the_places t) (spread_starts t.book t.memory (t.halves.size + 1) _ _ T.laid.places_fill) here.0 m d)
          ]
        ]

    next_like : 2 + (i + 1) < size_of t at → Like t (set_collector (put_at t (at + (2 + i)) v) (Field (cursor at from (i + 1))))
    next_like lt =
        field_like t T distinct at from i v is (Field (cursor at from (i + 1))) refl
        (λ x m. rw is)
        (λ x n m q o.
        elim (or3 (top x) (ltb x at) (eqb x at && ltb n (i + 1)) o) [
          | inl e ↦ inl (rw is (or_left (top x) (ltb x at || (eqb x at && ltb n i)) e))
          | inr e ↦ elim e [
            | inl d ↦ inl (rw is (or_right (top x) (ltb x at || (eqb x at && ltb n i)) (or_left (ltb x at) (eqb x at && ltb n i) d)))
            | inr d ↦
                let u = and_parts (eqb x at) (ltb n (i + 1)) d in
                let g : n < i + 1 = ltb-true n (i + 1) u.1 in
                elim (cases_eq n i) [
                  | inl f ↦ inr (eqb-true x at u.0, f)
                  | inr f ↦ inl (rw is (or_right (top x) (ltb x at || (eqb x at && ltb n i)) (or_right (ltb x at) (eqb x at && ltb n i) (and_from (eqb x at) (ltb n i) u.0 (lt-ltb n i (omega arith))))))
                ]
          ]
        ])
        (λ x n m o0.
        let o : (top x || (ltb x at || (eqb x at && ltb n i))) ≡ true = rw is at o0 in
        elim (or3 (top x) (ltb x at) (eqb x at && ltb n i) o) [
          | inl e ↦ or_left (top x) (ltb x at || (eqb x at && ltb n (i + 1))) e
          | inr e ↦ or_right (top x) (ltb x at || (eqb x at && ltb n (i + 1))) (elim e [
            | inl d ↦ or_left (ltb x at) (eqb x at && ltb n (i + 1)) d
            | inr d ↦
                let u = and_parts (eqb x at) (ltb n i) d in
                let g : n < i = ltb-true n i u.1 in
                or_right (ltb x at) (eqb x at && ltb n (i + 1)) (and_from (eqb x at) (ltb n (i + 1)) u.0 (lt-ltb n (i + 1) (omega arith)))
          ])
        ])
        means (next_field t T at from i v is right lt)

    last_like : 2 + (i + 1) ≡ size_of t at → Like t (set_collector (put_at t (at + (2 + i)) v) (Scan (at + size_of t at)))
    last_like eq =
        field_like t T distinct at from i v is (Scan (at + size_of t at)) refl
        (λ x m. let z = size_two t.book t.memory at in let q = past_at x m in rw is (ap (λ v. top x || v) (front_moves x at (size_of t at) z q)))
        (λ x n m q o.
        elim (or3 (top x) (ltb x (at + size_of t at)) (eqb x (at + size_of t at) && ltb n 0) o) [
          | inl e ↦ inl (rw is (or_left (top x) (ltb x at || (eqb x at && ltb n i)) e))
          | inr e ↦
              elim e [
                | inl d ↦
                    let lt : x < at + size_of t at = ltb-true x (at + size_of t at) d in
                    elim (mem_append x (the_places t) (the_mades t) m) [
                      | inl g ↦
                          elim (cases_eq x at) [
                            | inl f ↦
                                let z : size_of t x ≡ size_of t at = ap (size_of t) f in
                                elim (cases_eq n i) [
                                  | inl j ↦ inr (f, j)
                                  | inr j ↦ inl (rw is (or_right (top x) (ltb x at || (eqb x at && ltb n i)) (or_right (ltb x at) (eqb x at && ltb n i) (and_from (eqb x at) (ltb n i) (eq-eqb x at f) (lt-ltb n i (omega arith))))))
                                ]
                            | inr f ↦
                                let q2 : x < at = elim (past_at x g) [ inl j ↦ omega arith | inr j ↦ absurd (omega arith) ] in
                                inl (rw is (or_right (top x) (ltb x at || (eqb x at && ltb n i)) (or_left (ltb x at) (eqb x at && ltb n i) (lt-ltb x at q2))))
                          ]
                      | inr g ↦ inl (rw is (or_left (top x) (ltb x at || (eqb x at && ltb n i)) (le-leb (t.halves.base + t.halves.high) x (mades_inside _ _ _ T.laid x g).0)))
                    ]
                | inr d ↦ absurd (omega (arith, ltb-true n 0 (and_parts (eqb x (at + size_of t at)) (ltb n 0) d).1))
              ]
        ])
        (λ x n m o0.
        let o : (top x || (ltb x at || (eqb x at && ltb n i))) ≡ true = rw is at o0 in
        let z = size_two t.book t.memory at in
        elim (or3 (top x) (ltb x at) (eqb x at && ltb n i) o) [
          | inl e ↦ or_left (top x) (ltb x (at + size_of t at) || (eqb x (at + size_of t at) && ltb n 0)) e
          | inr e ↦ or_right (top x) (ltb x (at + size_of t at) || (eqb x (at + size_of t at) && ltb n 0)) (or_left (ltb x (at + size_of t at)) (eqb x (at + size_of t at) && ltb n 0)
              (elim e [
                | inl d ↦ let g = ltb-true x at d in lt-ltb x (at + size_of t at) (omega arith)
                | inr d ↦ let g = eqb-true x at (and_parts (eqb x at) (ltb n i) d).0 in lt-ltb x (at + size_of t at) (omega arith)
              ]))
        ])
        means (last_field t T at from i v is right eq)

    pub written_like : Like t (written t (cursor at from i) v)
    written_like =
        let z = size_is t at in
        let Q : ℕ → Type 0 = λ y. Like t (set_collector (put_at t y v) (fields_from t (cursor at from (i + 1)))) in
        let R : Collector → Type 0 = λ c. Like t (set_collector (put_at t (at + (2 + i)) v) c) in
        let e : at + (2 + i) ≡ at + 2 + i = omega arith in
        subst Q e
        (by_bool (ltb (i + 1) (fields_at t at))
        (λ d. let q : fields_from t (cursor at from (i + 1)) ≡ Field (cursor at from (i + 1)) = rw d in
        let l = ltb-true (i + 1) (fields_at t at) d in
        subst R (sym q) (next_like (omega arith)))
        (λ d. let q0 : fields_from t (cursor at from (i + 1)) ≡ Scan (at + 2 + fields_at t at) = rw d in
        let q1 : at + 2 + fields_at t at ≡ at + size_of t at = omega arith in
        let q : fields_from t (cursor at from (i + 1)) ≡ Scan (at + size_of t at) = q0 ∙ ap Scan q1 in
        let l = ltb-false (i + 1) (fields_at t at) d in
        let h3 = here.3 in
        subst R (sym q) (last_like (omega arith))))

module _ (s : State) (S : Sound s) where
  pub slots_from_like : (t : State) (T : Sound t) (n v : ℕ) → t.collector ≡ Slots n → good (the_news t) v ≡ true → name t v ≡ name t (get_or t.slots n 0) → Sound (set_collector (set_slots t (set t.slots n v)) (slots_from t (n + 1))) → Like t (set_collector (set_slots t (set t.slots n v)) (slots_from t (n + 1)))
  slots_from_like t T n v is leads means = search (rules, arith, here, Like, slot_like)

  pub passed_like : (n : ℕ) → s.collector ≡ Slots n → Like s (passed s n)
  passed_like n is =
      let P : Collector → Type 0 = λ c. At s c in
      let here : n < s.count = subst P is S.at in
      let going : resting s.collector ≡ false = rw is in
      let r = get_or s.slots n 0 in
      go (target s r) (forward_sound s S going r ((S.cycle going).slots_refer n here)) (forward_like s S going r ((S.cycle going).slots_refer n here)) (passed_sound s S n is)
    where
      go : (d : Target) → Forwarded s (state_at s (get_or s.slots n 0) d) (reference_at s (get_or s.slots n 0) d) → ForwardLike s (state_at s (get_or s.slots n 0) d) (get_or s.slots n 0) (reference_at s (get_or s.slots n 0) d) → Sound (set_collector (set_slots (state_at s (get_or s.slots n 0) d) (set s.slots n (reference_at s (get_or s.slots n 0) d))) (slots_from s (n + 1))) → Like s (set_collector (set_slots (state_at s (get_or s.slots n 0) d) (set s.slots n (reference_at s (get_or s.slots n 0) d))) (slots_from s (n + 1)))
      go Settled f k u = slots_from_like s f.sound n _ is f.leads k.means u
      go (Placed p) f k u = slots_from_like s f.sound n _ is f.leads k.means u
      go Unplaced f k u =
          let t = state_at s (get_or s.slots n 0) Unplaced in
          like_trans s t _ k.like (slots_from_like t f.sound n _ is f.leads (k.means ∙ sym k.was) u)

  pub opened_like : (at : ℕ) → s.collector ≡ Scan at → ltb at (next_place s) ≡ true → Like s (opened s at)
  opened_like at is more =
      let k = at_in s S at is more in
      let z = size_is s at in
      let t2 = size_two s.book s.memory at in
      let from = word_at s at - 1 in
      let num = word_at s (word_at s at - 1) in
      let Q : ℕ → Type 0 = λ y. Like s (set_collector (put_at s y num) (fields_from s (cursor at from 0))) in
      let V : ℕ → Type 0 = λ y. Sound (set_collector (put_at s y num) (fields_from s (cursor at from 0))) in
      let R : Collector → Type 0 = λ c. Sound (set_collector (put_at s (at + 0) num) c) → Like s (set_collector (put_at s (at + 0) num) c) in
      let e : at + 0 ≡ at = omega arith in
      let top : ℕ → Bool = λ x. leb (s.halves.base + s.halves.high) x in
      subst Q e
      (by_bool {P = Like s (set_collector (put_at s (at + 0) num) (fields_from s (cursor at from 0)))} (ltb 0 (fields_at s at))
      (λ d.
      let q : fields_from s (cursor at from 0) ≡ Field (cursor at from 0) = rw d in
      subst R (sym q)
      (open_like s S at is more (Field (cursor at from 0)) refl
      (λ x m ne. rw is (ap (λ v. leb (s.halves.base + s.halves.high) x || (ltb x at || v)) (and_left (eqb x at) true (ne_eqb x at ne) ∙ sym (and_left (eqb x at) false (ne_eqb x at ne)))))
      (or_right (leb (s.halves.base + s.halves.high) at) (ltb at at || (eqb at at && true)) (or_right (ltb at at) (eqb at at && true) (and_from (eqb at at) true (eq-eqb at at refl) refl)))
      (λ x n m q2 o. rw is o)
      (λ x n m o. rw is at o))
      (subst V (sym e) (opened_sound s S at is more)))
      (λ d.
      let l = ltb-false 0 (fields_at s at) d in
      let q0 : fields_from s (cursor at from 0) ≡ Scan (at + 2 + fields_at s at) = rw d in
      let q1 : at + 2 + fields_at s at ≡ at + size_of s at = omega arith in
      subst R (sym (q0 ∙ ap Scan q1))
      (open_like s S at is more (Scan (at + size_of s at)) refl
      (λ x m ne. rw is (ap (λ v. leb (s.halves.base + s.halves.high) x || v) (front_moves x at (size_of s at) t2 (past s S at is more x m) ∙ ap (λ v. ltb x at || v) (and_left (eqb x at) true (ne_eqb x at ne) ∙ sym (and_left (eqb x at) false (ne_eqb x at ne))))))
      (or_right (leb (s.halves.base + s.halves.high) at) (ltb at (at + size_of s at) || (eqb at (at + size_of s at) && false)) (or_left (ltb at (at + size_of s at)) (eqb at (at + size_of s at) && false) (lt-ltb at (at + size_of s at) (omega arith))))
      (λ x n m q2 o. rw is
      (elim (or3 (leb (s.halves.base + s.halves.high) x) (ltb x (at + size_of s at)) (eqb x (at + size_of s at) && ltb n 0) o) [
        | inl g ↦ or_left (leb (s.halves.base + s.halves.high) x) (ltb x at || (eqb x at && ltb n 0)) g
        | inr g ↦ elim g [
          | inl j ↦
              elim (mem_append x (the_places s) (the_mades s) m) [
                | inl y ↦
                    let lt : x < at + size_of s at = ltb-true x (at + size_of s at) j in
                    let ne : x ≢ at = λ f. let zx : size_of s x ≡ size_of s at = ap (size_of s) f in omega arith in
                    let q3 : x < at = elim (past s S at is more x y) [ inl v ↦ omega arith | inr v ↦ absurd (omega arith) ] in
                    or_right (leb (s.halves.base + s.halves.high) x) (ltb x at || (eqb x at && ltb n 0)) (or_left (ltb x at) (eqb x at && ltb n 0) (lt-ltb x at q3))
                | inr y ↦ or_left (leb (s.halves.base + s.halves.high) x) (ltb x at || (eqb x at && ltb n 0)) (le-leb (s.halves.base + s.halves.high) x (mades_inside _ _ _ S.laid x y).0)
              ]
          | inr j ↦ absurd (omega (arith, ltb-true n 0 (and_parts (eqb x (at + size_of s at)) (ltb n 0) j).1))
        ]
      ]))
      (λ x n m o0.
      let o : (leb (s.halves.base + s.halves.high) x || (ltb x at || (eqb x at && ltb n 0))) ≡ true = rw is at o0 in
      elim (or3 (leb (s.halves.base + s.halves.high) x) (ltb x at) (eqb x at && ltb n 0) o) [
        | inl g ↦ or_left (leb (s.halves.base + s.halves.high) x) (ltb x (at + size_of s at) || (eqb x (at + size_of s at) && ltb n 0)) g
        | inr g ↦ or_right (leb (s.halves.base + s.halves.high) x) (ltb x (at + size_of s at) || (eqb x (at + size_of s at) && ltb n 0)) (or_left (ltb x (at + size_of s at)) (eqb x (at + size_of s at) && ltb n 0)
            (elim g [ inl j ↦ let h = ltb-true x at j in lt-ltb x (at + size_of s at) (omega arith) | inr j ↦ absurd (omega (arith, ltb-true n 0 (and_parts (eqb x at) (ltb n 0) j).1)) ]))
      ]))
      (subst V (sym e) (opened_sound s S at is more))))

  pub field_step_like : (distinct : Apart s) (at from i : ℕ) → s.collector ≡ Field (cursor at from i) → Like s (made s (fitting_field s (cursor at from i)))
  field_step_like distinct at from i is =
      let P : Collector → Type 0 = λ c. At s c in
      let here : At s (Field (cursor at from i)) = subst P is S.at in
      let going : resting s.collector ≡ false = rw is in
      let w = word_at s (from + 2 + i) in
      let T : Transition → Type 0 = λ t. Like s (made s t) in
      let ne : place_of s from ≢ 0 = λ z. let v = here.2 in omega arith in
      let tw = (S.cycle going).twin from here.1 ne in
      let pq : place_of s from - 1 ≡ at = let v = here.2 in omega arith in
      let kinds : kind_at s at ≡ kind_at s from = ap (kind_at s) (sym pq) ∙ tw.kind in
      let sizes : size_of s from ≡ size_of s at = size_is s from ∙ (ap (λ k. 2 + size s.book k) (sym kinds) ∙ sym (size_is s at)) in
      let lf : 2 + i < size_of s from = rw sizes here.3 in
      let we : from + (2 + i) ≡ from + 2 + i = omega arith in
      by_bool (refers s.book (kind_at s from) i)
      (λ e.
      let q : fitting_field s (cursor at from i) ≡ fitting_target (cursor at from i) (target s w) = rw e in
      let g = (S.cycle going).olds_refer from i here.1 lf e in
      subst T (sym q) (go (target s w) here.1 lf we e (forward_sound s S going w g) (forward_like s S going w g)))
      (λ e.
      let q : fitting_field s (cursor at from i) ≡ Word (cursor at from i) = rw e in
      subst T (sym q) (written_like s S distinct at from i w is (λ r. absurd (false≢true (sym e ∙ (rw kinds at r)))) (λ r. ap (λ y. name s (word_at s y)) (sym we), λ r. ap (word_at s) (sym we))))
    where
      go : (d : Target) → mem from (the_olds s) ≡ true → 2 + i < size_of s from → from + (2 + i) ≡ from + 2 + i → refers s.book (kind_at s from) i ≡ true → Forwarded s (state_at s (word_at s (from + 2 + i)) d) (reference_at s (word_at s (from + 2 + i)) d) → ForwardLike s (state_at s (word_at s (from + 2 + i)) d) (word_at s (from + 2 + i)) (reference_at s (word_at s (from + 2 + i)) d) → Like s (made s (fitting_target (cursor at from i) d))
      go Settled kf lf we e f k = written_like s f.sound distinct at from i _ is (λ r. f.leads) (λ r. ap (λ y. name s (word_at s y)) (sym we), λ r. absurd (false≢true (sym r ∙ e)))
      go (Placed p) kf lf we e f k = written_like s f.sound distinct at from i _ is (λ r. f.leads) (λ r. k.means ∙ ap (λ y. name s (word_at s y)) (sym we), λ r. absurd (false≢true (sym r ∙ e)))
      go Unplaced kf lf we e f k =
          let t = state_at s (word_at s (from + 2 + i)) Unplaced in
          let kt : kind_at t from ≡ kind_at s from = k.like.kind from (mem_right from (the_news s) (the_olds s) kf) in
          let et : refers s.book (kind_at t from) i ≡ true = rw kt e in
          let wt : word_at t (from + (2 + i)) ≡ word_at s (from + 2 + i) = k.words from i kf lf ∙ ap (word_at s) we in
          like_trans s t _ k.like
          (written_like t f.sound (like_apart s t k.like distinct) at from i _ is (λ r. f.leads)
          (λ r. k.means ∙ (sym k.was ∙ ap (name t) (sym wt)), λ r. absurd (false≢true (sym r ∙ et))))
