-- What a transition does to the steps that are due.
use Rattle.std.proofs.Common.{◌≡◌, ℕ, zero, suc, ◌+◌, ◌-◌, ◌<◌, ◌≤◌, Bool, true, false, ◌&&◌, ◌||◌, eqb, ltb, leb, ◌≢◌, ◌⊎◌, sym, refl, ap, ◌∙◌, subst, inl, inr, arith}
use Rattle.std.proofs.lemmas.Bool.{or_from, or_left, or_right, and_right, ltb-true, lt-leb, lt-ltb, and_from, and_parts, le-ltb, eq-eqb, ne_eqb, cases_eq, false≢true}
use Rattle.graph.specs.Graph.{size}
use Rattle.semispace.specs.declared.collector.Collector.{Collector}
use Rattle.semispace.specs.declared.collector.Collector.TheVariants.{Scan, Field}
use Rattle.semispace.specs.Layout.{mem}
use Rattle.semispace.specs.Words.{cursor, home, State, target, state_at, reference_at, opened, made, fitting_target, fitting_field, put_at, set_collector, written, fields_from, fields_at, own, resting, refers, kind_at, place_of, word_at, next_place}
use Rattle.semispace.specs.Sound.{the_olds, the_news, the_places, size_of, opened_at, Twin, At, Sound, number, value, name, shown}
use Rattle.semispace.specs.declared.collector.Target.{Target}
use Rattle.semispace.specs.declared.collector.Target.TheVariants.{Settled, Placed, Unplaced}
use Rattle.semispace.specs.declared.collector.Transition.{Transition}
use Rattle.semispace.specs.declared.collector.Transition.TheVariants.{Word}
use Rattle.semispace.specs.Dues.{objects, names_below, edge, lives, opened_record, slots_left, fields_left}
use Rattle.semispace.specs.Graphs.{Known}
use Rattle.semispace.proofs.Spreads.{by_bool, mem_append, mem_left, mem_right, size_two}
use Rattle.semispace.proofs.Reserving.{places_inside}
use Rattle.semispace.proofs.ReserveAgree.{new_leads, old_leads_not}
use Rattle.semispace.proofs.Putting.{all, news_put}
use Rattle.semispace.proofs.SlotSound.{Forwarded, forward_sound}
use Rattle.semispace.proofs.FieldNext.{or3}
use Rattle.semispace.proofs.OpenSound.{from_old, at_in}
use Rattle.semispace.proofs.Stepping.{size_is, opened_sound}
use Rattle.semispace.proofs.Homes.{size_by_kind, twin_number}
use Rattle.semispace.proofs.Like.{the_mades, objs, Like, objs_all}
use Rattle.semispace.proofs.Likes.{like_size, ForwardLike, name_of, forward_like}
use Rattle.semispace.proofs.StepLike.{opened_like, field_step_like}
use Rattle.semispace.proofs.Knowing.{objects_cycle, known_apart, known_like}
use Rattle.semispace.proofs.Less.{Less, less_trans, root_new, lives_root, lives_edge, opened_from, opened_is, less_like, opened_less}
use Rattle.semispace.proofs.Gaining.{objs_apart, due_is, forward_less, Steps, Gain, gained, write_gain}
use Rattle.semispace.proofs.Sourcing.{source_of}

pub names_from : (s : State) (a n k i : ℕ) → i < k → refers s.book (kind_at s a) i ≡ true → shown s a i ≡ n → names_below s a n k ≡ true
unfolding names_below
names_from s a n zero i l r e = absurd (omega arith)
names_from s a n (suc k) i l r e =
    elim (cases_eq i k) [
      | inl d ↦ or_right (names_below s a n k) _ (let r2 : refers s.book (kind_at s a) k ≡ true = rw d at r in let e2 : shown s a k ≡ n = rw d at e in and_from (refers s.book (kind_at s a) k) (eqb (shown s a k) n) r2 (eq-eqb (shown s a k) n e2))
      | inr d ↦ or_left (names_below s a n k) _ (names_from s a n k i (omega arith) r e)
    ]

pub edge_from : (s : State) (a b i : ℕ) → 2 + i < size_of s a → refers s.book (kind_at s a) i ≡ true → shown s a i ≡ number s b → edge s a b ≡ true
unfolding edge
edge_from s a b i l r e = names_from s a (number s b) (size_of s a - 2) i (omega arith) r e

pub shown_reference : (s : State) (a i : ℕ) → refers s.book (kind_at s a) i ≡ true → shown s a i ≡ name s (value s a i)
unfolding shown
shown_reference s a i r = rw r

module _ (s : State) (S : Sound s) (K : Known s) where
  -- The record that the open one names lives.
  pub field_lives : (at from i : ℕ) → s.collector ≡ Field (cursor at from i) → refers s.book (kind_at s from) i ≡ true → (o : ℕ) → mem o (the_olds s) ≡ true → word_at s (from + 2 + i) ≡ o + 1 → 2 + i < size_of s from → lives s o ≡ true
  field_lives at from i is r o ko e lf =
      let P : Collector → Type 0 = λ c. At s c in
      let here : At s (Field (cursor at from i)) = subst P is S.at in
      let going : resting s.collector ≡ false = rw is in
      let ne : place_of s from ≢ 0 = λ z. let v = here.2 in omega arith in
      let pq : place_of s from - 1 ≡ at = let v = here.2 in omega arith in
      let Q : ℕ → Type 0 = λ y. Twin s from y in
      let tw : Twin s from at = subst Q pq ((S.cycle going).twin from here.1 ne) in
      let kn : mem at (the_news s) ≡ true = mem_left at (the_places s) (the_mades s) here.0 in
      let lf0 = lives_root s from (root_new s at from kn (twin_number s S from at here.1 tw)) in
      let q = places_inside _ _ _ S.laid at here.0 in
      let nown : own s.halves s.collector (place_of s from - 1) i ≡ false =
      rw (pq, is) (or_from (leb (s.halves.base + s.halves.high) at) (ltb at at || (eqb at at && ltb i i)) (lt-leb (s.halves.base + s.halves.high) at (omega (arith, size_two s.book s.memory at, S.laid.ends)))
      (or_from (ltb at at) (eqb at at && ltb i i) (le-ltb at at (omega arith)) (and_right (eqb at at) (ltb i i) (le-ltb i i (omega arith))))) in
      let hs : home s from i ≡ from = rw (old_leads_not s S.laid from here.1, ne_eqb (place_of s from) 0 ne, nown) in
      let we : from + (2 + i) ≡ from + 2 + i = omega arith in
      let vs : value s from i ≡ o + 1 = value_at from i from hs ∙ (ap (word_at s) we ∙ e) in
      let sh : shown s from i ≡ number s o = shown_reference s from i r ∙ name_of s (value s from i) o vs in
      let kf : mem from (objects s) ≡ true = rw (objects_cycle s going) (mem_left from (the_olds s) (the_mades s) here.1) in
      let kk : mem o (objects s) ≡ true = rw (objects_cycle s going) (mem_left o (the_olds s) (the_mades s) ko) in
      lives_edge s from o kf kk lf0 (edge_from s from o i lf r sh)
    where
      value_at : (a i h : ℕ) → home s a i ≡ h → value s a i ≡ word_at s (h + (2 + i))
      value_at a i h e = unfold value in ap (λ y. word_at s (y + (2 + i))) e

  pub field_gain : (at from i : ℕ) → s.collector ≡ Field (cursor at from i) → Gain s (made s (fitting_field s (cursor at from i)))
  field_gain at from i is =
      let P : Collector → Type 0 = λ c. At s c in
      let here : At s (Field (cursor at from i)) = subst P is S.at in
      let going : resting s.collector ≡ false = rw is in
      let distinct = known_apart s K going in
      let w = word_at s (from + 2 + i) in
      let T : Transition → Type 0 = λ t. Less s (made s t) × Steps (made s t) (size_of s at - 2 - i) in
      let ne : place_of s from ≢ 0 = λ z. let v = here.2 in omega arith in
      let tw = (S.cycle going).twin from here.1 ne in
      let pq : place_of s from - 1 ≡ at = let v = here.2 in omega arith in
      let kinds : kind_at s at ≡ kind_at s from = ap (kind_at s) (sym pq) ∙ tw.kind in
      let sizes : size_of s from ≡ size_of s at = size_is s from ∙ (ap (λ k. 2 + size s.book k) (sym kinds) ∙ sym (size_is s at)) in
      let lf : 2 + i < size_of s from = rw sizes here.3 in
      let we : from + (2 + i) ≡ from + 2 + i = omega arith in
      let c0 : slots_left s s.collector + fields_left s s.collector ≡ size_of s at - 2 - i = rw is (omega arith) in
      let L = field_step_like s S distinct at from i is in
      let x : T (fitting_field s (cursor at from i)) =
      by_bool (refers s.book (kind_at s from) i)
      (λ e.
      let q : fitting_field s (cursor at from i) ≡ fitting_target (cursor at from i) (target s w) = rw e in
      let g = (S.cycle going).olds_refer from i here.1 lf e in
      let lw = forward_less s S K going w g (λ d k. field_lives at from i is e (w - 1) k d lf) in
      subst T (sym q) (go (target s w) here.0 here.1 lf we e (forward_sound s S going w g) (forward_like s S going w g) lw))
      (λ e.
      let q : fitting_field s (cursor at from i) ≡ Word (cursor at from i) = rw e in
      subst T (sym q) (write_gain s S K at from i w is (λ r. absurd (false≢true (sym e ∙ (rw kinds at r)))) (λ r. ap (λ y. name s (word_at s y)) (sym we), λ r. ap (word_at s) (sym we)))) in
      gained s (made s (fitting_field s (cursor at from i))) (size_of s at - 2 - i) going L.going c0 x.1 x.0
    where
      go : (d : Target) → mem at (the_places s) ≡ true → mem from (the_olds s) ≡ true → 2 + i < size_of s from → from + (2 + i) ≡ from + 2 + i → refers s.book (kind_at s from) i ≡ true → Forwarded s (state_at s (word_at s (from + 2 + i)) d) (reference_at s (word_at s (from + 2 + i)) d) → ForwardLike s (state_at s (word_at s (from + 2 + i)) d) (word_at s (from + 2 + i)) (reference_at s (word_at s (from + 2 + i)) d) → Less s (state_at s (word_at s (from + 2 + i)) d) → Less s (made s (fitting_target (cursor at from i) d)) × Steps (made s (fitting_target (cursor at from i) d)) (size_of s at - 2 - i)
      go Settled ka kf lf we e f k lw = write_gain s f.sound K at from i _ is (λ r. f.leads) (λ r. ap (λ y. name s (word_at s y)) (sym we), λ r. absurd (false≢true (sym r ∙ e)))
      go (Placed p) ka kf lf we e f k lw = write_gain s f.sound K at from i _ is (λ r. f.leads) (λ r. k.means ∙ ap (λ y. name s (word_at s y)) (sym we), λ r. absurd (false≢true (sym r ∙ e)))
      go Unplaced ka kf lf we e f k lw =
          let t = state_at s (word_at s (from + 2 + i)) Unplaced in
          let kt : kind_at t from ≡ kind_at s from = k.like.kind from (mem_right from (the_news s) (the_olds s) kf) in
          let et : refers s.book (kind_at t from) i ≡ true = rw kt e in
          let wt : word_at t (from + (2 + i)) ≡ word_at s (from + 2 + i) = k.words from i kf lf ∙ ap (word_at s) we in
          let z : size_of t at ≡ size_of s at = like_size s t k.like at (mem_left at (the_news s) (the_olds s) (mem_left at (the_places s) (the_mades s) ka)) in
          let x = write_gain t f.sound (known_like s t (rw is) K k.like) at from i (next_place s + 1) is (λ r. f.leads)
          (λ r. k.means ∙ (sym k.was ∙ ap (name t) (sym wt)), λ r. absurd (false≢true (sym r ∙ et))) in
          let x1 = x.1 in
          (less_trans s t _ lw x.0, (let N : ℕ → Type 0 = λ n. Steps (written t (cursor at from i) (next_place s + 1)) (n - 2 - i) in subst N z x1))

  -- Open.
  module _ (at : ℕ) (is : s.collector ≡ Scan at) (more : ltb at (next_place s) ≡ true) where
    goes : resting s.collector ≡ false
    goes = rw is

    at_place : mem at (the_places s) ≡ true
    at_place = at_in s S at is more

    at_new : mem at (the_news s) ≡ true
    at_new = mem_left at (the_places s) (the_mades s) at_place

    at_all : mem at (all s) ≡ true
    at_all = mem_left at (the_news s) (the_olds s) at_new

    closed_at : opened_at s.halves s.collector at ≡ false
    closed_at = grind (arith, ltb-true, or_from, lt-leb, le-ltb, and_right)

    abbrev o : ℕ
    o = word_at s at - 1

    o_old : mem o (the_olds s) ≡ true
    o_old = (from_old s S at is more).1

    o_place : place_of s o ≡ at + 1
    o_place = (from_old s S at is more).2

    twin_of : (f p : ℕ) → mem f (the_olds s) ≡ true → place_of s f ≡ p + 1 → Twin s f p
    twin_of f p k e =
        let P : ℕ → Type 0 = λ q. Twin s f q in
        let v : place_of s f - 1 ≡ p = omega arith in
        subst P v ((S.cycle goes).twin f k (λ z. omega arith))

    o_objs : mem o (objs s) ≡ true
    o_objs = mem_left o (the_olds s) (the_mades s) o_old

    o_number : number s at ≡ number s o
    o_number = twin_number s S o at o_old (twin_of o at o_old o_place)

    o_lives : lives s o ≡ true
    o_lives = lives_root s o (root_new s at o at_new o_number)

    o_shut : opened_record s o ≡ false
    o_shut =
        by_bool (opened_record s o)
        (λ h.
        let w = opened_is s o h in
        let p = w.0 in
        absurd (elim (mem_append p (the_places s) (the_mades s) w.1) [
          | inl e ↦
              let q = source_of s p (K.sourced goes p e) in
              let n : number s p ≡ number s q.from = twin_number s S q.from p q.old (twin_of q.from p q.old q.place) in
              let same : q.from ≡ o = objs_apart s S K goes q.from o (mem_left q.from (the_olds s) (the_mades s) q.old) o_objs (sym n ∙ w.2) in
              let pl : place_of s o ≡ p + 1 = ap (place_of s) (sym same) ∙ q.place in
              let pp : p ≡ at = let a = o_place in omega arith in
              false≢true (sym closed_at ∙ (ap (opened_at s.halves s.collector) (sym pp) ∙ w.3))
          | inr e ↦
              let same : p ≡ o = objs_apart s S K goes p o (mem_right p (the_olds s) (the_mades s) e) o_objs w.2 in
              let eo : mem o (the_mades s) ≡ true = rw same at e in
              false≢true (sym (old_leads_not s S.laid o o_old) ∙ new_leads s S.laid o (mem_right o (the_places s) (the_mades s) eo))
        ]))
        (λ h. h)

    o_size : size_of s o ≡ size_of s at
    o_size = size_by_kind s o at (sym (twin_of o at o_old o_place).kind)

    open_gain_at : (c : Collector) → fields_from s (cursor at o 0) ≡ c → (L : Like s (set_collector (put_at s at (word_at s o)) c)) → Sound (set_collector (put_at s at (word_at s o)) c) → Gain s (set_collector (put_at s at (word_at s o)) c)
    open_gain_at c q L U =
        let u = set_collector (put_at s at (word_at s o)) c in
        let top : ℕ → Bool = λ p. leb (s.halves.base + s.halves.high) p in
        let e0 : at + 0 ≡ at = omega arith in
        let N : ℕ → Type 0 = λ y. the_news (set_collector (put_at s y (word_at s o)) c) ≡ the_news s in
        let nw : the_news u ≡ the_news s = subst N e0 (news_put s S.laid at 0 (word_at s o) at_all (omega (arith, size_two s.book s.memory at)) (omega arith)) in
        let zf = size_is s at in
        let zu = like_size s u L at at_all in
        let here : (opened_at s.halves c at ≡ true) × ((p : ℕ) → mem p (the_news s) ≡ true → opened_at s.halves s.collector p ≡ true → opened_at s.halves c p ≡ true) × (slots_left u c + fields_left u c ≤ size_of s at - 2) =
        by_bool (ltb 0 (fields_at s at))
        (λ d.
        let c1 : c ≡ Field (cursor at o 0) = sym q ∙ (rw d) in (
          rw c1 (or_right (leb (s.halves.base + s.halves.high) at) (ltb at at || (eqb at at && true)) (or_right (ltb at at) (eqb at at && true) (and_from (eqb at at) true (eq-eqb at at refl) refl))),
          (λ p k h.
              let h2 : (leb (s.halves.base + s.halves.high) p || (ltb p at || (eqb p at && false))) ≡ true = rw is at h in
              rw c1 (elim (or3 (leb (s.halves.base + s.halves.high) p) (ltb p at) (eqb p at && false) h2) [
                | inl g ↦ or_left (leb (s.halves.base + s.halves.high) p) (ltb p at || (eqb p at && true)) g
                | inr g ↦ or_right (leb (s.halves.base + s.halves.high) p) (ltb p at || (eqb p at && true)) (elim g [ inl j ↦ or_left (ltb p at) (eqb p at && true) j | inr j ↦ absurd (false≢true (and_parts (eqb p at) false j).1) ])
              ])),
          rw c1 (omega arith),
        ))
        (λ d.
        let c1 : c ≡ Scan (at + 2 + fields_at s at) = sym q ∙ (rw d) in
        let f = at + 2 + fields_at s at in (
          rw c1 (or_right (leb (s.halves.base + s.halves.high) at) (ltb at f || (eqb at f && false)) (or_left (ltb at f) (eqb at f && false) (lt-ltb at f (omega arith)))),
          (λ p k h.
              let h2 : (leb (s.halves.base + s.halves.high) p || (ltb p at || (eqb p at && false))) ≡ true = rw is at h in
              rw c1 (elim (or3 (leb (s.halves.base + s.halves.high) p) (ltb p at) (eqb p at && false) h2) [
                | inl g ↦ or_left (leb (s.halves.base + s.halves.high) p) (ltb p f || (eqb p f && false)) g
                | inr g ↦ or_right (leb (s.halves.base + s.halves.high) p) (ltb p f || (eqb p f && false)) (or_left (ltb p f) (eqb p f && false) (elim g [ inl j ↦ let v = ltb-true p at j in lt-ltb p f (omega arith) | inr j ↦ absurd (false≢true (and_parts (eqb p at) false j).1) ]))
              ])),
          rw c1 (omega arith),
        )) in
        let rooted = λ (p : ℕ) (k : mem p (the_news u) ≡ true). inl_news u nw p k in
        let yea : opened_record u o ≡ true = opened_from u at o (L.news at at_new) (L.number at at_all ∙ (o_number ∙ sym (L.number o (objs_all s o o_objs)))) here.0 in
        let ko : mem o (objects s) ≡ true = rw (objects_cycle s goes) o_objs in
        let ls = less_like s u S U goes L rooted (objs_apart s S K goes) here.1 in
        let ol = opened_less s u S U goes L rooted (objs_apart s S K goes) here.1 o ko o_lives o_shut yea in
        let ds = due_is s goes in
        let du = due_is u L.going in
        let z = o_size in
        let t2 = size_two s.book s.memory at in
        let h2 = here.2 in
        record { kept = ls.kept; due = omega arith }
      where
        inl_news : (u : State) → the_news u ≡ the_news s → (p : ℕ) → mem p (the_news u) ≡ true → (mem p (the_news s) ≡ true) ⊎ ((b : ℕ) × (mem b (objs s) ≡ true) × (number u p ≡ number s b) × (lives s b ≡ true))
        inl_news u n p k = inl (rw n at k)

    pub open_gain : Gain s (opened s at)
    open_gain = open_gain_at (fields_from s (cursor at o 0)) refl (opened_like s S at is more) (opened_sound s S at is more)
