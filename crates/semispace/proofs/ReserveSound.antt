-- Reserving a place keeps the invariant.
use Rattle.std.proofs.Common.{rules, ◌≡◌, ℕ, ◌+◌, ◌-◌, ◌*◌, ◌/◌, ◌%◌, ◌<◌, ◌≤◌, true, false, ◌&&◌, eqb, ltb, ◌≢◌, ◌⊎◌, List, [], ◌++◌, sym, refl, ap, ◌∙◌, subst, ap₂, inl, inr, add_assoc, arith}
use Rattle.std.proofs.lemmas.Bool.{or_cases, or_from, or_left, or_right, and_left, and_right, lt-leb, le-ltb, ne_eqb, cases_eq, true≢false, false≢true}
use Rattle.semispace.specs.declared.collector.Collector.{Collector}
use Rattle.semispace.specs.declared.collector.Collector.TheVariants.{Rest, Slots, Scan, Field}
use Rattle.semispace.specs.Layout.{size_at, mem, placed, Laid}
use Rattle.semispace.specs.Words.{State, set_halves, set_memory, noted, grown, front, filled, own, resting, refers, kind_at, place_of, word_at, next_place, reserved}
use Rattle.semispace.specs.Sound.{the_olds, the_news, the_places, size_of, good, is_open, opened_at, Twin, At, Cycle, Sound}
use Rattle.semispace.proofs.Spreads.{mem_cases, mem_head, mem_append, mem_left, mem_right, placed_room, placed_more, total_append, size_two}
use Rattle.semispace.proofs.Reserving.{places_inside, olds_inside, olds_spread, words_of_news, words_of_olds, sizes_of_news, sizes_of_olds, back_of_place, tag_of_old, lows_after, highs_after, mades_after, places_after, laid_after, side_cases, noted_kind, noted_length}

pub good_more : (xs ys : List ℕ) (r : ℕ) → ((x : ℕ) → mem x xs ≡ true → mem x ys ≡ true) → good xs r ≡ true → good ys r ≡ true
unfolding good
good_more xs ys r h g = elim (or_cases (eqb r 0) (mem (r - 1) xs) g) [ inl e ↦ or_left _ _ e | inr e ↦ or_right _ _ (h (r - 1) e) ]

abbrev pub noted_state : State → ℕ → State
noted_state s o = set_halves (set_memory s (noted s.memory (next_place s) o)) (grown s.halves (size_of s o))

pub reserved_is : (s : State) (o : ℕ) → reserved s o ≡ noted_state s o
unfolding size_at
reserved_is s o = refl

module _ (s : State) (l : Laid s.book s.memory s.halves) where
  -- the front has not passed the places, and an open one is before their end
  pub front_below : (c : Collector) → At s c → resting c ≡ false → (front s.halves.base s.halves.size c ≤ next_place s) × (is_open c ≡ true → front s.halves.base s.halves.size c < next_place s)
  front_below Rest a r = absurd (true≢false r)
  front_below (Slots n) a r = (omega arith, λ e. absurd (false≢true e))
  front_below (Scan at) a r = search (rules, arith, mem_append, places_inside, mem_cases)
  front_below (Field c) a r = let x = places_inside _ _ _ l c.at a.0 in let y = size_two s.book s.memory c.at in (omega arith, λ e. omega arith)

module _ (s : State) (S : Sound s) (going : resting s.collector ≡ false) (o : ℕ) (is_old : mem o (the_olds s) ≡ true) (none : place_of s o ≡ 0) where
  pub room_for : s.halves.low + size_of s o ≤ s.halves.high
  room_for = grind (arith, placed_room, total_append)

  pub unopened : opened_at s.halves s.collector (next_place s) ≡ false
  unopened = search (rules, arith, front_below, room_for, size_two, or_from, lt-leb, le-ltb, and_left, ne_eqb, and_right)

  pub not_own : (i : ℕ) → own s.halves s.collector (next_place s) i ≡ false
  not_own i =
      let f = front_below s S.laid s.collector S.at going in
      let r = room_for in
      let t = size_two s.book s.memory o in
      or_from _ _ (lt-leb _ _ (omega arith))
      (or_from _ _ (le-ltb _ _ f.0) (filled_none s.collector f.1))
    where
      filled_none : (c : Collector) → (is_open c ≡ true → front s.halves.base s.halves.size c < next_place s) → (eqb (next_place s) (front s.halves.base s.halves.size c) && ltb i (filled c)) ≡ false
      filled_none Rest f = and_right _ _ (le-ltb i 0 (omega arith))
      filled_none (Slots n) f = and_right _ _ (le-ltb i 0 (omega arith))
      filled_none (Scan at) f = and_right _ _ (le-ltb i 0 (omega arith))
      filled_none (Field c) f = and_left _ _ (ne_eqb (next_place s) c.at (λ d. omega (arith, f refl)))

  pub olds_after : the_olds (noted_state s o) ≡ the_olds s
  olds_after = ap₂ (λ xs ys. xs ++ ys) (lows_after _ _ _ S.laid o is_old room_for) (highs_after _ _ _ S.laid o is_old room_for)

  pub news_kept : (x : ℕ) → mem x (the_news s) ≡ true → mem x (the_news (noted_state s o)) ≡ true
  news_kept x k = grind (arith, places_after, room_for, mades_after, mem_append, mem_left, mem_right)

  pub places_kept : (x : ℕ) → mem x (the_places s) ≡ true → mem x (the_places (noted_state s o)) ≡ true
  places_kept x k = rw (places_after _ _ _ S.laid o is_old room_for) (mem_left x _ _ k)

  pub place_there : mem (next_place s) (the_places (noted_state s o)) ≡ true
  place_there = rw (places_after _ _ _ S.laid o is_old room_for) (mem_right (next_place s) (the_places s) _ (mem_head (next_place s) []))

  pub places_cases : (x : ℕ) → mem x (the_places (noted_state s o)) ≡ true → (mem x (the_places s) ≡ true) ⊎ (x ≡ next_place s)
  places_cases x k = search (rules, arith, mem_append, places_after, room_for, mem_cases)

  pub words_news : (x j : ℕ) → mem x (the_news s) ≡ true → j < size_of s x → word_at (noted_state s o) (x + j) ≡ word_at s (x + j)
  words_news x j k lt = words_of_news _ _ _ S.laid o is_old room_for x j k lt

  pub words_olds : (x j : ℕ) → mem x (the_olds s) ≡ true → j < size_of s x → ((x ≡ o) × (j ≡ 1) → ⊥) → word_at (noted_state s o) (x + j) ≡ word_at s (x + j)
  words_olds x j k lt ne = words_of_olds _ _ _ S.laid o is_old room_for x j k lt ne

  pub in_news : (x : ℕ) → mem x (the_places s) ≡ true → mem x (the_news s) ≡ true
  in_news x k = mem_left x _ _ k

  -- heads
  pub head_news : (x : ℕ) → mem x (the_news s) ≡ true → word_at (noted_state s o) x ≡ word_at s x
  head_news x k = let w = words_news x 0 k (omega (arith, size_two s.book s.memory x)) in let e : x + 0 ≡ x = omega arith in rw e at w

  pub head_olds : (x : ℕ) → mem x (the_olds s) ≡ true → word_at (noted_state s o) x ≡ word_at s x
  head_olds x k = let w = words_olds x 0 k (omega (arith, size_two s.book s.memory x)) (λ d. omega (arith, d.1)) in let e : x + 0 ≡ x = omega arith in rw e at w

  -- tags
  pub tag_news : (x : ℕ) → mem x (the_news s) ≡ true → word_at (noted_state s o) (x + 1) ≡ word_at s (x + 1)
  tag_news x k = words_news x 1 k (omega (arith, size_two s.book s.memory x))

  pub tag_olds : (x : ℕ) → mem x (the_olds s) ≡ true → x ≢ o → word_at (noted_state s o) (x + 1) ≡ word_at s (x + 1)
  tag_olds x k ne = words_olds x 1 k (omega (arith, size_two s.book s.memory x)) (λ d. ne d.0)

  pub tag_o : word_at (noted_state s o) (o + 1) ≡ word_at s (o + 1) % 16 + 16 * (next_place s + 1)
  tag_o = tag_of_old _ _ _ S.laid o is_old room_for

  pub place_o : place_of (noted_state s o) o ≡ next_place s + 1
  place_o = omega (arith, tag_o)

  pub kind_olds : (x : ℕ) → mem x (the_olds s) ≡ true → kind_at (noted_state s o) x ≡ kind_at s x
  kind_olds x k = elim (cases_eq x o) [ inl e ↦ rw e (omega (arith, tag_o)) | inr e ↦ ap (λ w. w % 16) (tag_olds x k e) ]

  pub kind_news : (x : ℕ) → mem x (the_news s) ≡ true → kind_at (noted_state s o) x ≡ kind_at s x
  kind_news x k = ap (λ w. w % 16) (tag_news x k)

  pub kind_place : kind_at (noted_state s o) (next_place s) ≡ kind_at s o
  kind_place = search (rules, arith, olds_inside, size_two, room_for, noted_kind, side_cases)

  pub tag_place : place_of (noted_state s o) (next_place s) ≡ 0
  tag_place = search (rules, arith, olds_inside, size_two, room_for, noted_kind, side_cases)

  pub back_place : word_at (noted_state s o) (next_place s) ≡ o + 1
  back_place = back_of_place _ _ _ S.laid o is_old room_for

  pub goods_kept : (r : ℕ) → good (the_news s ++ the_olds s) r ≡ true → good (the_news (noted_state s o) ++ the_olds (noted_state s o)) r ≡ true
  goods_kept r g = search (rules, arith, good_more, mem_append, mem_left, news_kept, mem_right, olds_after)

  pub twin_o : Twin (noted_state s o) o (next_place s)
  twin_o = search (rules, arith, place_there, kind_place, kind_olds, back_place, unopened)

  pub twin_other : (x p : ℕ) → mem x (the_olds s) ≡ true → Twin s x p → Twin (noted_state s o) x p
  twin_other x p k t = record {
    inside = places_kept p t.inside;
    kind = kind_news p (in_news p t.inside) ∙ (t.kind ∙ sym (kind_olds x k));
    back = λ u. head_news p (in_news p t.inside) ∙ t.back u;
    head = λ u. head_news p (in_news p t.inside) ∙ (t.head u ∙ sym (head_olds x k));
  }

  pub twins_after : (x : ℕ) → mem x (the_olds (noted_state s o)) ≡ true → place_of (noted_state s o) x ≢ 0 → Twin (noted_state s o) x (place_of (noted_state s o) x - 1)
  twins_after x k0 ne =
      let k : mem x (the_olds s) ≡ true = rw olds_after at k0 in
      elim (cases_eq x o) [
        | inl e ↦
            let q : place_of (noted_state s o) x - 1 ≡ next_place s = rw e (omega (arith, place_o)) in
            let P : ℕ → Type 0 = λ p. Twin (noted_state s o) x p in
            let Q : ℕ → Type 0 = λ y. Twin (noted_state s o) y (next_place s) in
            subst P (sym q) (subst Q (sym e) twin_o)
        | inr e ↦
            let q : place_of (noted_state s o) x ≡ place_of s x = ap (λ w. w / 16) (tag_olds x k e) in
            let P : ℕ → Type 0 = λ p. Twin (noted_state s o) x (p - 1) in
            subst P (sym q) (twin_other x (place_of s x - 1) k ((S.cycle going).twin x k (λ z. ne (q ∙ z))))
      ]

  pub backs_after : (p : ℕ) → mem p (the_places (noted_state s o)) ≡ true → opened_at s.halves s.collector p ≡ false → (0 < word_at (noted_state s o) p) × (mem (word_at (noted_state s o) p - 1) (the_olds (noted_state s o)) ≡ true) × (place_of (noted_state s o) (word_at (noted_state s o) p - 1) ≡ p + 1)
  backs_after p k u =
      elim (places_cases p k) [
        | inl e ↦
            let b = (S.cycle going).back p e u in
            let w = head_news p (in_news p e) in
            let ne : word_at s p - 1 ≢ o = λ d. let z : place_of s o ≡ p + 1 = rw d at b.2 in omega (arith, none) in
            rw (w, olds_after) (b.0, b.1, ap (λ v. v / 16) (tag_olds (word_at s p - 1) b.1 ne) ∙ b.2)
        | inr e ↦
            let w = back_place in
            let v : o + 1 - 1 ≡ o = omega arith in
            rw (e, w, v, olds_after) (omega arith, is_old, place_o)
      ]

  pub at_after : (c : Collector) → At s c → At (noted_state s o) c
  at_after Rest a = a
  at_after (Slots n) a = a
  at_after (Scan at) a = search (rules, arith, mem_append, mem_left, places_kept, mem_cases, place_there)
  at_after (Field c) a =
      let ne : c.from ≢ o = λ d. let z : place_of s o ≡ c.at + 1 = rw d at a.2 in omega (arith, none) in
      (places_kept c.at a.0, rw olds_after a.1, ap (λ v. v / 16) (tag_olds c.from a.1 ne) ∙ a.2, rw (sizes_of_news _ _ _ S.laid o is_old room_for c.at (in_news c.at a.0)) a.3)

  pub olds_refer_after : (x i : ℕ) → mem x (the_olds (noted_state s o)) ≡ true → 2 + i < size_of (noted_state s o) x → refers s.book (kind_at (noted_state s o) x) i ≡ true → good (the_news (noted_state s o) ++ the_olds (noted_state s o)) (word_at (noted_state s o) (x + 2 + i)) ≡ true
  olds_refer_after x i k0 lt0 r0 =
      let k : mem x (the_olds s) ≡ true = rw olds_after at k0 in
      let lt : 2 + i < size_of s x = rw (sizes_of_olds _ _ _ S.laid o is_old room_for x k) at lt0 in
      let r : refers s.book (kind_at s x) i ≡ true = rw (kind_olds x k) at r0 in
      let a = words_olds x (2 + i) k lt (λ d. omega (arith, d.1)) in
      let w : word_at (noted_state s o) (x + 2 + i) ≡ word_at s (x + 2 + i) = rw (add_assoc x 2 i) a in
      rw w (goods_kept (word_at s (x + 2 + i)) ((S.cycle going).olds_refer x i k lt r))

  pub news_cases : (x : ℕ) → mem x (the_news (noted_state s o)) ≡ true → (mem x (the_news s) ≡ true) ⊎ (x ≡ next_place s)
  news_cases x k = search (rules, arith, mem_append, places_cases, in_news, mem_right, mades_after, room_for)

  pub news_refer_after : (x i : ℕ) → mem x (the_news (noted_state s o)) ≡ true → 2 + i < size_of (noted_state s o) x → own s.halves s.collector x i ≡ true → refers s.book (kind_at (noted_state s o) x) i ≡ true → good (the_news (noted_state s o)) (word_at (noted_state s o) (x + 2 + i)) ≡ true
  news_refer_after x i k0 lt0 ow r0 =
      elim (news_cases x k0) [
        | inl k ↦
            let lt : 2 + i < size_of s x = rw (sizes_of_news _ _ _ S.laid o is_old room_for x k) at lt0 in
            let r : refers s.book (kind_at s x) i ≡ true = rw (kind_news x k) at r0 in
            let w : word_at (noted_state s o) (x + 2 + i) ≡ word_at s (x + 2 + i) = rw (add_assoc x 2 i) (words_news x (2 + i) k lt) in
            rw w (good_more _ _ (word_at s (x + 2 + i)) news_kept (S.news_refer x i k lt ow r))
        | inr e ↦ absurd (false≢true (sym (not_own i) ∙ (rw e at ow)))
      ]

  pub sum_after : placed s.book (noted_state s o).memory (the_olds (noted_state s o)) ≡ s.halves.low + size_of s o
  sum_after =
      let q = placed_more s.book s.memory (noted_state s o).memory _ _ o (the_olds s) (olds_spread _ _ _ S.laid) is_old
      (λ x k. sizes_of_olds _ _ _ S.laid o is_old room_for x k) tag_olds none (λ z. omega (arith, place_o)) in
      rw olds_after (q ∙ ap (λ v. v + size_of s o) (S.cycle going).sum)

  pub cycle_after : Cycle (noted_state s o)
  cycle_after = record {
    sum = sum_after;
    room = (S.cycle going).room;
    twin = twins_after;
    back = backs_after;
    olds_refer = olds_refer_after;
    slots_refer = λ n lt. goods_kept _ ((S.cycle going).slots_refer n lt);
  }

  pub sound_after : Sound (noted_state s o)
  sound_after = record {
    bounds = omega (arith, S.bounds, noted_length s.memory (next_place s) o, room_for);
    laid = laid_after _ _ _ S.laid o is_old room_for;
    enough = S.enough;
    at = at_after s.collector S.at;
    rest = λ r. absurd (false≢true (sym going ∙ r));
    cycle = λ r. cycle_after;
    news_refer = news_refer_after;
    slots_passed = λ n lt q. good_more _ _ _ news_kept (S.slots_passed n lt q);
    plain = λ x k. elim (news_cases x k) [ inl e ↦ ap (λ w. w / 16) (tag_news x e) ∙ S.plain x e | inr e ↦ rw e tag_place ];
  }
