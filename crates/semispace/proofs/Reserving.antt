-- The words of a reserved place, and the layout after it.
use Rattle.std.proofs.Common.{rules, ◌≡◌, ℕ, ◌+◌, ◌*◌, ◌%◌, ◌<◌, ◌≤◌, true, eqb, ◌≢◌, ◌⊎◌, List, [], ◌∷◌, ◌++◌, length, get_or, set, ap, ◌∙◌, inl, inr, arith}
use Rattle.std.proofs.lemmas.Bool.{eqb-true, or_cases, cases_eq}
use Rattle.std.proofs.lemmas.List.{get_or-set_same, get_or-set_other, length-set}
use Rattle.kinds.specs.Shapes.{Shape}
use Rattle.graph.specs.Graph.{size}
use Rattle.semispace.specs.declared.halves.Halves.{Halves}
use Rattle.semispace.specs.Layout.{size_at, mem, starts, Spread, total, old_base, lows, highs, places, mades, olds, news, Laid}
use Rattle.semispace.specs.Words.{noted, grown}
use Rattle.semispace.proofs.Spreads.{mem_append, mem_left, mem_right, spread_inside, separate, spread_starts, spread_append, starts_push, starts_same, total_same, total_append, size_two}

-- What a note of a place leaves of memory's words.
module _ (m : List ℕ) (p o : ℕ) where
  pub noted_length : length (noted m p o) ≡ length m
  noted_length = simp length-set

  pub noted_other : (x : ℕ) → x ≢ p → x ≢ p + 1 → x ≢ o + 1 → get_or (noted m p o) x 0 ≡ get_or m x 0
  noted_other x a b c = rw (get_or-set_other, get_or-set_other, get_or-set_other)

  pub noted_tag : o + 1 < length m → get_or (noted m p o) (o + 1) 0 ≡ get_or m (o + 1) 0 % 16 + 16 * (p + 1)
  noted_tag l = get_or-set_same (set (set m p (o + 1)) (p + 1) (get_or m (o + 1) 0 % 16)) (o + 1) (get_or m (o + 1) 0 % 16 + 16 * (p + 1)) 0 (simp length-set l)

  pub noted_kind : p + 1 < length m → p ≢ o → get_or (noted m p o) (p + 1) 0 ≡ get_or m (o + 1) 0 % 16
  noted_kind l ne = grind (arith, get_or-set_other, get_or-set_same, length-set)

  pub noted_back : p < length m → p ≢ o + 1 → get_or (noted m p o) p 0 ≡ o + 1
  noted_back l n1 = grind (arith, get_or-set_other, get_or-set_same)

module _ (b : List Shape) (m : List ℕ) (h : Halves) (l : Laid b m h) where
  pub side_cases : (h.base ≡ 0) ⊎ (h.base ≡ h.size)
  side_cases = elim (or_cases (eqb h.base 0) (eqb h.base h.size) l.side) [ inl e ↦ inl (eqb-true _ _ e) | inr e ↦ inr (eqb-true _ _ e) ]

  pub olds_spread : Spread b m (old_base h) (old_base h + h.size) (olds b m h)
  olds_spread =
      spread_append b m _ (old_base h + h.old_low) (old_base h + h.old_high) _ _ _
      (spread_starts b m (h.size + 1) _ _ l.lows_fill)
      (omega arith)
      (spread_starts b m (h.size + 1) _ _ l.highs_fill)

  pub news_spread : Spread b m h.base (h.base + h.size) (news b m h)
  news_spread =
      spread_append b m _ (h.base + h.low) (h.base + h.high) _ _ _
      (spread_starts b m (h.size + 1) _ _ l.places_fill)
      (omega arith)
      (spread_starts b m (h.size + 1) _ _ l.mades_fill)

  pub places_inside : (x : ℕ) → mem x (places b m h) ≡ true → (h.base ≤ x) × (x + size_at b m x ≤ h.base + h.low)
  places_inside x k = spread_inside b m _ _ x _ (spread_starts b m (h.size + 1) _ _ l.places_fill) k

  pub mades_inside : (x : ℕ) → mem x (mades b m h) ≡ true → (h.base + h.high ≤ x) × (x + size_at b m x ≤ h.base + h.size)
  mades_inside x k = spread_inside b m _ _ x _ (spread_starts b m (h.size + 1) _ _ l.mades_fill) k

  pub olds_inside : (x : ℕ) → mem x (olds b m h) ≡ true → (old_base h ≤ x) × (x + size_at b m x ≤ old_base h + h.size)
  olds_inside x k = spread_inside b m _ _ x _ olds_spread k

  -- a place is reserved for the old record at o
  module _ (o : ℕ) (is_old : mem o (olds b m h) ≡ true) (room : h.low + size_at b m o ≤ h.high) where
    pub words_of_news : (x j : ℕ) → mem x (news b m h) ≡ true → j < size_at b m x → get_or (noted m (h.base + h.low) o) (x + j) 0 ≡ get_or m (x + j) 0
    words_of_news x j k lt = grind (arith, mem_append, places_inside, olds_inside, size_two, noted_other, side_cases, mades_inside)

    pub words_of_olds : (x j : ℕ) → mem x (olds b m h) ≡ true → j < size_at b m x → ((x ≡ o) × (j ≡ 1) → ⊥) → get_or (noted m (h.base + h.low) o) (x + j) 0 ≡ get_or m (x + j) 0
    words_of_olds x j k lt ne =
        let xi = olds_inside x k in
        let oi = olds_inside o is_old in
        let t = size_two b m o in
        noted_other m (h.base + h.low) o (x + j)
        (elim side_cases [ inl e ↦ omega arith | inr e ↦ omega arith ])
        (elim side_cases [ inl e ↦ omega arith | inr e ↦ omega arith ])
        (elim (cases_eq x o) [
          | inl e ↦ λ d. ne (e, omega arith)
          | inr e ↦ separate b m _ _ x o j 1 (olds b m h) olds_spread k is_old lt (omega arith) e
        ])

    pub sizes_of_news : (x : ℕ) → mem x (news b m h) ≡ true → size_at b (noted m (h.base + h.low) o) x ≡ size_at b m x
    unfolding size_at
    sizes_of_news x k = ap (λ w. 2 + size b (w % 16)) (words_of_news x 1 k (size_two b m x))

    pub tag_of_old : get_or (noted m (h.base + h.low) o) (o + 1) 0 ≡ get_or m (o + 1) 0 % 16 + 16 * (h.base + h.low + 1)
    tag_of_old = noted_tag m (h.base + h.low) o (let oi = olds_inside o is_old in let t = size_two b m o in let f = l.fits in elim side_cases [ inl e ↦ omega arith | inr e ↦ omega arith ])

    pub sizes_of_olds : (x : ℕ) → mem x (olds b m h) ≡ true → size_at b (noted m (h.base + h.low) o) x ≡ size_at b m x
    unfolding size_at
    sizes_of_olds x k = grind (arith, tag_of_old, words_of_olds, size_two)

    pub size_of_place : size_at b (noted m (h.base + h.low) o) (h.base + h.low) ≡ size_at b m o
    unfolding size_at
    size_of_place = grind (arith, olds_inside, size_two, noted_kind, side_cases)

    pub back_of_place : get_or (noted m (h.base + h.low) o) (h.base + h.low) 0 ≡ o + 1
    back_of_place = grind (arith, olds_inside, size_two, noted_back, side_cases)

    pub lows_after : lows b (noted m (h.base + h.low) o) (grown h (size_at b m o)) ≡ lows b m h
    lows_after = starts_same b m (noted m (h.base + h.low) o) _ _ _ (λ x k. sizes_of_olds x (mem_left x (lows b m h) (highs b m h) k))

    pub highs_after : highs b (noted m (h.base + h.low) o) (grown h (size_at b m o)) ≡ highs b m h
    highs_after = starts_same b m (noted m (h.base + h.low) o) _ _ _ (λ x k. sizes_of_olds x (mem_right x (lows b m h) (highs b m h) k))

    pub mades_after : mades b (noted m (h.base + h.low) o) (grown h (size_at b m o)) ≡ mades b m h
    mades_after = starts_same b m (noted m (h.base + h.low) o) _ _ _ (λ x k. sizes_of_news x (mem_right x (places b m h) (mades b m h) k))

    pub places_same : starts b (noted m (h.base + h.low) o) (h.size + 1) h.base (h.base + h.low) ≡ places b m h
    places_same = starts_same b m (noted m (h.base + h.low) o) _ _ _ (λ x k. sizes_of_news x (mem_left x (places b m h) (mades b m h) k))

    pub places_total : total b (noted m (h.base + h.low) o) (places b m h) ≡ total b m (places b m h)
    places_total = total_same b m (noted m (h.base + h.low) o) _ (λ x k. sizes_of_news x (mem_left x (places b m h) (mades b m h) k))

    pub places_after : places b (noted m (h.base + h.low) o) (grown h (size_at b m o)) ≡ places b m h ++ ((h.base + h.low) ∷ [])
    places_after =
        let n = noted m (h.base + h.low) o in
        let fill : h.base + total b n (starts b n (h.size + 1) h.base (h.base + h.low)) ≡ h.base + h.low = rw (places_same, places_total) l.places_fill in
        let push = starts_push b n (h.size + 1) h.base (h.base + h.low) fill (omega (arith, l.ends, l.top)) in
        let at : h.base + (h.low + size_at b m o) ≡ h.base + h.low + size_at b n (h.base + h.low) = omega (arith, size_of_place) in
        rw at (push ∙ ap (λ xs. xs ++ ((h.base + h.low) ∷ [])) places_same)

    pub laid_after : Laid b (noted m (h.base + h.low) o) (grown h (size_at b m o))
    laid_after = search (rules, arith, noted_length, lows_after, total_same, sizes_of_olds, mem_left, highs_after, mem_right, places_after, total_append, places_total, size_of_place, mades_after, sizes_of_news)
