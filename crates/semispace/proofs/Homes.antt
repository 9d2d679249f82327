-- Where a field's value is: the new copy if the field has been copied, else the old one.
use Rattle.std.proofs.Common.{rules, ◌≡◌, ℕ, zero, suc, ◌+◌, ◌-◌, ◌<◌, ◌≤◌, true, false, ◌&&◌, ◌||◌, eqb, ◌≢◌, ◌⊎◌, ◌++◌, sym, refl, ap, ◌∙◌, subst, inl, inr, arith}
use Rattle.std.proofs.lemmas.Bool.{eqb-false, or_cases, or_from, and_left, and_right, le-leb, or_parts, eqb-true, ne_eqb, false≢true}
use Rattle.graph.specs.Graph.{size}
use Rattle.semispace.specs.declared.halves.Halves.{Halves}
use Rattle.semispace.specs.declared.collector.Collector.{Collector}
use Rattle.semispace.specs.declared.collector.Collector.TheVariants.{Rest, Slots, Scan, Field}
use Rattle.semispace.specs.Layout.{size_at, mem, mades}
use Rattle.semispace.specs.Words.{home, source, State, front, own, resting, refers, kind_at, place_of, word_at}
use Rattle.semispace.specs.Sound.{the_olds, the_news, the_places, size_of, good, is_open, opened_at, Twin, At, Sound, number, value, name, shown}
use Rattle.semispace.specs.Dues.{edge, names_below}
use Rattle.semispace.proofs.Spreads.{by_bool, mem_append, mem_left, size_two}
use Rattle.semispace.proofs.Reserving.{mades_inside, sizes_of_news, sizes_of_olds}
use Rattle.semispace.proofs.ReserveSound.{noted_state, good_more, room_for, words_news, words_olds, kind_olds, kind_news}
use Rattle.semispace.proofs.ReserveAgree.{new_leads, old_leads_not, number_news, number_olds, home_olds, home_news}

-- The home of a field is an old record, or a new one that owns the field; it has the kind of the record.
pub record Homed (s : State) (x i h : ℕ) : Type 0 where
  pub where_is : (mem h (the_olds s) ≡ true) ⊎ ((mem h (the_news s) ≡ true) × (own s.halves s.collector h i ≡ true))
  pub kind : kind_at s h ≡ kind_at s x

pub size_by_kind : (s : State) (x y : ℕ) → kind_at s x ≡ kind_at s y → size_of s x ≡ size_of s y
unfolding size_at
size_by_kind s x y e = ap (λ k. 2 + size s.book k) e

own_unopened : (h : Halves) (c : Collector) (x i : ℕ) → own h c x i ≡ false → (is_open c ≡ true → x ≢ front h.base h.size c) → opened_at h c x ≡ false
own_unopened h c x i ow ne = grind (arith, or_parts, or_from, and_left, ne_eqb, and_right)

module _ (s : State) (S : Sound s) (going : resting s.collector ≡ false) where
  twin_of : (f p : ℕ) → mem f (the_olds s) ≡ true → place_of s f ≡ p + 1 → Twin s f p
  twin_of f p k e =
      let P : ℕ → Type 0 = λ q. Twin s f q in
      let v : place_of s f - 1 ≡ p = omega arith in
      subst P v ((S.cycle going).twin f k (λ z. omega arith))

  pub source_homed : (x i : ℕ) (c : Collector) → mem x (the_places s) ≡ true → At s c → ((p : ℕ) → mem p (the_places s) ≡ true → opened_at s.halves c p ≡ false → (0 < word_at s p) × (mem (word_at s p - 1) (the_olds s) ≡ true) × (place_of s (word_at s p - 1) ≡ p + 1)) → own s.halves c x i ≡ false → (mem (source s.memory c x) (the_olds s) ≡ true) × (place_of s (source s.memory c x) ≡ x + 1)
  source_homed x i Rest k a bk ow = let b = bk x k (own_unopened s.halves Rest x i ow (λ e. absurd (false≢true e))) in (b.1, b.2)
  source_homed x i (Slots n) k a bk ow = let b = bk x k (own_unopened s.halves (Slots n) x i ow (λ e. absurd (false≢true e))) in (b.1, b.2)
  source_homed x i (Scan at) k a bk ow = let b = bk x k (own_unopened s.halves (Scan at) x i ow (λ e. absurd (false≢true e))) in (b.1, b.2)
  source_homed x i (Field c) k a bk ow =
      by_bool (eqb x c.at)
      (λ e. rw e (a.1, a.2 ∙ ap (λ w. w + 1) (sym (eqb-true x c.at e))))
      (λ e. let b = bk x k (own_unopened s.halves (Field c) x i ow (λ z. eqb-false x c.at e)) in rw e (b.1, b.2))

  pub place_unless_own : (x i : ℕ) → mem x (the_news s) ≡ true → own s.halves s.collector x i ≡ false → mem x (the_places s) ≡ true
  place_unless_own x i k u = search (rules, arith, mem_append, or_parts, le-leb, mades_inside)

  pub homed_news : (x i : ℕ) → mem x (the_news s) ≡ true → Homed s x i (home s x i)
  homed_news x i k =
      let P : ℕ → Type 0 = λ h. Homed s x i h in
      by_bool (own s.halves s.collector x i)
      (λ e.
      let q : home s x i ≡ x = rw (new_leads s S.laid x k, e) in
      subst P (sym q) (record { where_is = inr (k, e); kind = refl }))
      (λ e.
      let q : home s x i ≡ source s.memory s.collector x = rw (new_leads s S.laid x k, e) in
      let b = source_homed x i s.collector (place_unless_own x i k e) S.at (S.cycle going).back e in
      subst P (sym q) (record { where_is = inl b.0; kind = sym (twin_of _ x b.0 b.1).kind }))

  pub homed_olds : (x i : ℕ) → mem x (the_olds s) ≡ true → Homed s x i (home s x i)
  homed_olds x i k =
      let P : ℕ → Type 0 = λ h. Homed s x i h in
      by_bool (eqb (place_of s x) 0)
      (λ e.
      let q : home s x i ≡ x = rw (old_leads_not s S.laid x k, e) in
      subst P (sym q) (record { where_is = inl k; kind = refl }))
      (λ e.
      by_bool (own s.halves s.collector (place_of s x - 1) i)
      (λ d.
      let q : home s x i ≡ place_of s x - 1 = rw (old_leads_not s S.laid x k, e, d) in
      let t = (S.cycle going).twin x k (eqb-false _ _ e) in
      subst P (sym q) (record { where_is = inr (mem_left (place_of s x - 1) (the_places s) (mades s.book s.memory s.halves) t.inside, d); kind = t.kind }))
      (λ d.
      let q : home s x i ≡ x = rw (old_leads_not s S.laid x k, e, d) in
      subst P (sym q) (record { where_is = inl k; kind = refl })))

  pub homed : (x i : ℕ) → mem x (the_news s ++ the_olds s) ≡ true → Homed s x i (home s x i)
  homed x i k = elim (mem_append x (the_news s) (the_olds s) k) [ inl e ↦ homed_news x i e | inr e ↦ homed_olds x i e ]

  -- what a reference field shows leads to a record
  pub value_good : (x i : ℕ) → mem x (the_news s ++ the_olds s) ≡ true → 2 + i < size_of s x → refers s.book (kind_at s x) i ≡ true → good (the_news s ++ the_olds s) (value s x i) ≡ true
  unfolding value
  value_good x i k lt r =
      let h = homed x i k in
      let lt2 : 2 + i < size_of s (home s x i) = rw (size_by_kind s (home s x i) x h.kind) lt in
      let r2 : refers s.book (kind_at s (home s x i)) i ≡ true = rw h.kind r in
      let e : home s x i + (2 + i) ≡ home s x i + 2 + i = omega arith in
      rw e (elim h.where_is [
        | inl o ↦ (S.cycle going).olds_refer (home s x i) i o lt2 r2
        | inr n ↦ good_more (the_news s) (the_news s ++ the_olds s) (word_at s (home s x i + 2 + i)) (λ y m. mem_left y (the_news s) (the_olds s) m) (S.news_refer (home s x i) i n.0 lt2 n.1 r2)
      ])

module _ (s : State) (S : Sound s) (going : resting s.collector ≡ false) (o : ℕ) (is_old : mem o (the_olds s) ≡ true) (none : place_of s o ≡ 0) where
  pub home_kept : (x i : ℕ) → mem x (the_news s ++ the_olds s) ≡ true → home (noted_state s o) x i ≡ home s x i
  home_kept x i k = elim (mem_append x (the_news s) (the_olds s) k) [ inl e ↦ home_news s S going o is_old none x i e | inr e ↦ home_olds s S going o is_old none x i e ]

  pub number_kept : (x : ℕ) → mem x (the_news s ++ the_olds s) ≡ true → number (noted_state s o) x ≡ number s x
  number_kept x k = elim (mem_append x (the_news s) (the_olds s) k) [ inl e ↦ number_news s S going o is_old none x e | inr e ↦ number_olds s S going o is_old none x e ]

  pub kind_kept : (x : ℕ) → mem x (the_news s ++ the_olds s) ≡ true → kind_at (noted_state s o) x ≡ kind_at s x
  kind_kept x k = elim (mem_append x (the_news s) (the_olds s) k) [ inl e ↦ kind_news s S going o is_old none x e | inr e ↦ kind_olds s S going o is_old none x e ]

  pub value_kept : (x i : ℕ) → mem x (the_news s ++ the_olds s) ≡ true → 2 + i < size_of s x → value (noted_state s o) x i ≡ value s x i
  unfolding value
  value_kept x i k lt = search (rules, arith, homed, size_by_kind, home_kept, words_olds, words_news)

  pub name_kept : (r : ℕ) → good (the_news s ++ the_olds s) r ≡ true → name (noted_state s o) r ≡ name s r
  unfolding name good
  name_kept r g = grind (arith, or_cases, number_kept)

  pub shown_kept : (x i : ℕ) → mem x (the_news s ++ the_olds s) ≡ true → 2 + i < size_of s x → shown (noted_state s o) x i ≡ shown s x i
  unfolding shown
  shown_kept x i k lt =
      by_bool (refers s.book (kind_at s x) i)
      (λ e. rw (kind_kept x k, e) (ap (name (noted_state s o)) (value_kept x i k lt) ∙ name_kept (value s x i) (value_good s S going x i k lt e)))
      (λ e. rw (kind_kept x k, e) (value_kept x i k lt))

-- An old record and its place have one number.
pub twin_number : (s : State) (S : Sound s) (o p : ℕ) → mem o (the_olds s) ≡ true → Twin s o p → number s p ≡ number s o
unfolding number
twin_number s S o p k t =
    let n = new_leads s S.laid p (mem_left p (the_places s) (mades s.book s.memory s.halves) t.inside) in
    by_bool (opened_at s.halves s.collector p)
    (λ e. rw (n, old_leads_not s S.laid o k, e) (t.head e))
    (λ e. let v : word_at s p - 1 ≡ o = let b = t.back e in omega arith in rw (n, old_leads_not s S.laid o k, e) (ap (word_at s) v))

-- The edges between records are as before when a place is reserved.
module _ (s : State) (S : Sound s) (going : resting s.collector ≡ false) (o : ℕ) (is_old : mem o (the_olds s) ≡ true) (none : place_of s o ≡ 0) where
  names_kept : (a n i : ℕ) → mem a (the_news s ++ the_olds s) ≡ true → i + 2 ≤ size_of s a → names_below (noted_state s o) a n i ≡ names_below s a n i
  unfolding names_below
  names_kept a n zero k l = refl
  names_kept a n (suc i) k l =
      rw (kind_kept s S going o is_old none a k, shown_kept s S going o is_old none a i k (omega arith))
      (ap (λ v. v || (refers s.book (kind_at s a) i && eqb (shown s a i) n)) (names_kept a n i k (omega arith)))

  size_kept : (x : ℕ) → mem x (the_news s ++ the_olds s) ≡ true → size_of (noted_state s o) x ≡ size_of s x
  size_kept x k = elim (mem_append x (the_news s) (the_olds s) k) [ inl e ↦ sizes_of_news _ _ _ S.laid o is_old (room_for s S going o is_old none) x e | inr e ↦ sizes_of_olds _ _ _ S.laid o is_old (room_for s S going o is_old none) x e ]

  pub edge_kept : (a b : ℕ) → mem a (the_news s ++ the_olds s) ≡ true → mem b (the_news s ++ the_olds s) ≡ true → edge (noted_state s o) a b ≡ edge s a b
  unfolding edge
  edge_kept a b ka kb =
      rw (size_kept a ka, number_kept s S going o is_old none b kb)
      (names_kept a (number s b) (size_of s a - 2) ka (omega (arith, size_two s.book s.memory a)))
