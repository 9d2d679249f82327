-- Records one after another in a run of words.
use Rattle.std.proofs.Common.{rules, ◌≡◌, ℕ, zero, suc, ◌+◌, ◌/◌, ◌<◌, ◌≤◌, Bool, true, false, eqb, ltb, ◌≢◌, ◌⊎◌, List, [], ◌∷◌, ◌++◌, get_or, sym, refl, ap, subst, ap₂, inl, inr, arith}
use Rattle.std.proofs.lemmas.Bool.{eqb-true, or_cases, or_left, or_right, ltb-true, eq-eqb, ne_eqb, cases_eq, cases_order, lt-ltb, le-ltb, false≢true}
use Rattle.kinds.specs.Shapes.{Shape}
use Rattle.semispace.specs.Layout.{size_at, mem, starts, Spread, total, placed}

-- A member of a list is its head or a member of the rest.
pub mem_cases : (a x : ℕ) (xs : List ℕ) → mem a (x ∷ xs) ≡ true → (a ≡ x) ⊎ (mem a xs ≡ true)
mem_cases a x xs h = elim (or_cases (eqb a x) (mem a xs) h) [ inl e ↦ inl (eqb-true a x e) | inr t ↦ inr t ]

pub mem_head : (a : ℕ) (xs : List ℕ) → mem a (a ∷ xs) ≡ true
mem_head a xs = or_left (eqb a a) (mem a xs) (eq-eqb a a refl)

pub mem_first : (a x : ℕ) (xs : List ℕ) → a ≡ x → mem a (x ∷ xs) ≡ true
mem_first a x xs e = or_left (eqb a x) (mem a xs) (eq-eqb a x e)

pub mem_tail : (a x : ℕ) (xs : List ℕ) → mem a xs ≡ true → mem a (x ∷ xs) ≡ true
mem_tail a x xs h = or_right (eqb a x) (mem a xs) h

pub by_bool : {P : Type 0} (t : Bool) → (t ≡ true → P) → (t ≡ false → P) → P
by_bool true f g = f refl
by_bool false f g = g refl

pub starts_same : (b : List Shape) (m n : List ℕ) (f a to : ℕ) → ((x : ℕ) → mem x (starts b m f a to) ≡ true → size_at b n x ≡ size_at b m x) → starts b n f a to ≡ starts b m f a to
unfolding starts
starts_same b m n zero a to h = refl
starts_same b m n (suc f) a to h =
    by_bool (ltb a to)
    (λ e.
    let hm : (x : ℕ) → mem x (a ∷ starts b m f (a + size_at b m a) to) ≡ true → size_at b n x ≡ size_at b m x = rw e at h in
    let sz = hm a (mem_head a (starts b m f (a + size_at b m a) to)) in
    let ih = starts_same b m n f (a + size_at b m a) to (λ x k. hm x (mem_tail x a (starts b m f (a + size_at b m a) to) k)) in
    rw (e, sz, ih))
    (λ e. rw e)

pub total_same : (b : List Shape) (m n : List ℕ) (xs : List ℕ) → ((x : ℕ) → mem x xs ≡ true → size_at b n x ≡ size_at b m x) → total b n xs ≡ total b m xs
total_same b m n [] h = refl
total_same b m n (y ∷ ys) h = ap₂ (λ p q. p + q) (h y (mem_head y ys)) (total_same b m n ys (λ x k. h x (mem_tail x y ys k)))

module _ (b : List Shape) (m : List ℕ) where
  pub size_two : (x : ℕ) → 2 ≤ size_at b m x
  unfolding size_at
  size_two x = omega arith

  pub spread_ends : (a to : ℕ) (xs : List ℕ) → Spread b m a to xs → a + total b m xs ≤ to
  spread_ends a to [] s = omega arith
  spread_ends a to (y ∷ ys) s = omega (arith, spread_ends (y + size_at b m y) to ys s.1)

  pub spread_inside : (a to x : ℕ) (xs : List ℕ) → Spread b m a to xs → mem x xs ≡ true → (a ≤ x) × (x + size_at b m x ≤ to)
  spread_inside a to x [] s h = absurd (let z : ◌≡◌ {A = ℕ} 0 1 = cc in omega arith)
  spread_inside a to x (y ∷ ys) s h =
      elim (mem_cases x y ys h) [
        | inl e ↦ (omega (arith, s.0), rw e (omega (arith, spread_ends (y + size_at b m y) to ys s.1)))
        | inr k ↦ omega (arith, spread_inside (y + size_at b m y) to x ys s.1 k)
      ]

  pub spread_apart : (a to x y : ℕ) (xs : List ℕ) → Spread b m a to xs → mem x xs ≡ true → mem y xs ≡ true → x < y → x + size_at b m x ≤ y
  spread_apart a to x y [] s h k l = absurd (let z : ◌≡◌ {A = ℕ} 0 1 = cc in omega arith)
  spread_apart a to x y (z ∷ zs) s h k l =
      elim (mem_cases x z zs h) [
        | inl e ↦ elim (mem_cases y z zs k) [ inl d ↦ omega arith | inr d ↦ rw e (spread_inside (z + size_at b m z) to y zs s.1 d).0 ]
        | inr e ↦ elim (mem_cases y z zs k) [
          | inl d ↦ omega (arith, (spread_inside (z + size_at b m z) to x zs s.1 e).0)
          | inr d ↦ spread_apart (z + size_at b m z) to x y zs s.1 e d l
        ]
      ]

  -- two words of records are the same word only if record and offset are the same
  pub separate : (a to x y i j : ℕ) (xs : List ℕ) → Spread b m a to xs → mem x xs ≡ true → mem y xs ≡ true → i < size_at b m x → j < size_at b m y → x ≢ y → x + i ≢ y + j
  separate a to x y i j xs s h k p q ne e =
      elim (cases_order x y) [
        | inl d ↦ ne d
        | inr d ↦ elim d [
          | inl l ↦ omega (arith, spread_apart a to x y xs s h k l)
          | inr l ↦ omega (arith, spread_apart a to y x xs s k h l)
        ]
      ]

  -- what has a place, and one that has none, are within all
  pub placed_within : (xs : List ℕ) → placed b m xs ≤ total b m xs
  placed_within [] = omega arith
  placed_within (y ∷ ys) = by_bool (eqb (get_or m (y + 1) 0 / 16) 0) (λ e. rw e (omega (arith, placed_within ys))) (λ e. rw e (omega (arith, placed_within ys)))

  pub placed_room : (x : ℕ) (xs : List ℕ) → mem x xs ≡ true → get_or m (x + 1) 0 / 16 ≡ 0 → placed b m xs + size_at b m x ≤ total b m xs
  placed_room x [] h e = absurd (let z : ◌≡◌ {A = ℕ} 0 1 = cc in omega arith)
  placed_room x (y ∷ ys) h e =
      elim (mem_cases x y ys h) [
        | inl d ↦
            let t : eqb (get_or m (y + 1) 0 / 16) 0 ≡ true = eq-eqb (get_or m (y + 1) 0 / 16) 0 (rw d at e) in
            rw (t, d) (omega (arith, placed_within ys))
        | inr k ↦
            by_bool (eqb (get_or m (y + 1) 0 / 16) 0)
            (λ t. rw t (omega (arith, placed_room x ys k e)))
            (λ t. rw t (omega (arith, placed_room x ys k e)))
      ]

  pub spread_starts : (f a to : ℕ) → a + total b m (starts b m f a to) ≡ to → Spread b m a to (starts b m f a to)
  unfolding starts
  spread_starts zero a to e = omega arith
  spread_starts (suc f) a to e =
      by_bool (ltb a to)
      (λ t. let e2 : a + (size_at b m a + total b m (starts b m f (a + size_at b m a) to)) ≡ to = rw t at e in
      rw t (omega arith, spread_starts f (a + size_at b m a) to (omega arith)))
      (λ t. let e2 : a + 0 ≡ to = rw t at e in rw t (omega arith))

  pub spread_append : (a mid next to : ℕ) (xs ys : List ℕ) → Spread b m a mid xs → mid ≤ next → Spread b m next to ys → Spread b m a to (xs ++ ys)
  spread_append a mid next to [] ys s l t = spread_weaken a next to ys (omega arith) t
    where
      spread_weaken : (a c to : ℕ) (ys : List ℕ) → a ≤ c → Spread b m c to ys → Spread b m a to ys
      spread_weaken a c to [] l t = omega arith
      spread_weaken a c to (y ∷ ys) l t = (omega (arith, t.0), t.1)
  spread_append a mid next to (x ∷ xs) ys s l t = (s.0, spread_append (x + size_at b m x) mid next to xs ys s.1 l t)

  pub starts_push : (f a to : ℕ) → a + total b m (starts b m f a to) ≡ to → to < a + f → starts b m f a (to + size_at b m to) ≡ starts b m f a to ++ (to ∷ [])
  unfolding starts
  starts_push zero a to e l = absurd (omega arith)
  starts_push (suc f) a to e l =
      by_bool (ltb a to)
      (λ t.
      let e2 : a + (size_at b m a + total b m (starts b m f (a + size_at b m a) to)) ≡ to = rw t at e in
      let lt : a < to = ltb-true a to t in
      let t2 : ltb a (to + size_at b m to) ≡ true = lt-ltb a (to + size_at b m to) (omega arith) in
      let ih = starts_push f (a + size_at b m a) to (omega arith) (omega (arith, size_two a)) in
      rw (t, t2, ih))
      (λ t.
      let e2 : a + 0 ≡ to = rw t at e in
      let ea : a ≡ to = omega arith in
      let t2 : ltb a (to + size_at b m to) ≡ true = lt-ltb a (to + size_at b m to) (omega (arith, size_two to)) in
      rw (t, t2) (last f a to ea))
    where
      last : (f a to : ℕ) → a ≡ to → a ∷ starts b m f (a + size_at b m a) (to + size_at b m to) ≡ to ∷ []
      last zero a to ea = rw ea
      last (suc f) a to ea = let z : ltb (to + size_at b m to) (to + size_at b m to) ≡ false = le-ltb (to + size_at b m to) (to + size_at b m to) (omega arith) in rw (ea, z)

pub mem_append : (x : ℕ) (xs ys : List ℕ) → mem x (xs ++ ys) ≡ true → (mem x xs ≡ true) ⊎ (mem x ys ≡ true)
mem_append x [] ys h = inr h
mem_append x (y ∷ xs) ys h =
    elim (mem_cases x y (xs ++ ys) h) [
      | inl e ↦ inl (mem_first x y xs e)
      | inr k ↦ elim (mem_append x xs ys k) [ inl d ↦ inl (mem_tail x y xs d) | inr d ↦ inr d ]
    ]

pub mem_left : (x : ℕ) (xs ys : List ℕ) → mem x xs ≡ true → mem x (xs ++ ys) ≡ true
mem_left x [] ys h = absurd (let z : ◌≡◌ {A = ℕ} 0 1 = cc in omega arith)
mem_left x (y ∷ xs) ys h = elim (mem_cases x y xs h) [ inl e ↦ mem_first x y (xs ++ ys) e | inr k ↦ mem_tail x y (xs ++ ys) (mem_left x xs ys k) ]

pub mem_right : (x : ℕ) (xs ys : List ℕ) → mem x ys ≡ true → mem x (xs ++ ys) ≡ true
mem_right x [] ys h = h
mem_right x (y ∷ xs) ys h = mem_tail x y (xs ++ ys) (mem_right x xs ys h)

pub total_append : (b : List Shape) (m : List ℕ) (xs ys : List ℕ) → total b m (xs ++ ys) ≡ total b m xs + total b m ys
total_append b m [] ys = omega arith
total_append b m (x ∷ xs) ys = omega (arith, total_append b m xs ys)

-- The sum of the placed: no tag changed, and one tag noted.
pub placed_same : (b : List Shape) (m n : List ℕ) (xs : List ℕ) → ((x : ℕ) → mem x xs ≡ true → size_at b n x ≡ size_at b m x) → ((x : ℕ) → mem x xs ≡ true → get_or n (x + 1) 0 ≡ get_or m (x + 1) 0) → placed b n xs ≡ placed b m xs
placed_same b m n [] h k = refl
placed_same b m n (y ∷ ys) h k = search (rules, arith, mem_head, mem_tail, placed_same b m n ys (λ x e. h x (mem_tail x y ys e)) (λ x e. k x (mem_tail x y ys e)))

pub placed_more : (b : List Shape) (m n : List ℕ) (a to o : ℕ) (xs : List ℕ) → Spread b m a to xs → mem o xs ≡ true → ((x : ℕ) → mem x xs ≡ true → size_at b n x ≡ size_at b m x) → ((x : ℕ) → mem x xs ≡ true → x ≢ o → get_or n (x + 1) 0 ≡ get_or m (x + 1) 0) → get_or m (o + 1) 0 / 16 ≡ 0 → get_or n (o + 1) 0 / 16 ≢ 0 → placed b n xs ≡ placed b m xs + size_at b m o
placed_more b m n a to o [] s i h k e d = absurd (let z : ◌≡◌ {A = ℕ} 0 1 = cc in omega arith)
placed_more b m n a to o (y ∷ ys) s i h k e d =
    elim (cases_eq y o) [
      | inl q ↦
          let t1 : eqb (get_or n (y + 1) 0 / 16) 0 ≡ false = ne_eqb (get_or n (y + 1) 0 / 16) 0 (rw q d) in
          let t2 : eqb (get_or m (y + 1) 0 / 16) 0 ≡ true = eq-eqb (get_or m (y + 1) 0 / 16) 0 (rw q e) in
          let out : (x : ℕ) → mem x ys ≡ true → x ≢ o = λ x w v. omega (arith, spread_inside b m (y + size_at b m y) to x ys s.1 w, size_two b m y) in
          let r = placed_same b m n ys (λ x w. h x (mem_tail x y ys w)) (λ x w. k x (mem_tail x y ys w) (out x w)) in
          let z = h y (mem_head y ys) in
          let zo : size_at b m y ≡ size_at b m o = ap (size_at b m) q in
          rw (t1, t2) (omega arith)
      | inr q ↦
          let w : mem o ys ≡ true = elim (mem_cases o y ys i) [ inl v ↦ absurd (q (sym v)) | inr v ↦ v ] in
          let r = placed_more b m n (y + size_at b m y) to o ys s.1 w (λ x v. h x (mem_tail x y ys v)) (λ x v. k x (mem_tail x y ys v)) e d in
          rw (h y (mem_head y ys), k y (mem_head y ys) q) (omega arith)
    ]

module _ (b : List Shape) (m : List ℕ) where
  pub first_start : (f a to : ℕ) → a + total b m (starts b m f a to) ≡ to → mem a (starts b m f a to ++ (to ∷ [])) ≡ true
  unfolding starts
  first_start zero a to e = mem_first a to [] (omega arith)
  first_start (suc f) a to e = search (rules, arith, mem_head, mem_first)

  pub next_start : (f a to x : ℕ) → a + total b m (starts b m f a to) ≡ to → mem x (starts b m f a to) ≡ true → mem (x + size_at b m x) (starts b m f a to ++ (to ∷ [])) ≡ true
  unfolding starts
  next_start zero a to x e h = absurd (false≢true h)
  next_start (suc f) a to x e h =
      by_bool (ltb a to)
      (λ t.
      let e2 : a + (size_at b m a + total b m (starts b m f (a + size_at b m a) to)) ≡ to = rw t at e in
      let e3 : a + size_at b m a + total b m (starts b m f (a + size_at b m a) to) ≡ to = omega arith in
      let h2 : mem x (a ∷ starts b m f (a + size_at b m a) to) ≡ true = rw t at h in
      rw t (elim (mem_cases x a (starts b m f (a + size_at b m a) to) h2) [
        | inl d ↦ let q : x + size_at b m x ≡ a + size_at b m a = ap (λ y. y + size_at b m y) d in let P : ℕ → Type 0 = λ y. mem y (a ∷ (starts b m f (a + size_at b m a) to ++ (to ∷ []))) ≡ true in subst P (sym q) (mem_tail (a + size_at b m a) a (starts b m f (a + size_at b m a) to ++ (to ∷ [])) (first_start f (a + size_at b m a) to e3))
        | inr d ↦ mem_tail (x + size_at b m x) a (starts b m f (a + size_at b m a) to ++ (to ∷ [])) (next_start f (a + size_at b m a) to x e3 d)
      ]))
      (λ t. let h2 : mem x [] ≡ true = rw t at h in absurd (false≢true h2))

  pub starts_none : (f a to : ℕ) → to ≤ a → starts b m f a to ≡ []
  unfolding starts
  starts_none zero a to l = refl
  starts_none (suc f) a to l = rw (le-ltb a to l)

  pub placed_none : (xs : List ℕ) → ((x : ℕ) → mem x xs ≡ true → get_or m (x + 1) 0 / 16 ≡ 0) → placed b m xs ≡ 0
  placed_none [] h = refl
  placed_none (y ∷ ys) h = let r = placed_none ys (λ x k. h x (mem_tail x y ys k)) in rw (eq-eqb (get_or m (y + 1) 0 / 16) 0 (h y (mem_head y ys))) (omega arith)

pub spread_same : (b : List Shape) (m n : List ℕ) (a to : ℕ) (xs : List ℕ) → Spread b m a to xs → ((x : ℕ) → mem x xs ≡ true → size_at b n x ≡ size_at b m x) → Spread b n a to xs
spread_same b m n a to [] s h = s
spread_same b m n a to (y ∷ ys) s h = (s.0, rw (h y (mem_head y ys)) (spread_same b m n (y + size_at b m y) to ys s.1 (λ x k. h x (mem_tail x y ys k))))
