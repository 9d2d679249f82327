-- Reaching by rounds over lists of addresses, and sums over what is reached.
use Rattle.std.proofs.Common.{rules, ◌≡◌, ℕ, zero, suc, ◌+◌, ◌<◌, ◌≤◌, Bool, true, false, cond, not, ◌&&◌, ◌||◌, ◌⊎◌, List, [], ◌∷◌, length, sym, refl, ap, inl, inr, arith}
use Rattle.std.proofs.lemmas.Bool.{or_cases, or_left, or_right, and_from, and_parts, or_parts, not-false, false≢true}
use Rattle.semispace.specs.Layout.{mem}
use Rattle.semispace.specs.Reach.{some, reach_in, reached, sum_where}
use Rattle.semispace.proofs.Spreads.{by_bool, mem_cases, mem_head, mem_tail}

pub some_from : (p : ℕ → Bool) (xs : List ℕ) (x : ℕ) → mem x xs ≡ true → p x ≡ true → some p xs ≡ true
some_from p [] x m h = absurd (false≢true m)
some_from p (y ∷ ys) x m h = elim (mem_cases x y ys m) [ inl e ↦ or_left (p y) (some p ys) (rw e at h) | inr k ↦ or_right (p y) (some p ys) (some_from p ys x k h) ]

pub some_is : (p : ℕ → Bool) (xs : List ℕ) → some p xs ≡ true → (x : ℕ) × (mem x xs ≡ true) × (p x ≡ true)
some_is p [] h = absurd (false≢true h)
some_is p (y ∷ ys) h =
    elim (or_cases (p y) (some p ys) h) [
      | inl e ↦ (y, mem_head y ys, e)
      | inr e ↦ let r = some_is p ys e in (r.0, mem_tail r.0 y ys r.1, r.2)
    ]

-- each element passes, or one fails
pub all_or_not : (p : ℕ → Bool) (xs : List ℕ) → ((x : ℕ) → mem x xs ≡ true → p x ≡ true) ⊎ ((x : ℕ) × (mem x xs ≡ true) × (p x ≡ false))
all_or_not p [] = inl (λ x h. absurd (false≢true h))
all_or_not p (y ∷ ys) =
    by_bool (p y)
    (λ e. elim (all_or_not p ys) [
      | inl f ↦ inl (λ x h. elim (mem_cases x y ys h) [ inl d ↦ rw d e | inr k ↦ f x k ])
      | inr r ↦ inr (r.0, mem_tail r.0 y ys r.1, r.2)
    ])
    (λ e. inr (y, mem_head y ys, e))

abbrev pub count : (ℕ → Bool) → List ℕ → ℕ
count p [] = 0
count p (x ∷ xs) = cond (p x) 1 0 + count p xs

module _ (p q : ℕ → Bool) where
  pub count_up : (xs : List ℕ) → ((x : ℕ) → p x ≡ true → q x ≡ true) → count p xs ≤ count q xs
  count_up [] h = omega arith
  count_up (y ∷ ys) h = let r = count_up ys h in by_bool (p y) (λ e. rw (e, h y e) (omega arith)) (λ e. rw e (omega arith))

  pub count_more : (xs : List ℕ) (x : ℕ) → ((x : ℕ) → p x ≡ true → q x ≡ true) → mem x xs ≡ true → p x ≡ false → q x ≡ true → count p xs < count q xs
  count_more [] x h m f t = absurd (false≢true m)
  count_more (y ∷ ys) x h m f t =
      elim (mem_cases x y ys m) [
        | inl e ↦ let r = count_up ys h in let fy : p y ≡ false = rw e at f in let ty : q y ≡ true = rw e at t in rw (fy, ty) (omega arith)
        | inr k ↦ let r = count_more ys x h k f t in by_bool (p y) (λ e. rw (e, h y e) (omega arith)) (λ e. rw e (omega arith))
      ]

pub count_all : (p : ℕ → Bool) (xs : List ℕ) → count p xs ≤ length xs
count_all p [] = omega arith
count_all p (y ∷ ys) = let r = count_all p ys in by_bool (p y) (λ e. rw e (omega arith)) (λ e. rw e (omega arith))

pub count_full : (p : ℕ → Bool) (xs : List ℕ) (x : ℕ) → length xs ≤ count p xs → mem x xs ≡ true → p x ≡ true
count_full p [] x h m = absurd (false≢true m)
count_full p (y ∷ ys) x h m =
    let r = count_all p ys in
    by_bool (p y)
    (λ e. let h2 : suc (length ys) ≤ 1 + count p ys = rw e at h in elim (mem_cases x y ys m) [ inl d ↦ rw d e | inr k ↦ count_full p ys x (omega arith) k ])
    (λ e. let h2 : suc (length ys) ≤ 0 + count p ys = rw e at h in absurd (omega arith))

module _ (u : List ℕ) (e : ℕ → ℕ → Bool) (r : ℕ → Bool) where
  reach_up : (k x : ℕ) → reach_in u e r k x ≡ true → reach_in u e r (suc k) x ≡ true
  unfolding reach_in
  reach_up k x h = or_left (reach_in u e r k x) _ h

  reach_step : (k y x : ℕ) → mem y u ≡ true → reach_in u e r k y ≡ true → e y x ≡ true → reach_in u e r (suc k) x ≡ true
  unfolding reach_in
  reach_step k y x m h d = or_right (reach_in u e r k x) _ (some_from (λ z. reach_in u e r k z && e z x) u y m (and_from _ _ h d))

  abbrev Stable : ℕ → Type 0
  Stable k = (x : ℕ) → mem x u ≡ true → reach_in u e r (suc k) x ≡ true → reach_in u e r k x ≡ true

  stable_up : (k : ℕ) → Stable k → Stable (suc k)
  unfolding reach_in
  stable_up k s x m h = search (rules, arith, or_cases, some_is, and_parts, reach_step)

  stable_or_many : (k : ℕ) → Stable k ⊎ (k ≤ count (reach_in u e r k) u)
  stable_or_many zero = inr (omega arith)
  stable_or_many (suc k) =
      elim (stable_or_many k) [
        | inl s ↦ inl (stable_up k s)
        | inr l ↦ elim (all_or_not (λ x. not (reach_in u e r (suc k) x) || reach_in u e r k x) u) [
          | inl f ↦ inl (stable_up k (λ x m h. let g = f x m in let t : (false || reach_in u e r k x) ≡ true = rw h at g in t))
          | inr w ↦
              let v = or_parts (not (reach_in u e r (suc k) w.0)) (reach_in u e r k w.0) w.2 in
              let c = count_more (reach_in u e r k) (reach_in u e r (suc k)) u w.0 (λ x h. reach_up k x h) w.1 v.1 (not-false _ v.0) in
              inr (omega arith)
        ]
      ]

  pub closed : (y x : ℕ) → mem y u ≡ true → mem x u ≡ true → reached u e r y ≡ true → e y x ≡ true → reached u e r x ≡ true
  unfolding reached
  closed y x m k h d =
      elim (stable_or_many (length u)) [
        | inl s ↦ s x k (reach_step (length u) y x m h d)
        | inr l ↦ count_full (reach_in u e r (length u)) u x l k
      ]

  pub roots : (k x : ℕ) → r x ≡ true → reach_in u e r k x ≡ true
  unfolding reach_in
  roots zero x h = h
  roots (suc k) x h = or_left _ _ (roots k x h)

  pub least_in : (C : ℕ → Bool) → ((x : ℕ) → r x ≡ true → C x ≡ true) → ((y x : ℕ) → mem y u ≡ true → C y ≡ true → e y x ≡ true → C x ≡ true) → (k x : ℕ) → reach_in u e r k x ≡ true → C x ≡ true
  unfolding reach_in
  least_in C f g zero x h = f x h
  least_in C f g (suc k) x h =
      elim (or_cases (reach_in u e r k x) _ h) [
        | inl d ↦ least_in C f g k x d
        | inr d ↦ let w = some_is (λ z. reach_in u e r k z && e z x) u d in
            let v = and_parts _ _ w.2 in
            g w.0 x w.1 (least_in C f g k w.0 v.0) v.1
      ]

  pub least : (C : ℕ → Bool) → ((x : ℕ) → r x ≡ true → C x ≡ true) → ((y x : ℕ) → mem y u ≡ true → C y ≡ true → e y x ≡ true → C x ≡ true) → (x : ℕ) → reached u e r x ≡ true → C x ≡ true
  unfolding reached
  least C f g x h = least_in C f g (length u) x h

pub same_bools : (x y : Bool) → (x ≡ true → y ≡ true) → (y ≡ true → x ≡ true) → x ≡ y
same_bools true y f g = sym (f refl)
same_bools false true f g = g refl
same_bools false false f g = refl

-- More roots that were reached already reach no more.
module _ (u : List ℕ) (e : ℕ → ℕ → Bool) (r q : ℕ → Bool)
    (wider : (x : ℕ) → r x ≡ true → q x ≡ true)
    (found : (x : ℕ) → mem x u ≡ true → q x ≡ true → reached u e r x ≡ true) where
  inside_or : (x : ℕ) → (mem x u ≡ true → reached u e r x ≡ true) → (not (mem x u) || reached u e r x) ≡ true
  inside_or x f = by_bool (mem x u) (λ m. or_right (not (mem x u)) (reached u e r x) (f m)) (λ m. or_left (not (mem x u)) (reached u e r x) (rw m))

  inside_out : (x : ℕ) → mem x u ≡ true → (not (mem x u) || reached u e r x) ≡ true → reached u e r x ≡ true
  inside_out x m h = let v : (false || reached u e r x) ≡ true = rw m at h in v

  pub reach_same : (x : ℕ) → mem x u ≡ true → reached u e q x ≡ reached u e r x
  unfolding reached
  reach_same x m =
      same_bools (reached u e q x) (reached u e r x)
      (λ h. inside_out x m (least u e q (λ y. not (mem y u) || reached u e r y)
      (λ y k. inside_or y (λ n. found y n k))
      (λ y z n k d. inside_or z (λ o. closed u e r y z n o (inside_out y n k) d)) x h))
      (λ h. inside_out_q x (least_in u e r (λ y. reach_in u e q (length u) y || not (mem y u))
      (λ y k. or_left (reach_in u e q (length u) y) (not (mem y u)) (roots u e q (length u) y (wider y k)))
      (λ y z n k d. by_bool (mem z u)
      (λ o. or_left (reach_in u e q (length u) z) (not (mem z u)) (closed u e q y z n o (un y n k) d))
      (λ o. or_right (reach_in u e q (length u) z) (not (mem z u)) (rw o)))
      (length u) x h) m)
    where
      un : (y : ℕ) → mem y u ≡ true → (reach_in u e q (length u) y || not (mem y u)) ≡ true → reach_in u e q (length u) y ≡ true
      un y n k = elim (or_cases (reach_in u e q (length u) y) (not (mem y u)) k) [ inl a ↦ a | inr a ↦ let v : not true ≡ true = rw n at a in absurd (false≢true v) ]

      inside_out_q : (y : ℕ) → (reach_in u e q (length u) y || not (mem y u)) ≡ true → mem y u ≡ true → reach_in u e q (length u) y ≡ true
      inside_out_q y k n = un y n k

pub sum_same : (p q : ℕ → Bool) (f g : ℕ → ℕ) (xs : List ℕ) → ((x : ℕ) → mem x xs ≡ true → p x ≡ q x) → ((x : ℕ) → mem x xs ≡ true → f x ≡ g x) → sum_where p f xs ≡ sum_where q g xs
sum_same p q f g [] h k = refl
sum_same p q f g (y ∷ ys) h k = rw (h y (mem_head y ys), k y (mem_head y ys)) (ap (λ r. cond (q y) (g y) 0 + r) (sum_same p q f g ys (λ x m. h x (mem_tail x y ys m)) (λ x m. k x (mem_tail x y ys m))))
