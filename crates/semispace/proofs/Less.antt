-- A state in which less is named keeps less, and no more is due.
use Rattle.std.proofs.Common.{rules, ◌≡◌, ℕ, zero, suc, ◌+◌, ◌-◌, ◌<◌, ◌≤◌, Bool, true, false, not, ◌&&◌, ◌||◌, eqb, ◌⊎◌, List, [], ◌∷◌, map, length, get_or, take, sym, refl, ap, ◌∙◌, ap₂, inl, inr, arith}
use Rattle.std.proofs.lemmas.Bool.{or_cases, or_left, or_right, and_right, and_from, and_parts, eqb-true, eq-eqb, false≢true}
use Rattle.kinds.specs.Shapes.{Shape}
use Rattle.semispace.specs.Layout.{mem}
use Rattle.semispace.specs.Words.{State, resting, refers}
use Rattle.semispace.specs.Sound.{the_olds, the_news, size_of, opened_at, Sound, number, name}
use Rattle.semispace.specs.Dues.{objects, names_below, edge, root, lives, kept, opened_record, pending}
use Rattle.semispace.specs.Reach.{some, reached, sum_where}
use Rattle.semispace.proofs.Spreads.{by_bool, mem_cases, mem_head, mem_left, size_two}
use Rattle.semispace.proofs.Like.{objs, Like, objs_all}
use Rattle.semispace.proofs.Likes.{like_objs, like_size}
use Rattle.semispace.proofs.Knowing.{objects_cycle}
use Rattle.semispace.proofs.Graphing.{slots_eq}
use Rattle.semispace.proofs.Reaching.{some_from, some_is, closed, roots, least}

-- What is reached grows with roots and edges.
module _ (u : List ℕ) (e : ℕ → ℕ → Bool) (r : ℕ → Bool) (f : ℕ → ℕ → Bool) (q : ℕ → Bool)
    (rooted : (x : ℕ) → mem x u ≡ true → r x ≡ true → reached u f q x ≡ true)
    (edged : (y x : ℕ) → mem y u ≡ true → mem x u ≡ true → e y x ≡ true → f y x ≡ true) where
  inside : (x : ℕ) → (mem x u ≡ true → reached u f q x ≡ true) → (not (mem x u) || reached u f q x) ≡ true
  inside x h = by_bool (mem x u) (λ m. or_right (not (mem x u)) (reached u f q x) (h m)) (λ m. or_left (not (mem x u)) (reached u f q x) (rw m))

  out : (x : ℕ) → mem x u ≡ true → (not (mem x u) || reached u f q x) ≡ true → reached u f q x ≡ true
  out x m h = let v : (false || reached u f q x) ≡ true = rw m at h in v

  pub reach_more : (x : ℕ) → mem x u ≡ true → reached u e r x ≡ true → reached u f q x ≡ true
  reach_more x m h =
      out x m (least u e r (λ y. not (mem y u) || reached u f q y)
      (λ y k. inside y (λ n. rooted y n k))
      (λ y z n k d. inside z (λ o. closed u f q y z n o (out y n k) (edged y z n o d))) x h)

pub sum_le : (p q : ℕ → Bool) (f g : ℕ → ℕ) (xs : List ℕ) → ((x : ℕ) → mem x xs ≡ true → p x ≡ true → q x ≡ true) → ((x : ℕ) → mem x xs ≡ true → f x ≤ g x) → sum_where p f xs ≤ sum_where q g xs
sum_le p q f g [] h k = omega arith
sum_le p q f g (y ∷ ys) h k = search (rules, arith, or_right, mem_head, sum_le p q f g ys (λ x m. h x (or_right (eqb x y) (mem x ys) m)) (λ x m. k x (or_right (eqb x y) (mem x ys) m)))

pub sum_less : (p q : ℕ → Bool) (f g : ℕ → ℕ) (xs : List ℕ) (o : ℕ) → ((x : ℕ) → mem x xs ≡ true → p x ≡ true → q x ≡ true) → ((x : ℕ) → mem x xs ≡ true → f x ≤ g x) → mem o xs ≡ true → p o ≡ false → q o ≡ true → sum_where p f xs + g o ≤ sum_where q g xs
sum_less p q f g [] o h k m nay yea = absurd (false≢true m)
sum_less p q f g (y ∷ ys) o h k m nay yea =
    elim (mem_cases o y ys m) [
      | inl d ↦
          let r = sum_le p q f g ys (λ x m. h x (or_right (eqb x y) (mem x ys) m)) (λ x m. k x (or_right (eqb x y) (mem x ys) m)) in
          let n1 : p y ≡ false = rw d at nay in
          let y1 : q y ≡ true = rw d at yea in
          let gy : g o ≡ g y = ap g d in
          rw (n1, y1) (omega arith)
      | inr d ↦
          let r = sum_less p q f g ys o (λ x m. h x (or_right (eqb x y) (mem x ys) m)) (λ x m. k x (or_right (eqb x y) (mem x ys) m)) d nay yea in
          let l = k y (mem_head y ys) in
          by_bool (p y) (λ e. rw (e, h y (mem_head y ys) e) (omega arith)) (λ e. rw e (omega arith))
    ]

pub some_map : (f : ℕ → ℕ) (n : ℕ) (xs : List ℕ) → some (λ r. eqb (f r) n) xs ≡ some (λ v. eqb v n) (map f xs)
some_map f n [] = refl
some_map f n (x ∷ xs) = ap (λ b. eqb (f x) n || b) (some_map f n xs)

-- Less may be left.
pub record Less (s t : State) : Type 0 where
  pub kept : kept t ≤ kept s
  pub pending : pending t ≤ pending s

pub less_refl : (s : State) → Less s s
less_refl s = record { kept = omega arith; pending = omega arith }

pub less_trans : (s t u : State) → Less s t → Less t u → Less s u
less_trans s t u a b = record { kept = omega (arith, a.kept, b.kept); pending = omega (arith, a.pending, b.pending) }

pub root_new : (s : State) (p b : ℕ) → mem p (the_news s) ≡ true → number s p ≡ number s b → root s b ≡ true
unfolding root
root_new s p b k e = or_right _ (some (λ p. eqb (number s p) (number s b)) (the_news s)) (some_from (λ p. eqb (number s p) (number s b)) (the_news s) p k (eq-eqb (number s p) (number s b) e))

pub root_slot : (s : State) (n b : ℕ) → s.count ≤ length s.slots → n < s.count → name s (get_or s.slots n 0) ≡ number s b → root s b ≡ true
unfolding root
root_slot s n b en l e = or_left (some (λ r. eqb (name s r) (number s b)) (take s.count s.slots)) _ (go s.count s.slots n en l e)
  where
    go : (k : ℕ) (xs : List ℕ) (n : ℕ) → k ≤ length xs → n < k → name s (get_or xs n 0) ≡ number s b → some (λ r. eqb (name s r) (number s b)) (take k xs) ≡ true
    go zero xs n en l e = absurd (omega arith)
    go (suc k) [] n en l e = absurd (omega arith)
    go (suc k) (x ∷ xs) zero en l e = or_left (eqb (name s x) (number s b)) _ (eq-eqb (name s x) (number s b) e)
    go (suc k) (x ∷ xs) (suc n) en l e = or_right (eqb (name s x) (number s b)) _ (go k xs n (omega arith) (omega arith) e)

pub root_cases : (s : State) (b : ℕ) → root s b ≡ true → (some (λ v. eqb v (number s b)) (map (name s) (take s.count s.slots)) ≡ true) ⊎ ((p : ℕ) × (mem p (the_news s) ≡ true) × (number s p ≡ number s b))
unfolding root
root_cases s b h =
    elim (or_cases (some (λ r. eqb (name s r) (number s b)) (take s.count s.slots)) (some (λ p. eqb (number s p) (number s b)) (the_news s)) h) [
      | inl e ↦ inl (sym (some_map (name s) (number s b) (take s.count s.slots)) ∙ e)
      | inr e ↦ let w = some_is (λ p. eqb (number s p) (number s b)) (the_news s) e in inr (w.0, w.1, eqb-true (number s w.0) (number s b) w.2)
    ]

pub root_names : (s : State) (b : ℕ) → some (λ v. eqb v (number s b)) (map (name s) (take s.count s.slots)) ≡ true → root s b ≡ true
unfolding root
root_names s b e = or_left (some (λ r. eqb (name s r) (number s b)) (take s.count s.slots)) _ (some_map (name s) (number s b) (take s.count s.slots) ∙ e)

pub lives_root : (s : State) (b : ℕ) → root s b ≡ true → lives s b ≡ true
unfolding lives reached
lives_root s b e = roots (objects s) (edge s) (root s) (length (objects s)) b e

pub lives_edge : (s : State) (a b : ℕ) → mem a (objects s) ≡ true → mem b (objects s) ≡ true → lives s a ≡ true → edge s a b ≡ true → lives s b ≡ true
unfolding lives
lives_edge s a b ka kb h e = closed (objects s) (edge s) (root s) a b ka kb h e

pub opened_from : (s : State) (p a : ℕ) → mem p (the_news s) ≡ true → number s p ≡ number s a → opened_at s.halves s.collector p ≡ true → opened_record s a ≡ true
unfolding opened_record
opened_from s p a k e o = some_from (λ p. eqb (number s p) (number s a) && opened_at s.halves s.collector p) (the_news s) p k (and_from (eqb (number s p) (number s a)) _ (eq-eqb (number s p) (number s a) e) o)

pub opened_is : (s : State) (a : ℕ) → opened_record s a ≡ true → (p : ℕ) × (mem p (the_news s) ≡ true) × (number s p ≡ number s a) × (opened_at s.halves s.collector p ≡ true)
unfolding opened_record
opened_is s a h = search (rules, arith, some_is, and_parts, eqb-true)

module _ (s t : State) (S : Sound s) (T : Sound t) (going : resting s.collector ≡ false) (L : Like s t)
    (rooted : (p : ℕ) → mem p (the_news t) ≡ true → (mem p (the_news s) ≡ true) ⊎ ((b : ℕ) × (mem b (objs s) ≡ true) × (number t p ≡ number s b) × (lives s b ≡ true)))
    (apart : (a b : ℕ) → mem a (objs s) ≡ true → mem b (objs s) ≡ true → number s a ≡ number s b → a ≡ b)
    (opens : (p : ℕ) → mem p (the_news s) ≡ true → opened_at s.halves s.collector p ≡ true → opened_at t.halves t.collector p ≡ true)
  where
    lists : objects t ≡ objects s
    lists = objects_cycle t L.going ∙ (like_objs s t L ∙ sym (objects_cycle s going))

    to_objs : (x : ℕ) → mem x (objects s) ≡ true → mem x (objs s) ≡ true
    to_objs x k = rw (objects_cycle s going) at k

    names_like : (a n i : ℕ) → mem a (objs s) ≡ true → i + 2 ≤ size_of s a → names_below t a n i ≡ names_below s a n i
    unfolding names_below
    names_like a n zero k l = refl
    names_like a n (suc i) k l =
        ap₂ (λ u v. u || v) (names_like a n i k (omega arith))
        (ap₂ (λ u v. u && v) (ap₂ (λ (b : List Shape) k. refers b k i) L.book (L.kind a (objs_all s a k))) (ap (λ v. eqb v n) (L.shown a i k (omega arith))))

    edge_like : (a b : ℕ) → mem a (objs s) ≡ true → mem b (objs s) ≡ true → edge t a b ≡ edge s a b
    unfolding edge
    edge_like a b ka kb = grind (arith, like_size, objs_all, names_like, size_two)

    root_like : (x : ℕ) → mem x (objs s) ≡ true → root t x ≡ true → lives s x ≡ true
    root_like x k h =
        let nx = L.number x (objs_all s x k) in
        elim (root_cases t x h) [
          | inl e ↦
              let q = slots_eq s t S.enough T.enough L.count L.slots in
              let e2 : some (λ v. eqb v (number s x)) (map (name s) (take s.count s.slots)) ≡ true = ap₂ (λ n xs. some (λ v. eqb v n) xs) (sym nx) (sym q) ∙ e in
              lives_root s x (root_names s x e2)
          | inr w ↦
              elim (rooted w.0 w.1) [
                | inl kp ↦ lives_root s x (root_new s w.0 x kp (sym (L.number w.0 (mem_left w.0 (the_news s) (the_olds s) kp)) ∙ (w.2 ∙ nx)))
                | inr b ↦
                    let same : b.0 ≡ x = apart b.0 x b.1 k (sym b.2 ∙ (w.2 ∙ nx)) in
                    rw same at b.3
              ]
        ]

    pub lives_like : (x : ℕ) → mem x (objects s) ≡ true → lives t x ≡ true → lives s x ≡ true
    unfolding lives
    lives_like x k h = grind (arith, lists, reach_more, root_like, to_objs, edge_like)

    opened_like2 : (x : ℕ) → mem x (objs s) ≡ true → opened_record s x ≡ true → opened_record t x ≡ true
    opened_like2 x k h =
        let w = opened_is s x h in
        opened_from t w.0 x (L.news w.0 w.1) (L.number w.0 (mem_left w.0 (the_news s) (the_olds s) w.1) ∙ (w.2 ∙ sym (L.number x (objs_all s x k)))) (opens w.0 w.1 w.3)

    pub left_like : (x : ℕ) → mem x (objects s) ≡ true → (lives t x && not (opened_record t x)) ≡ true → (lives s x && not (opened_record s x)) ≡ true
    left_like x k h = grind (arith, and_parts, and_from, lives_like, opened_like2, to_objs)

    size_same : (x : ℕ) → mem x (objects s) ≡ true → size_of t x ≡ size_of s x
    size_same x k = like_size s t L x (objs_all s x (to_objs x k))

    pub less_like : Less s t
    unfolding kept pending
    less_like = search (rules, arith, kept, sum_le, lives_like, size_same, lists, pending, left_like)

    pub opened_less : (o : ℕ) → mem o (objects s) ≡ true → lives s o ≡ true → opened_record s o ≡ false → opened_record t o ≡ true → pending t + (size_of s o - 1) ≤ pending s
    unfolding pending
    opened_less o k li nay yea = grind (arith, sum_less, left_like, size_same, and_right, and_from, lists)
