-- The test `reached` decides the relation `Reached`.
use Rattle.std.proofs.Common.{◌≡◌, ℕ, zero, suc, ◌<◌, Bool, true, ◌&&◌, ◌||◌, eqb, ltb, ◌⊎◌, List, [], ◌∷◌, map, length, get_or, sym, refl, ap, subst, inl, inr, ⊎_elim, suc-le-suc, zero-le, le_of_suc-le-suc, not-suc-le-zero}
use Rattle.kinds.specs.Shapes.{Shape}
use Rattle.std.proofs.lemmas.Bool.{or_cases, or_left, or_right, and_parts, and_from, eqb-true, eq-eqb, ltb-true, lt-ltb, false≢true}
use Rattle.graph.specs.Graph.{Record, Graph, refers, ◌∈◌, Names, Reached, by_slot, by_field, any, holds, names, edge, path, number, reached}
use Rattle.std.proofs.Common.{arith}
use Rattle.std.proofs.lemmas.Grind.{common_steps}

-- any
pub any_found : {X : Type 0} (p : X → Bool) (xs : List X) → any p xs ≡ true → (x : X) × (x ∈ xs) × (p x ≡ true)
any_found p [] h = absurd (false≢true h)
any_found {X} p (x ∷ xs) h = ⊎_elim (λ e. (x, inl refl, e)) (λ e. let t : (y : X) × (y ∈ xs) × (p y ≡ true) = any_found p xs e in (t.0, inr t.1, t.2)) (or_cases (p x) (any p xs) h)

pub any_from : {X : Type 0} (p : X → Bool) (xs : List X) (x : X) → x ∈ xs → p x ≡ true → any p xs ≡ true
any_from p [] x i h = absurd i
any_from p (y ∷ ys) x (inl e) h = or_left (p y) (any p ys) (subst (λ z. p z ≡ true) e h)
any_from p (y ∷ ys) x (inr i) h = or_right (p y) (any p ys) (any_from p ys x i h)

-- membership by place
pub in_get_or : {X : Type 0} (xs : List X) (k : ℕ) (d : X) → k < length xs → get_or xs k d ∈ xs
in_get_or [] k d h = absurd (not-suc-le-zero h)
in_get_or (x ∷ xs) zero d h = inl refl
in_get_or (x ∷ xs) (suc k) d h = inr (in_get_or xs k d (le_of_suc-le-suc h))

pub place_of : {X : Type 0} (xs : List X) (x d : X) → x ∈ xs → (k : ℕ) × (k < length xs) × (get_or xs k d ≡ x)
place_of [] x d i = absurd i
place_of (y ∷ ys) x d (inl e) = (0, suc-le-suc zero-le, sym e)
place_of {X} (y ∷ ys) x d (inr i) = let t : (k : ℕ) × (k < length ys) × (get_or ys k d ≡ x) = place_of ys x d i in (suc t.0, suc-le-suc t.1, t.2)

-- holds
pub holds_found : (at : ℕ → Bool) (xs : List ℕ) (n : ℕ) → holds at xs n ≡ true → (k : ℕ) × (k < length xs) × (at k ≡ true) × (get_or xs k 0 ≡ n)
holds_found at [] n h = absurd (false≢true h)
holds_found at (x ∷ xs) n h =
    ⊎_elim
    (λ e. let b = and_parts (at 0) (eqb x n) e in (0, suc-le-suc zero-le, b.0, eqb-true x n b.1))
    (λ e. let t : (k : ℕ) × (k < length xs) × (at (suc k) ≡ true) × (get_or xs k 0 ≡ n) = holds_found (λ i. at (suc i)) xs n e in (suc t.0, suc-le-suc t.1, t.2, t.3))
    (or_cases (at 0 && eqb x n) (holds (λ i. at (suc i)) xs n) h)

pub holds_from : (at : ℕ → Bool) (xs : List ℕ) (n k : ℕ) → k < length xs → at k ≡ true → get_or xs k 0 ≡ n → holds at xs n ≡ true
holds_from at [] n k l a e = absurd (not-suc-le-zero l)
holds_from at (x ∷ xs) n zero l a e = or_left (at 0 && eqb x n) (holds (λ i. at (suc i)) xs n) (and_from (at 0) (eqb x n) a (eq-eqb x n e))
holds_from at (x ∷ xs) n (suc k) l a e = or_right (at 0 && eqb x n) (holds (λ i. at (suc i)) xs n) (holds_from (λ i. at (suc i)) xs n k (le_of_suc-le-suc l) a e)

pub names_found : (book : List Shape) (r : Record) (n : ℕ) → names book r n ≡ true → Names book r n
names_found book r n h = let t = holds_found (refers book r.kind) r.fields n h in record { place = t.0; below = t.1; reference = t.2; is = t.3 }

pub names_from : (book : List Shape) (r : Record) (n : ℕ) → Names book r n → names book r n ≡ true
names_from book r n s = holds_from (refers book r.kind) r.fields n s.place s.below s.reference s.is

-- edges
pub edge_found : (book : List Shape) (rs : List Record) (i j : ℕ) → edge book rs i j ≡ true → (r : Record) × (r ∈ rs) × (r.number ≡ i) × Names book r j × (0 < j)
unfolding edge
edge_found book rs i j h =
    let z = and_parts (ltb 0 j) (any (λ (r : Record). eqb r.number i && names book r j) rs) h in
    let t = any_found (λ (r : Record). eqb r.number i && names book r j) rs z.1 in
    let b = and_parts (eqb t.0.number i) (names book t.0 j) t.2 in
    (t.0, t.1, eqb-true t.0.number i b.0, names_found book t.0 j b.1, ltb-true 0 j z.0)

pub edge_from : (book : List Shape) (rs : List Record) (r : Record) (j : ℕ) → r ∈ rs → Names book r j → 0 < j → edge book rs r.number j ≡ true
unfolding edge
edge_from book rs r j i s l = and_from (ltb 0 j) (any (λ (q : Record). eqb q.number r.number && names book q j) rs) (lt-ltb 0 j l) (any_from (λ (q : Record). eqb q.number r.number && names book q j) rs r i (and_from (eqb r.number r.number) (names book r j) (eq-eqb r.number r.number refl) (names_from book r j s)))

-- paths compose at each number that may stand between
module _ (e : ℕ → ℕ → Bool) where
  pub path_edge : (ms : List ℕ) (i j : ℕ) → e i j ≡ true → path e ms i j ≡ true
  unfolding path
  path_edge [] i j h = h
  path_edge (m ∷ ms) i j h = or_left (path e ms i j) (path e ms i m && path e ms m j) (path_edge ms i j h)

  into : (ms : List ℕ) (m i j : ℕ) → path e (m ∷ ms) i j ≡ true → (path e ms i j ≡ true) ⊎ ((path e ms i m ≡ true) × (path e ms m j ≡ true))
  unfolding path
  into ms m i j h = grind (arith, common_steps)

  over : (ms : List ℕ) (m i j : ℕ) → path e ms i m ≡ true → path e ms m j ≡ true → path e (m ∷ ms) i j ≡ true
  unfolding path
  over ms m i j p q = grind (arith, common_steps)

  more : (ms : List ℕ) (m i j : ℕ) → path e ms i j ≡ true → path e (m ∷ ms) i j ≡ true
  unfolding path
  more ms m i j p = grind (arith, common_steps)

  to_itself : (ms : List ℕ) (m i : ℕ) → path e (m ∷ ms) i m ≡ true → path e ms i m ≡ true
  to_itself ms m i h = ⊎_elim (λ k. k) (λ k. k.0) (into ms m i m h)

  from_itself : (ms : List ℕ) (m j : ℕ) → path e (m ∷ ms) m j ≡ true → path e ms m j ≡ true
  from_itself ms m j h = ⊎_elim (λ k. k) (λ k. k.1) (into ms m m j h)

  pub path_joins : (ms : List ℕ) (i k j : ℕ) → k ∈ ms → path e ms i k ≡ true → path e ms k j ≡ true → path e ms i j ≡ true
  path_joins [] i k j h p q = absurd h
  path_joins (m ∷ ms) i k j (inl s) p q =
      over ms m i j
      (to_itself ms m i (subst (λ z. path e (m ∷ ms) i z ≡ true) s p))
      (from_itself ms m j (subst (λ z. path e (m ∷ ms) z j ≡ true) s q))
  path_joins (m ∷ ms) i k j (inr h) p q =
      ⊎_elim
      (λ a. ⊎_elim (λ b. more ms m i j (path_joins ms i k j h a b)) (λ b. over ms m i j (path_joins ms i k m h a b.0) b.1) (into ms m k j q))
      (λ a. ⊎_elim (λ b. over ms m i j a.0 (path_joins ms m k j h a.1 b)) (λ b. over ms m i j a.0 b.1) (into ms m k j q))
      (into ms m i k p)

-- what a path leads to from what is reached is reached
pub path_reaches : (book : List Shape) (g : Graph) (ms : List ℕ) (i j : ℕ) → path (edge book g.records) ms i j ≡ true → Reached book g i → Reached book g j
unfolding path
path_reaches book g [] i j h r =
    let t = edge_found book g.records i j h in
    by_field t.0 t.1 (subst (λ n. Reached book g n) (sym t.2) r) t.3 t.4
path_reaches book g (m ∷ ms) i j h r =
    ⊎_elim
    (λ a. path_reaches book g ms i j a r)
    (λ a. path_reaches book g ms m j a.1 (path_reaches book g ms i m a.0 r))
    (into (edge book g.records) ms m i j h)

-- what the test asks of a slot's number
abbrev leads : List Shape → Graph → ℕ → ℕ → Bool
leads book g n s = ltb 0 s && (eqb s n || path (edge book g.records) (map number g.records) s n)

leads_from : (book : List Shape) (g : Graph) (n s : ℕ) → 0 < s → (s ≡ n) ⊎ (path (edge book g.records) (map number g.records) s n ≡ true) → leads book g n s ≡ true
leads_from book g n s l h = grind (arith, common_steps)

leads_found : (book : List Shape) (g : Graph) (n s : ℕ) → leads book g n s ≡ true → (0 < s) × ((s ≡ n) ⊎ (path (edge book g.records) (map number g.records) s n ≡ true))
leads_found book g n s h = grind (arith, common_steps)

pub reached_sound : (book : List Shape) (g : Graph) (n : ℕ) → reached book g n ≡ true → Reached book g n
unfolding reached
reached_sound book g n h =
    let t = any_found (leads book g n) g.slots h in
    let p = place_of g.slots t.0 0 t.1 in
    let z = leads_found book g n t.0 t.2 in
    let r : Reached book g t.0 = by_slot p.0 p.1 p.2 z.0 in
    ⊎_elim
    (λ a. subst (λ m. Reached book g m) a r)
    (λ a. path_reaches book g (map number g.records) t.0 n a r)
    z.1

in_numbers : (rs : List Record) (r : Record) → r ∈ rs → r.number ∈ map number rs
in_numbers [] r i = absurd i
in_numbers (s ∷ ss) r (inl e) = inl (ap number e)
in_numbers (s ∷ ss) r (inr i) = inr (in_numbers ss r i)

pub reached_complete : (book : List Shape) (g : Graph) {n : ℕ} → Reached book g n → reached book g n ≡ true
unfolding reached
reached_complete book g {n} (by_slot a l e z) =
    any_from (leads book g n) g.slots (get_or g.slots a 0) (in_get_or g.slots a 0 l)
    (leads_from book g n (get_or g.slots a 0) (subst (λ m. 0 < m) (sym e) z) (inl e))
reached_complete book g {n} (by_field r i h s z) =
    let t = any_found (leads book g r.number) g.slots (reached_complete book g h) in
    let y = leads_found book g r.number t.0 t.2 in
    let ns = map number g.records in
    let E = edge book g.records in
    let step : path E ns r.number n ≡ true = path_edge E ns r.number n (edge_from book g.records r n i s z) in
    any_from (leads book g n) g.slots t.0 t.1
    (leads_from book g n t.0 y.0 (inr
    (⊎_elim
    (λ a. subst (λ m. path E ns m n ≡ true) (sym a) step)
    (λ a. path_joins E ns t.0 r.number n (in_numbers g.records r i) a step)
    y.1)))
