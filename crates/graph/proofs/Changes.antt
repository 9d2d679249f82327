-- A call on a list of records means the same call on its graph: garbage does not matter.
use Rattle.std.proofs.Common.{◌≡◌, ℕ, zero, suc, ◌<◌, true, eqb, ◌⊎◌, List, [], ◌∷◌, map, length, get_or, set, sym, refl, ap, ◌∙◌, subst, inl, inr, ⊎_elim, arith}
use Rattle.kinds.specs.Shapes.{Shape}
use Rattle.std.proofs.lemmas.Bool.{eqb-true, eqb-false, eq-eqb, ne_eqb, cases_eq, cases_lt, cond_both, cond-true, cond-false}
use Rattle.std.proofs.lemmas.List.{length-set, get_or-set_same, get_or-set_other, get_or_past}
use Rattle.graph.specs.Graph.{Record, Graph, refers, ◌∈◌, Names, Reached, by_slot, by_field, prune}
use Rattle.graph.specs.Calls.{make, no_record, find, put, fresh, held, changed}
use Rattle.graph.specs.Sound.{Distinct, Sound, Same, Slot}
use Rattle.graph.proofs.Prune.{same_prune, prune_distinct, in_prune}
use Rattle.std.proofs.lemmas.Grind.{common_steps}

-- find
pub find_in : (rs : List Record) (r : Record) (n : ℕ) → Distinct rs → r ∈ rs → r.number ≡ n → find rs n ≡ r
find_in [] r n d i e = absurd i
find_in (s ∷ ss) r n d (inl p) e = cond-true (eqb s.number n) s (find ss n) (eq-eqb s.number n (ap (λ (q : Record). q.number) (sym p) ∙ e)) ∙ sym p
find_in (s ∷ ss) r n d (inr i) e =
    cond-false (eqb s.number n) s (find ss n) (ne_eqb s.number n (λ k. d.0 r i (k ∙ sym e))) ∙ find_in ss r n d.1 i e

pub find_none : (rs : List Record) (n : ℕ) → ((r : Record) → r ∈ rs → r.number ≡ n → ⊥) → find rs n ≡ no_record
find_none [] n f = refl
find_none (s ∷ ss) n f = cond-false (eqb s.number n) s (find ss n) (ne_eqb s.number n (f s (inl refl))) ∙ find_none ss n (λ r i. f r (inr i))

pub find_cases : (rs : List Record) (n : ℕ) → ((find rs n ∈ rs) × ((find rs n).number ≡ n)) ⊎ ((r : Record) → r ∈ rs → r.number ≡ n → ⊥)
find_cases [] n = inr (λ r i. absurd i)
find_cases (s ∷ ss) n =
    cond_both (eqb s.number n) s (find ss n) (λ (q : Record). ((q ∈ (s ∷ ss)) × (q.number ≡ n)) ⊎ ((r : Record) → r ∈ (s ∷ ss) → r.number ≡ n → ⊥))
    (λ b. inl (inl refl, eqb-true s.number n b))
    (λ b. ⊎_elim (λ k. inl (inr k.0, k.1)) (λ k. inr (λ r. ⊎_elim (λ p e. eqb-false s.number n b (ap (λ (q : Record). q.number) (sym p) ∙ e)) (λ i e. k r i e))) (find_cases ss n))

pub find_same : (book : List Shape) (g h : Graph) → Same book g h → Distinct g.records → Distinct h.records → (n : ℕ) → Reached book g n → find g.records n ≡ find h.records n
find_same book g h s d e n q =
    ⊎_elim
    (λ k. sym (find_in h.records (find g.records n) n e (s.there (find g.records n) k.0 (subst (λ m. Reached book g m) (sym k.1) q)) k.1))
    (λ k. find_none g.records n k ∙ sym (find_none h.records n (λ r i p. k r (s.back r i (subst (λ m. Reached book g m) (sym p) q)) p)))
    (find_cases g.records n)

-- what a slot holds is reached
pub slot_reached : (book : List Shape) (g : Graph) (a : ℕ) → 0 < get_or g.slots a 0 → Reached book g (get_or g.slots a 0)
slot_reached book g a z =
    ⊎_elim
    (λ l. by_slot a l refl z)
    (λ l. let e : get_or g.slots a 0 ≡ 0 = get_or_past g.slots a 0 l in absurd (omega arith))
    (cases_lt a (length g.slots))

zero_or : (n : ℕ) → (n ≡ 0) ⊎ (0 < n)
zero_or zero = inl refl
zero_or (suc n) = inr (omega arith)

pub held_prune : (book : List Shape) (g : Graph) → Sound book g → (a : ℕ) → find (prune book g).records (get_or g.slots a 0) ≡ held g a
held_prune book g w a =
    ⊎_elim
    (λ e.
    find_none (prune book g).records (get_or g.slots a 0) (λ r i p. let k : 0 < r.number = (w.given r (in_prune book g r i).0).0 in omega arith)
    ∙ sym (find_none g.records (get_or g.slots a 0) (λ r i p. let k : 0 < r.number = (w.given r i).0 in omega arith)))
    (λ z. sym (find_same book g (prune book g) (same_prune book g) w.distinct (prune_distinct book g w.distinct) (get_or g.slots a 0) (slot_reached book g a z)))
    (zero_or (get_or g.slots a 0))

-- a record that a slot holds
pub held_in : (book : List Shape) (g : Graph) → Sound book g → (a : ℕ) → 0 < get_or g.slots a 0 → (held g a ∈ g.records) × ((held g a).number ≡ get_or g.slots a 0)
held_in book g w a z =
    let k = w.whole (get_or g.slots a 0) (slot_reached book g a z) in
    ⊎_elim (λ t. t) (λ f. absurd (f k.0 k.1 k.2)) (find_cases g.records (get_or g.slots a 0))

-- maps
pub in_map : {X Y : Type 0} (f : X → Y) (xs : List X) (t : Y) → t ∈ map f xs → (x : X) × (x ∈ xs) × (t ≡ f x)
in_map f [] t i = absurd i
in_map f (x ∷ xs) t (inl e) = (x, inl refl, e)
in_map f (x ∷ xs) t (inr i) = let k = in_map f xs t i in (k.0, inr k.1, k.2)

pub map_in : {X Y : Type 0} (f : X → Y) (xs : List X) (x : X) → x ∈ xs → f x ∈ map f xs
map_in f [] x i = absurd i
map_in f (y ∷ ys) x (inl e) = inl (ap f e)
map_in f (y ∷ ys) x (inr i) = inr (map_in f ys x i)

pub map_distinct : (f : Record → Record) → ((r : Record) → (f r).number ≡ r.number) → (rs : List Record) → Distinct rs → Distinct (map f rs)
map_distinct f n [] d = tt
map_distinct f n (r ∷ rs) d =
    ((λ s i e. let k = in_map f rs s i in d.0 k.0 k.1 (sym (n r) ∙ e ∙ ap (λ (q : Record). q.number) k.2 ∙ n k.0)), map_distinct f n rs d.1)

pub put_number : (n i v : ℕ) (r : Record) → (put n i v r).number ≡ r.number
put_number n i v r = grind (arith, common_steps)

pub put_kind : (n i v : ℕ) (r : Record) → (put n i v r).kind ≡ r.kind
put_kind n i v r = grind (arith, common_steps)

pub put_length : (n i v : ℕ) (r : Record) → length (put n i v r).fields ≡ length r.fields
put_length n i v r = grind (arith, common_steps)

pub put_names : (book : List Shape) (n i v m : ℕ) (r : Record) → Names book (put n i v r) m → Names book r m ⊎ ((r.number ≡ n) × (m ≡ v) × (refers book r.kind i ≡ true))
put_names book n i v m r = grind (arith, common_steps)

-- nothing but what was reached is reached after
pub slots_down : (book : List Shape) (g : Graph) (xs : List ℕ) (n' : ℕ) → ((a : ℕ) → a < length xs → 0 < get_or xs a 0 → Reached book g (get_or xs a 0)) → {n : ℕ} → Reached book (record { slots = xs; next = n'; records = g.records }) n → Reached book g n
slots_down book g xs n' f (by_slot a l e z) = subst (λ m. Reached book g m) e (f a l (subst (λ m. 0 < m) (sym e) z))
slots_down book g xs n' f (by_field r i q s z) = by_field r i (slots_down book g xs n' f q) s z

pub set_slots : (book : List Shape) (g : Graph) (b v : ℕ) → (0 < v → Reached book g v) → (a : ℕ) → a < length (set g.slots b v) → 0 < get_or (set g.slots b v) a 0 → Reached book g (get_or (set g.slots b v) a 0)
set_slots book g b v f a l z =
    let k : a < length g.slots = subst (λ n. a < n) (length-set g.slots b v) l in
    ⊎_elim
    (λ e. let p : get_or (set g.slots b v) a 0 ≡ v = ap (λ c. get_or (set g.slots b v) c 0) e ∙ get_or-set_same g.slots b v 0 (subst (λ c. c < length g.slots) e k) in
    subst (λ m. Reached book g m) (sym p) (f (subst (λ m. 0 < m) p z)))
    (λ ne. let p : get_or (set g.slots b v) a 0 ≡ get_or g.slots a 0 = get_or-set_other g.slots b a v 0 ne in
    subst (λ m. Reached book g m) (sym p) (slot_reached book g a (subst (λ m. 0 < m) p z)))
    (cases_eq a b)

pub map_down : (book : List Shape) (g : Graph) (f : Record → Record) → ((r : Record) → (f r).number ≡ r.number) → ((r : Record) → r ∈ g.records → Reached book g r.number → (m : ℕ) → Names book (f r) m → 0 < m → Reached book g m) → {n : ℕ} → Reached book (record { slots = g.slots; next = g.next; records = map f g.records }) n → Reached book g n
map_down book g f same ok (by_slot a l e z) = by_slot a l e z
map_down book g f same ok {n} (by_field t i q s z) =
    let k = in_map f g.records t i in
    let p : t.number ≡ k.0.number = ap (λ (x : Record). x.number) k.2 ∙ same k.0 in
    ok k.0 k.1 (subst (λ m. Reached book g m) p (map_down book g f same ok q)) n (subst (λ (x : Record). Names book x n) k.2 s) z

fresh_names : (book : List Shape) (n k m : ℕ) → Names book (fresh book n k) m → m ≡ 0
fresh_names book n k m s = grind (arith, common_steps)

pub make_down : (book : List Shape) (g : Graph) → Sound book g → (a k : ℕ) → Slot g a → {n : ℕ} → Reached book (changed book g (make a k)) n → Reached book g n ⊎ (n ≡ g.next)
make_down book g w a k l (by_slot b lb e z) =
    let m : b < length g.slots = subst (λ x. b < x) (length-set g.slots a g.next) lb in
    ⊎_elim
    (λ p. inr (sym e ∙ ap (λ c. get_or (set g.slots a g.next) c 0) p ∙ get_or-set_same g.slots a g.next 0 l))
    (λ ne. inl (by_slot b m (sym (get_or-set_other g.slots a b g.next 0 ne) ∙ e) z))
    (cases_eq b a)
make_down book g w a k l {n} (by_field r (inl p) q s z) =
    let o : n ≡ 0 = fresh_names book g.next k n (subst (λ (x : Record). Names book x n) p s) in absurd (omega arith)
make_down book g w a k l (by_field r (inr i) q s z) =
    ⊎_elim
    (λ t. inl (by_field r i t s z))
    (λ e. let o : r.number < g.next = (w.given r i).1 in absurd (omega arith))
    (make_down book g w a k l q)
