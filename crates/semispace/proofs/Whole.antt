-- The records that calls see are a sound graph.
use Rattle.std.proofs.Common.{rules, ◌≡◌, ℕ, zero, suc, ◌+◌, ◌-◌, ◌<◌, true, false, cond, ◌⊎◌, List, [], ◌∷◌, ◌++◌, map, length, get_or, take, sym, refl, ap, ◌∙◌, subst, inl, inr, arith}
use Rattle.std.proofs.lemmas.Bool.{or_left, or_right, lt-ltb, eq-eqb, ne_eqb, false≢true}
use Rattle.std.specs.List.{range_with_len}
use Rattle.std.proofs.lemmas.List.FromFn.{length-map-range_with_len, get_or-map-range_with_len}
use Rattle.kinds.specs.Shapes.{Shape, no_shape, within}
use Rattle.graph.specs.Graph.{Record, ◌∈◌, Names, Reached, by_slot, by_field}
use Rattle.graph.specs.Sound.{Distinct, Has}
use Rattle.graph.specs.View.{Once}
use Rattle.graph.proofs.Changes.{in_map, map_in}
use Rattle.graph.specs.Sound as G
use Rattle.semispace.specs.declared.collector.Collector.{Collector}
use Rattle.semispace.specs.declared.collector.Collector.TheVariants.{Rest, Slots, Scan, Field}
use Rattle.semispace.specs.Layout.{size_at, mem, Spread}
use Rattle.semispace.specs.Words.{State, fields_at, resting, refers, kind_at, place_of, word_at}
use Rattle.semispace.specs.Sound.{the_olds, the_news, the_places, size_of, good, Twin, Sound, number, value, name, shown}
use Rattle.semispace.specs.Dues.{objects}
use Rattle.semispace.specs.Graphs.{record_of, raw_of, Known}
use Rattle.semispace.proofs.Spreads.{spread_inside, by_bool, spread_starts, mem_append, mem_left, mem_right, size_two}
use Rattle.semispace.proofs.Reserving.{olds_spread, news_spread}
use Rattle.semispace.proofs.ReserveAgree.{new_leads, old_leads_not}
use Rattle.semispace.proofs.Putting.{all, news_inside}
use Rattle.semispace.proofs.SlotSound.{good_cases}
use Rattle.semispace.proofs.Homes.{value_good, twin_number}
use Rattle.semispace.proofs.Stepping.{size_is}
use Rattle.semispace.proofs.Like.{the_mades, objs_all}
use Rattle.semispace.proofs.FieldLike.{opened_made}
use Rattle.semispace.proofs.Knowing.{objects_cycle, objects_rest}
use Rattle.semispace.proofs.Graphing.{mem_in, in_mem, rest_number, rest_home, old_number}
use Rattle.semispace.proofs.Sourcing.{source_of}

-- Each record once.
once_spread : (b : List Shape) (m : List ℕ) (a to : ℕ) (xs : List ℕ) → Spread b m a to xs → Once xs
once_spread b m a to [] s = tt
once_spread b m a to (x ∷ xs) s =
    ((λ k. let i = spread_inside b m (x + size_at b m x) to x xs s.1 (in_mem x xs k) in let z = size_two b m x in omega arith), once_spread b m (x + size_at b m x) to xs s.1)

in_append : (x : ℕ) (xs ys : List ℕ) → x ∈ (xs ++ ys) → (x ∈ xs) ⊎ (x ∈ ys)
in_append x [] ys k = inr k
in_append x (y ∷ xs) ys (inl e) = inl (inl e)
in_append x (y ∷ xs) ys (inr k) = elim (in_append x xs ys k) [ inl e ↦ inl (inr e) | inr e ↦ inr e ]

once_append : (xs ys : List ℕ) → Once xs → Once ys → ((x : ℕ) → x ∈ xs → x ∈ ys → ⊥) → Once (xs ++ ys)
once_append [] ys a b h = b
once_append (x ∷ xs) ys a b h = ((λ k. elim (in_append x xs ys k) [ inl e ↦ a.0 e | inr e ↦ h x (inl refl) e ]), once_append xs ys a.1 b (λ y p q. h y (inr p) q))

pub objects_once : (s : State) → Sound s → Once (objects s)
objects_once s S =
    let l = S.laid in
    by_bool (resting s.collector)
    (λ r. let P : List ℕ → Type 0 = λ xs. Once xs in subst P (sym (objects_rest s r)) (once_spread s.book s.memory _ _ (the_news s) (news_spread _ _ _ l)))
    (λ r. let P : List ℕ → Type 0 = λ xs. Once xs in subst P (sym (objects_cycle s r))
    (once_append (the_olds s) (the_mades s) (once_spread s.book s.memory _ _ (the_olds s) (olds_spread _ _ _ l))
    (once_spread s.book s.memory _ _ (the_mades s) (spread_starts s.book s.memory (s.halves.size + 1) _ _ l.mades_fill))
    (λ x a b. false≢true (sym (old_leads_not s l x (in_mem x (the_olds s) a)) ∙ new_leads s l x (mem_right x (the_places s) (the_mades s) (in_mem x (the_mades s) b))))))

-- An object's number is its first word.
pub object_number : (s : State) → Sound s → (x : ℕ) → mem x (objects s) ≡ true → number s x ≡ word_at s x
object_number s S x k =
    by_bool (resting s.collector)
    (λ r. rest_number s S x (rested s.collector r) (rw (objects_rest s r) at k))
    (λ r. elim (mem_append x (the_olds s) (the_mades s) (rw (objects_cycle s r) at k)) [
      | inl e ↦ old_number s S x e
      | inr e ↦ made_number x e
    ])
  where
    rested : (c : Collector) → resting c ≡ true → c ≡ Rest
    rested Rest e = refl
    rested (Slots n) e = absurd (false≢true e)
    rested (Scan n) e = absurd (false≢true e)
    rested (Field c) e = absurd (false≢true e)

    made_number : (x : ℕ) → mem x (the_mades s) ≡ true → number s x ≡ word_at s x
    made_number x e = unfold number in (let o = opened_made s S s.collector x e in rw (new_leads s S.laid x (mem_right x (the_places s) (the_mades s) e), o))

pub rested : (c : Collector) → resting c ≡ true → c ≡ Rest
rested Rest e = refl
rested (Slots n) e = absurd (false≢true e)
rested (Scan n) e = absurd (false≢true e)
rested (Field c) e = absurd (false≢true e)

distinct_map : (f : ℕ → Record) (xs : List ℕ) → Once xs → ((p q : ℕ) → p ∈ xs → q ∈ xs → (f p).number ≡ (f q).number → p ≡ q) → Distinct (map f xs)
distinct_map f [] o h = tt
distinct_map f (p ∷ ps) o h = (
  (λ s i e. let k = in_map f ps s i in
      let j : p ≡ k.0 = h p k.0 (inl refl) (inr k.1) (e ∙ ap (λ (r : Record). r.number) k.2) in
      let P : ℕ → Type 0 = λ q. q ∈ ps in
      o.0 (subst P (sym j) k.1)),
  distinct_map f ps o.1 (λ q r i j. h q r (inr i) (inr j)),
)

module _ (s : State) (S : Sound s) (K : Known s) where
  pub number_apart : (p q : ℕ) → mem p (objects s) ≡ true → mem q (objects s) ≡ true → number s p ≡ number s q → p ≡ q
  number_apart p q a b e = K.apart p q a b (sym (object_number s S p a) ∙ (e ∙ object_number s S q b))

  pub raw_distinct : Distinct (raw_of s).records
  unfolding raw_of record_of
  raw_distinct = distinct_map (record_of s) (objects s) (objects_once s S) (λ p q a b e. number_apart p q (in_mem p (objects s) a) (in_mem q (objects s) b) e)

  -- Every record that a reference can lead to has its object.
  pub record Shows (x : ℕ) : Type 0 where
    pub object : ℕ
    pub there : mem object (objects s) ≡ true
    pub number : number s x ≡ number s object

  pub shows_rest : resting s.collector ≡ true → (x : ℕ) → mem x (the_news s) ≡ true → Shows x
  shows_rest r x k = record { object = x; there = rw (objects_rest s r) k; number = refl }

  pub shows_cycle : resting s.collector ≡ false → (x : ℕ) → mem x (all s) ≡ true → Shows x
  shows_cycle r x k =
      elim (mem_append x (the_news s) (the_olds s) k) [
        | inl e ↦
            elim (mem_append x (the_places s) (the_mades s) e) [
              | inl d ↦
                  let q = source_of s x (K.sourced r x d) in
                  let o = q.from in
                  let P : ℕ → Type 0 = λ y. Twin s o y in
                  let qp = q.place in
                  let v : place_of s o - 1 ≡ x = omega arith in
                  let tw : Twin s o x = subst P v ((S.cycle r).twin o q.old (λ z. omega arith)) in
                  record { object = o; there = rw (objects_cycle s r) (mem_left o (the_olds s) (the_mades s) q.old); number = twin_number s S o x q.old tw }
              | inr d ↦ record { object = x; there = rw (objects_cycle s r) (mem_right x (the_olds s) (the_mades s) d); number = refl }
            ]
        | inr e ↦ record { object = x; there = rw (objects_cycle s r) (mem_left x (the_olds s) (the_mades s) e); number = refl }
      ]

  pub good_name : (xs : List ℕ) (r : ℕ) → good xs r ≡ true → 0 < name s r → (mem (r - 1) xs ≡ true) × (name s r ≡ number s (r - 1))
  unfolding name
  good_name xs r g l = search (rules, arith, good_cases, eq-eqb, ne_eqb)

  abbrev pub Reference : ℕ → Type 0
  Reference r = (resting s.collector ≡ true → good (the_news s) r ≡ true) × (resting s.collector ≡ false → good (all s) r ≡ true)

  leads_to : (r : ℕ) → Reference r → 0 < name s r → Has (map (record_of s) (objects s)) (name s r)
  unfolding record_of
  leads_to r g l =
      by_bool (resting s.collector)
      (λ e. let k = good_name (the_news s) r (g.0 e) l in found (r - 1) k.1 (shows_rest e (r - 1) k.0))
      (λ e. let k = good_name (all s) r (g.1 e) l in found (r - 1) k.1 (shows_cycle e (r - 1) k.0))
    where
      found : (x : ℕ) → name s r ≡ number s x → Shows x → Has (map (record_of s) (objects s)) (name s r)
      found x e k = unfold record_of in (record_of s k.object, map_in (record_of s) (objects s) k.object (mem_in k.object (objects s) k.there), sym (e ∙ k.number))

  pub slot_reference : (n : ℕ) → n < s.count → Reference (get_or s.slots n 0)
  slot_reference n l = ((λ e. S.slots_passed n l (let q = rested s.collector e in rw q)), λ e. (S.cycle e).slots_refer n l)

  rest_value : resting s.collector ≡ true → (x i : ℕ) → mem x (the_news s) ≡ true → 2 + i < size_of s x → refers s.book (kind_at s x) i ≡ true → good (the_news s) (value s x i) ≡ true
  unfolding value
  rest_value e0 x i k l r = grind (arith, rested, news_inside, or_right, or_left, lt-ltb, size_two, rest_home)

  pub field_reference : (x i : ℕ) → mem x (objects s) ≡ true → 2 + i < size_of s x → refers s.book (kind_at s x) i ≡ true → Reference (value s x i)
  field_reference x i k l r = search (rules, arith, rest_value, objects_rest, value_good, objs_all, objects_cycle)

  pub object_refers : (x i : ℕ) → mem x (objects s) ≡ true → within (get_or s.book (kind_at s x) no_shape).runs i ≡ refers s.book (kind_at s x) i
  object_refers x i k = refl

  pub shown_at : (x i : ℕ) → i < fields_at s x → get_or (map (shown s x) (range_with_len 0 (fields_at s x))) i 0 ≡ shown s x i
  shown_at x i l = get_or-map-range_with_len (shown s x) 0 (fields_at s x) i i 0 l (omega arith)

  -- A reference field of an object names what its value names.
  pub object_names : (x n : ℕ) → mem x (objects s) ≡ true → Names s.book (record_of s x) n → (i : ℕ) × (2 + i < size_of s x) × (refers s.book (kind_at s x) i ≡ true) × (name s (value s x i) ≡ n)
  unfolding record_of shown
  object_names x n k m =
      let i = m.place in
      let l0 : i < length (map (shown s x) (range_with_len 0 (fields_at s x))) = m.below in
      let e0 : length (map (shown s x) (range_with_len 0 (fields_at s x))) ≡ fields_at s x = length-map-range_with_len (shown s x) 0 (fields_at s x) in
      let l : i < fields_at s x = omega arith in
      let z = size_is s x in
      let r : refers s.book (kind_at s x) i ≡ true = sym (object_refers x i k) ∙ m.reference in
      let q : shown s x i ≡ n = sym (shown_at x i l) ∙ m.is in
      let q2 : name s (value s x i) ≡ n = cond_name i n r q in
      (i, omega arith, r, q2)
    where
      cond_name : (i n : ℕ) → refers s.book (kind_at s x) i ≡ true → shown s x i ≡ n → name s (value s x i) ≡ n
      cond_name i n r q = unfold shown in (let q3 : cond (refers s.book (kind_at s x) i) (name s (value s x i)) (value s x i) ≡ n = q in rw r at q3)

  pub slot_at : (a : ℕ) → a < length (map (name s) (take s.count s.slots)) → (a < s.count) × (get_or (map (name s) (take s.count s.slots)) a 0 ≡ name s (get_or s.slots a 0))
  slot_at a l = go s.count s.slots a l
    where
      go : (n : ℕ) (xs : List ℕ) (a : ℕ) → a < length (map (name s) (take n xs)) → (a < n) × (get_or (map (name s) (take n xs)) a 0 ≡ name s (get_or xs a 0))
      go zero xs a l = absurd (omega arith)
      go (suc n) [] a l = absurd (omega arith)
      go (suc n) (x ∷ xs) zero l = (omega arith, refl)
      go (suc n) (x ∷ xs) (suc a) l = let r = go n xs a (omega arith) in (omega arith, r.1)

  whole_raw : {n : ℕ} → Reached s.book (raw_of s) n → Has (map (record_of s) (objects s)) n
  unfolding raw_of
  whole_raw {n} (by_slot a l e z) =
      let q = slot_at a l in
      let w : name s (get_or s.slots a 0) ≡ n = sym q.1 ∙ e in
      let P : ℕ → Type 0 = λ n. Has (map (record_of s) (objects s)) n in
      subst P w (leads_to (get_or s.slots a 0) (slot_reference a q.0) (omega arith))
  whole_raw {n} (by_field r i p m z) =
      let k = in_map (record_of s) (objects s) r i in
      let x = k.0 in
      let kx = in_mem x (objects s) k.1 in
      let Q : Record → Type 0 = λ r. Names s.book r n in
      let j = object_names x n kx (subst Q k.2 m) in
      let w = j.3 in
      let P : ℕ → Type 0 = λ n. Has (map (record_of s) (objects s)) n in
      subst P w (leads_to (value s x j.0) (field_reference x j.0 kx j.1 j.2) (omega arith))

  some_slots : (n : ℕ) (xs : List ℕ) → 0 < length (map (name s) (take n xs)) → 0 < n
  some_slots zero xs l = absurd (omega arith)
  some_slots (suc n) xs l = omega arith

  pub raw_sound : G.Sound s.book (raw_of s)
  unfolding raw_of record_of
  raw_sound = search (rules, arith, raw_distinct, in_map, in_mem, object_number, length-map-range_with_len, whole_raw, some_slots)
