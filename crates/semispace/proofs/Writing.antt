-- A field is written at its home: what the graph shows after it.
use Rattle.std.proofs.Common.{rules, ◌≡◌, ℕ, zero, suc, ◌+◌, ◌-◌, ◌%◌, ◌<◌, ◌≤◌, Bool, true, false, cond, not, ◌&&◌, ◌||◌, eqb, leb, ◌≢◌, ◌⊎◌, List, [], ◌∷◌, map, get_or, take, set, sym, refl, ap, ◌∙◌, subst, ap₂, inl, inr, arith}
use Rattle.std.proofs.lemmas.Bool.{eqb-false, or_left, or_right, le-leb, and_from, and_parts, cond-true, cond-false, eq-eqb, ne_eqb, cases_eq, false≢true}
use Rattle.std.specs.List.{range_with_len}
use Rattle.graph.specs.Graph.{size, Graph}
use Rattle.graph.specs.Calls as GC
use Rattle.semispace.specs.declared.collector.Collector.{Collector}
use Rattle.semispace.specs.declared.collector.Collector.TheVariants.{Rest, Slots, Scan, Field}
use Rattle.semispace.specs.Layout.{mem}
use Rattle.semispace.specs.Words.{home, State, put_at, fields_at, own, resting, refers, kind_at, place_of, word_at}
use Rattle.semispace.specs.Sound.{the_olds, the_news, the_places, size_of, good, At, Sound, number, value, name, shown}
use Rattle.semispace.specs.Dues.{objects, edge, root, lives, kept, opened_record, slots_left, fields_left, pending, due}
use Rattle.semispace.specs.Graphs.{record_of, raw_of, Known}
use Rattle.semispace.specs.Reach.{some, reached, sum_where}
use Rattle.semispace.proofs.Spreads.{by_bool, mem_head, mem_append, mem_left, mem_right, size_two}
use Rattle.semispace.proofs.Reserving.{places_inside, mades_inside}
use Rattle.semispace.proofs.ReserveSound.{good_more}
use Rattle.semispace.proofs.ReserveAgree.{new_leads, old_leads_not}
use Rattle.semispace.proofs.Putting.{all}
use Rattle.semispace.proofs.SlotSound.{good_cases}
use Rattle.semispace.proofs.Stepping.{size_is}
use Rattle.semispace.proofs.Homes.{size_by_kind}
use Rattle.semispace.proofs.Like.{the_mades, objs, objs_all}
use Rattle.semispace.proofs.Likes.{name_of}
use Rattle.semispace.proofs.Knowing.{objects_cycle, objects_rest}
use Rattle.semispace.proofs.Graphing.{counting_same, record_eq, record_of_eq, graph_eq, slots_eq, rest_home}
use Rattle.semispace.proofs.Whole.{object_number, rested, number_apart, slot_reference, field_reference, Reference}
use Rattle.semispace.proofs.Reaching.{least}
use Rattle.semispace.proofs.Less.{sum_le, Less, root_new, root_cases, root_names, lives_root, lives_edge, opened_from, opened_is}
use Rattle.semispace.proofs.Gaining.{due_is}
use Rattle.semispace.proofs.Progress.{edge_from}
use Rattle.semispace.proofs.Bounding.{names_is}
use Rattle.semispace.proofs.Collecting.{due_rest}
use Rattle.semispace.proofs.Seeing.{place_once}
use Rattle.semispace.proofs.FieldPut.{news_p, size_p, tag_p, word_p, here_p, put_sound, objects_p, objects_all, put_known, home_p, number_p}

-- Where an object's field is.
pub record HomeOf (s : State) (x n : ℕ) : Type 0 where
  pub inside : mem (home s x n) (all s) ≡ true
  pub kind : kind_at s (home s x n) ≡ kind_at s x
  pub way : (home s x n ≡ x) ⊎ ((mem x (the_olds s) ≡ true) × (mem (home s x n) (the_places s) ≡ true) × (place_of s x ≡ home s x n + 1) × (resting s.collector ≡ false))

module _ (s : State) (S : Sound s) (K : Known s) where
  pub home_of : (x n : ℕ) → mem x (objects s) ≡ true → HomeOf s x n
  home_of x n k =
      let self : home s x n ≡ x → mem x (all s) ≡ true → HomeOf s x n = λ e m. record { inside = rw e m; kind = ap (kind_at s) e; way = inl e } in
      by_bool (resting s.collector)
      (λ e. let m : mem x (the_news s) ≡ true = rw (objects_rest s e) at k in self (rest_home s S x n (rested s.collector e) m) (mem_left x (the_news s) (the_olds s) m))
      (λ e.
      let m : mem x (objs s) ≡ true = rw (objects_cycle s e) at k in
      elim (mem_append x (the_olds s) (the_mades s) m) [
        | inl o ↦
            let ol = old_leads_not s S.laid x o in
            by_bool (eqb (place_of s x) 0)
            (λ z. self (rw (ol, z)) (objs_all s x m))
            (λ z. by_bool (own s.halves s.collector (place_of s x - 1) n)
            (λ d.
            let q : home s x n ≡ place_of s x - 1 = rw (ol, z, d) in
            let t = (S.cycle e).twin x o (eqb-false _ _ z) in
            let nz = eqb-false _ _ z in
            record { inside = rw q (mem_left (place_of s x - 1) (the_news s) (the_olds s) (mem_left (place_of s x - 1) (the_places s) (the_mades s) t.inside)); kind = ap (kind_at s) q ∙ t.kind; way = inr (o, rw q t.inside, omega arith, e) })
            (λ d. self (rw (ol, z, d)) (objs_all s x m)))
        | inr o ↦
            let kn : mem x (the_news s) ≡ true = mem_right x (the_places s) (the_mades s) o in
            let ow : own s.halves s.collector x n ≡ true = or_left (leb (s.halves.base + s.halves.high) x) _ (le-leb (s.halves.base + s.halves.high) x (mades_inside _ _ _ S.laid x o).0) in
            self (rw (new_leads s S.laid x kn, ow)) (objs_all s x m)
      ])

  not_place : (x : ℕ) → resting s.collector ≡ false → mem x (objects s) ≡ true → mem x (the_places s) ≡ true → ⊥
  not_place x e k q =
      elim (mem_append x (the_olds s) (the_mades s) (rw (objects_cycle s e) at k)) [
        | inl o ↦ false≢true (sym (old_leads_not s S.laid x o) ∙ new_leads s S.laid x (mem_left x (the_places s) (the_mades s) q))
        | inr o ↦ let a = mades_inside _ _ _ S.laid x o in let b = places_inside _ _ _ S.laid x q in let l = S.laid.ends in let z = size_two s.book s.memory x in omega arith
      ]

  pub home_once : (x y n : ℕ) → mem x (objects s) ≡ true → mem y (objects s) ≡ true → home s x n ≡ home s y n → x ≡ y
  home_once x y n kx ky e =
      elim (home_of x n kx).way [
        | inl a ↦ elim (home_of y n ky).way [
          | inl b ↦ sym a ∙ (e ∙ b)
          | inr b ↦ let q : mem x (the_places s) ≡ true = (let P : ℕ → Type 0 = λ z. mem z (the_places s) ≡ true in subst P (sym e ∙ a) b.1) in absurd (not_place x b.3 kx q)
        ]
        | inr a ↦ elim (home_of y n ky).way [
          | inl b ↦ let q : mem y (the_places s) ≡ true = (let P : ℕ → Type 0 = λ z. mem z (the_places s) ≡ true in subst P (e ∙ b) a.1) in absurd (not_place y a.3 ky q)
          | inr b ↦ place_once s S K a.3 (home s x n) x y a.0 b.0 a.2 (b.2 ∙ ap (λ v. v + 1) (sym e))
        ]
      ]

counting_set : (f g : ℕ → ℕ) (a n k : ℕ) (m : ℕ) → k < n → f (a + k) ≡ m → ((j : ℕ) → a ≤ j → j < a + n → (j ≡ a + k → ⊥) → f j ≡ g j) → map f (range_with_len a n) ≡ set (map g (range_with_len a n)) k m
counting_set f g a zero k m l e h = absurd (omega arith)
counting_set f g a (suc n) zero m l e h = search (rules, arith, counting_same)
counting_set f g a (suc n) (suc k) m l e h =
    let e2 : f (a + 1 + k) ≡ m = (let q : a + suc k ≡ a + 1 + k = omega arith in rw q at e) in
    ap₂ (λ y ys. y ∷ ys) (h a (omega arith) (omega arith) (λ d. omega arith)) (counting_set f g (a + 1) n k m (omega arith) e2 (λ j p q ne. h j (omega arith) (omega arith) (λ d. ne (omega arith))))

abbrev pub field_graph : Graph → ℕ → ℕ → ℕ → Graph
field_graph g n i m = record { slots = g.slots; next = g.next; records = map (GC.put n i m) g.records }

-- Field i of the object o is written.
module _ (s : State) (S : Sound s) (K : Known s) (o i w : ℕ) (ko : mem o (objects s) ≡ true) (below : 2 + i < size_of s o)
    (right : refers s.book (kind_at s o) i ≡ true → good (the_news s) w ≡ true) where
  abbrev h : ℕ
  h = home s o i

  pub kh : mem h (all s) ≡ true
  kh = (home_of s S K o i ko).inside

  pub ph : 2 + i < size_of s h
  ph = rw (size_by_kind s h o (home_of s S K o i ko).kind) below

  pub right_h : refers s.book (kind_at s h) i ≡ true → good (the_news s) w ≡ true
  right_h r = right (ap (λ k. refers s.book k i) (sym (home_of s S K o i ko).kind) ∙ r)

  abbrev after : State
  after = put_at s (h + (2 + i)) w

  pub field_sound2 : Sound after
  field_sound2 = put_sound s S K h i w kh ph right_h

  pub field_known : Known after
  field_known = put_known s S K h i w kh ph right_h

  pub obj_all : (x : ℕ) → mem x (objects s) ≡ true → mem x (all s) ≡ true
  obj_all x k = objects_all s S K h i w kh ph right_h x k

  value_hit : value after o i ≡ w
  value_hit = go (home_p s S K h i w kh ph right_h o i (obj_all o ko)) (here_p s S K h i w kh ph right_h)
    where
      go : home after o i ≡ h → word_at after (h + (2 + i)) ≡ w → value after o i ≡ w
      go e q = unfold value in (ap (λ y. word_at after (y + (2 + i))) e ∙ q)

  value_miss : (x n : ℕ) → mem x (objects s) ≡ true → 2 + n < size_of s x → ((x ≡ o) × (n ≡ i) → ⊥) → value after x n ≡ value s x n
  value_miss x n k l ne =
      let q = home_of s S K x n k in
      let lh : 2 + n < size_of s (home s x n) = rw (size_by_kind s (home s x n) x q.kind) l in
      go (home_p s S K h i w kh ph right_h x n (obj_all x k))
      (word_p s S K h i w kh ph right_h (home s x n) (2 + n) q.inside lh (λ d.
      let e : n ≡ i = omega (arith, d.1) in
      let d0 : home s x i ≡ h = ap (home s x) (sym e) ∙ d.0 in
      ne (home_once s S K x o i k ko d0, e)))
    where
      go : home after x n ≡ home s x n → word_at after (home s x n + (2 + n)) ≡ word_at s (home s x n + (2 + n)) → value after x n ≡ value s x n
      go e q = unfold value in (ap (λ y. word_at after (y + (2 + n))) e ∙ q)

  abbrev RefersTo : ℕ → Type 0
  RefersTo x = (resting s.collector ≡ true → mem x (the_news s) ≡ true) × (resting s.collector ≡ false → mem x (all s) ≡ true)

  pub object_refer : (x : ℕ) → mem x (objects s) ≡ true → RefersTo x
  object_refer x k = ((λ e. rw (objects_rest s e) at k), λ e. obj_all x k)

  pub number_a : (x : ℕ) → RefersTo x → number after x ≡ number s x
  number_a x f = number_p s S K h i w kh ph right_h x f

  pub new_refer : (x : ℕ) → mem x (the_news s) ≡ true → RefersTo x
  new_refer x k = ((λ e. k), λ e. mem_left x (the_news s) (the_olds s) k)

  pub name_a : (r : ℕ) → Reference s S K r → name after r ≡ name s r
  name_a r g =
      elim (cases_eq r 0) [
        | inl z ↦ none after z ∙ sym (none s z)
        | inr z ↦
            let e : r ≡ r - 1 + 1 = omega arith in
            name_of after r (r - 1) e ∙ (number_a (r - 1) ((λ d. member (the_news s) (g.0 d) z), λ d. member (all s) (g.1 d) z) ∙ sym (name_of s r (r - 1) e))
      ]
    where
      none : (u : State) → r ≡ 0 → name u r ≡ 0
      none u z = unfold name in (let q : eqb r 0 ≡ true = eq-eqb r 0 z in rw q)

      member : (xs : List ℕ) → good xs r ≡ true → r ≢ 0 → mem (r - 1) xs ≡ true
      member xs g z = elim (good_cases xs r g) [ inl d ↦ absurd (z d) | inr d ↦ d.1 ]

  pub kind_a : (x : ℕ) → mem x (objects s) ≡ true → kind_at after x ≡ kind_at s x
  kind_a x k = ap (λ v. v % 16) (tag_p s S K h i w kh ph right_h x (obj_all x k))

  abbrev pub meant : ℕ
  meant = cond (refers s.book (kind_at s o) i) (name s w) w

  w_reference : refers s.book (kind_at s o) i ≡ true → Reference s S K w
  w_reference r = ((λ e. right r), λ e. good_more (the_news s) (all s) w (λ y m. mem_left y (the_news s) (the_olds s) m) (right r))

  pub shown_hit : shown after o i ≡ meant
  unfolding shown
  shown_hit = grind (arith, kind_a, value_hit, name_a, w_reference)

  pub shown_miss : (x n : ℕ) → mem x (objects s) ≡ true → 2 + n < size_of s x → ((x ≡ o) × (n ≡ i) → ⊥) → shown after x n ≡ shown s x n
  unfolding shown
  shown_miss x n k l ne = grind (arith, kind_a, value_miss, name_a, field_reference)

  record_hit : record_of after o ≡ record { number = (record_of s o).number; kind = (record_of s o).kind; fields = set (record_of s o).fields i meant }
  unfolding record_of
  record_hit =
      let z = size_is s o in
      let f : fields_at after o ≡ fields_at s o = ap (λ k. size s.book k) (kind_a o ko) in
      record_eq _ _ (number_a o (object_refer o ko)) (kind_a o ko)
      (ap (λ n. map (shown after o) (range_with_len 0 n)) f ∙
      counting_set (shown after o) (shown s o) 0 (fields_at s o) i meant (omega arith) shown_hit_0
      (λ j p q ne. shown_miss o j ko (omega arith) (λ d. ne (let y = d.1 in omega arith))))
    where
      shown_hit_0 : shown after o (0 + i) ≡ meant
      shown_hit_0 = let q : 0 + i ≡ i = omega arith in ap (shown after o) q ∙ shown_hit

  record_miss : (x : ℕ) → mem x (objects s) ≡ true → x ≢ o → record_of after x ≡ record_of s x
  record_miss x k ne = record_of_eq s after x x (number_a x (object_refer x k)) (kind_a x k) refl (λ n l. shown_miss x n k l (λ d. ne d.0))

  record_put : (x : ℕ) → mem x (objects s) ≡ true → record_of after x ≡ GC.put (number s o) i meant (record_of s x)
  record_put x k =
      elim (cases_eq x o) [
        | inl e ↦
            let P : ℕ → Type 0 = λ x. record_of after x ≡ GC.put (number s o) i meant (record_of s x) in
            subst P (sym e) (record_hit ∙ sym (cond-true (eqb (record_of s o).number (number s o)) _ _ (eq-eqb (record_of s o).number (number s o) (num o))))
        | inr e ↦ record_miss x k e ∙ sym (cond-false (eqb (record_of s x).number (number s o)) _ _ (ne_eqb (record_of s x).number (number s o) (λ d. e (number_apart s S K x o k ko (sym (num x) ∙ d)))))
      ]
    where
      num : (x : ℕ) → (record_of s x).number ≡ number s x
      num x = unfold record_of in refl

  pub field_raw : raw_of after ≡ field_graph (raw_of s) (number s o) i meant
  unfolding raw_of
  field_raw =
      graph_eq _ _ (slots_eq s after S.enough S.enough refl (λ n l. name_a (get_or s.slots n 0) (slot_reference s S K n l))) refl
      (ap (map (record_of after)) (objects_p s S K h i w kh ph right_h) ∙ map_two (objects s) (λ x k. record_put x k))
    where
      map_two : (xs : List ℕ) → ((x : ℕ) → mem x xs ≡ true → record_of after x ≡ GC.put (number s o) i meant (record_of s x)) → map (record_of after) xs ≡ map (GC.put (number s o) i meant) (map (record_of s) xs)
      map_two [] f = refl
      map_two (x ∷ xs) f = ap₂ (λ y ys. y ∷ ys) (f x (mem_head x xs)) (map_two xs (λ y k. f y (or_right (eqb y x) (mem y xs) k)))

  -- What is left does not grow.
  new_lives : refers s.book (kind_at s o) i ≡ true → (x : ℕ) → mem x (objects s) ≡ true → name s w ≡ number s x → lives s x ≡ true
  new_lives r x k e =
      elim (good_cases (the_news s) w (right r)) [
        | inl z ↦ let n : name s w ≡ 0 = none z in let a = object_number s S x k in let q = (K.given x k).0 in absurd (omega arith)
        | inr z ↦ lives_root s x (root_new s (w - 1) x z.1 (sym (name_of s w (w - 1) (let y = z.0 in omega arith)) ∙ e))
      ]
    where
      none : w ≡ 0 → name s w ≡ 0
      none z = unfold name in (let q : eqb w 0 ≡ true = eq-eqb w 0 z in rw q)

  edge_f : (y x : ℕ) → mem y (objects s) ≡ true → mem x (objects s) ≡ true → lives s y ≡ true → edge after y x ≡ true → lives s x ≡ true
  unfolding edge
  edge_f y x ky kx ly e =
      let q = names_is after y (number after x) (size_of after y - 2) e in
      let n = q.0 in
      let l0 = q.1 in
      let zs = size_p s S K h i w kh ph right_h y (obj_all y ky) in
      let l : 2 + n < size_of s y = omega arith in
      let r : refers s.book (kind_at s y) n ≡ true = ap (λ k. refers s.book k n) (sym (kind_a y ky)) ∙ q.2 in
      let sh : shown after y n ≡ number s x = q.3 ∙ number_a x (object_refer x kx) in
      let miss : ((y ≡ o) × (n ≡ i) → ⊥) → lives s x ≡ true = λ ne. lives_edge s y x ky kx ly (edge_from s y x n l r (sym (shown_miss y n ky l ne) ∙ sh)) in
      elim (cases_eq y o) [
        | inl d ↦ elim (cases_eq n i) [
          | inl c ↦
              let r2 : refers s.book (kind_at s o) i ≡ true = ap₂ (λ y n. refers s.book (kind_at s y) n) (sym d) (sym c) ∙ r in
              let m : meant ≡ name s w = cond-true (refers s.book (kind_at s o) i) (name s w) w r2 in
              new_lives r2 x kx (sym m ∙ (sym shown_hit ∙ (ap₂ (λ y n. shown after y n) (sym d) (sym c) ∙ sh)))
          | inr c ↦ miss (λ z. c z.1)
        ]
        | inr d ↦ miss (λ z. d z.0)
      ]

  root_f : (x : ℕ) → mem x (objects s) ≡ true → root after x ≡ true → lives s x ≡ true
  root_f x k e =
      let nx = number_a x (object_refer x k) in
      elim (root_cases after x e) [
        | inl g ↦
            let q = slots_eq s after S.enough S.enough refl (λ n l. name_a (get_or s.slots n 0) (slot_reference s S K n l)) in
            let e2 : some (λ v. eqb v (number s x)) (map (name s) (take s.count s.slots)) ≡ true = ap₂ (λ n xs. some (λ v. eqb v n) xs) (sym nx) (sym q) ∙ g in
            lives_root s x (root_names s x e2)
        | inr g ↦
            let kp : mem g.0 (the_news s) ≡ true = in_news_s g.0 g.1 in
            lives_root s x (root_new s g.0 x kp (sym (number_a g.0 (new_refer g.0 kp)) ∙ (g.2 ∙ nx)))
      ]
    where
      in_news_s : (y : ℕ) → mem y (the_news after) ≡ true → mem y (the_news s) ≡ true
      in_news_s y m = rw (news_p s S K h i w kh ph right_h) at m

  lives_f : (x : ℕ) → mem x (objects s) ≡ true → lives after x ≡ true → lives s x ≡ true
  lives_f x k e = go (reach_least (objects s) (edge after) (root after) (λ y. lives s y) root_f edge_f x k) e
    where
      reach_least : (u : List ℕ) (f : ℕ → ℕ → Bool) (q : ℕ → Bool) (C : ℕ → Bool) → ((y : ℕ) → mem y u ≡ true → q y ≡ true → C y ≡ true) → ((y z : ℕ) → mem y u ≡ true → mem z u ≡ true → C y ≡ true → f y z ≡ true → C z ≡ true) → (y : ℕ) → mem y u ≡ true → reached u f q y ≡ true → C y ≡ true
      reach_least u f q C a b y m e =
          out y m (least u f q (λ z. not (mem z u) || C z) (λ z g. inside z (λ n. a z n g)) (λ y z n g d. inside z (λ m. b y z n m (out y n g) d)) y e)
        where
          inside : (z : ℕ) → (mem z u ≡ true → C z ≡ true) → (not (mem z u) || C z) ≡ true
          inside z g = by_bool (mem z u) (λ m. or_right (not (mem z u)) (C z) (g m)) (λ m. or_left (not (mem z u)) (C z) (rw m))

          out : (z : ℕ) → mem z u ≡ true → (not (mem z u) || C z) ≡ true → C z ≡ true
          out z m g = let v : (false || C z) ≡ true = rw m at g in v

      go : (reached (objects s) (edge after) (root after) x ≡ true → lives s x ≡ true) → lives after x ≡ true → lives s x ≡ true
      go f e = f (ap (λ u. reached u (edge after) (root after) x) (sym (objects_p s S K h i w kh ph right_h)) ∙ lives_is e)
        where
          lives_is : lives after x ≡ true → reached (objects after) (edge after) (root after) x ≡ true
          lives_is e = unfold lives in e

  opened_f : (x : ℕ) → mem x (objects s) ≡ true → opened_record s x ≡ true → opened_record after x ≡ true
  opened_f x k e =
      let q = opened_is s x e in
      opened_from after q.0 x (rw (news_p s S K h i w kh ph right_h) q.1) (number_a q.0 (new_refer q.0 q.1) ∙ (q.2 ∙ sym (number_a x (object_refer x k)))) q.3

  pub field_less : Less s after
  unfolding kept pending
  field_less = record {
    kept = let q = sum_le (lives after) (lives s) (size_of after) (size_of s) (objects s) lives_f (λ x k. let z = size_p s S K h i w kh ph right_h x (obj_all x k) in omega arith) in
        let P : List ℕ → Type 0 = λ xs. sum_where (lives after) (size_of after) xs ≤ sum_where (lives s) (size_of s) (objects s) in subst P (sym (objects_p s S K h i w kh ph right_h)) q;
    pending = let q = sum_le (λ a. lives after a && not (opened_record after a)) (λ a. lives s a && not (opened_record s a)) (λ a. size_of after a - 1) (λ a. size_of s a - 1) (objects s)
        (λ x k e. let u = and_parts (lives after x) (not (opened_record after x)) e in and_from (lives s x) (not (opened_record s x)) (lives_f x k u.0)
        (by_bool (opened_record s x) (λ d. let g = opened_f x k d in let z : not true ≡ true = rw g at u.1 in absurd (false≢true z)) (λ d. rw d)))
        (λ x k. let z = size_p s S K h i w kh ph right_h x (obj_all x k) in omega arith) in
        let P : List ℕ → Type 0 = λ xs. sum_where (λ a. lives after a && not (opened_record after a)) (λ a. size_of after a - 1) xs ≤ sum_where (λ a. lives s a && not (opened_record s a)) (λ a. size_of s a - 1) (objects s) in subst P (sym (objects_p s S K h i w kh ph right_h)) q;
  }

  left_f : (c : Collector) → At s c → slots_left after c + fields_left after c ≡ slots_left s c + fields_left s c
  left_f Rest a = refl
  left_f (Slots n) a = refl
  left_f (Scan at) a = refl
  left_f (Field c) a = let z = size_p s S K h i w kh ph right_h c.at (mem_left c.at (the_news s) (the_olds s) (mem_left c.at (the_places s) (the_mades s) a.0)) in omega arith

  pub field_due : due after ≤ due s
  field_due = grind (arith, field_less, due_rest, due_is, left_f)
