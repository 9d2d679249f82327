-- What a view shows, and how a change of it changes its list of records. Every heap's calls cite these.
use Rattle.std.proofs.Common.{◌≡◌, ℕ, ◌+◌, ◌<◌, eqb, List, [], ◌∷◌, map, length, get_or, set, sym, refl, ap, ◌∙◌, subst, inl, inr, ⊎_elim, arith}
use Rattle.std.proofs.lemmas.Bool.{eq-eqb, ne_eqb, cases_eq, cond-true, cond-false}
use Rattle.std.proofs.lemmas.List.{length-set, get_or-set_same, get_or-set_other, ext_get_or, get_or-replicate, length-replicate}
use Rattle.std.proofs.lemmas.List.FromFn.{length-map-range_with_len, get_or-map-range_with_len}
use Rattle.kinds.specs.Shapes.{Shape}
use Rattle.graph.specs.Graph.{Record, Graph, size, ◌∈◌, Names, Reached, by_slot, by_field, prune}
use Rattle.graph.specs.Calls.{Call, make, put, fresh, held, with_field, changed, after}
use Rattle.graph.specs.Sound.{Distinct, Has, Sound, Same, Allowed}
use Rattle.graph.specs.View.{View, record_at, raw, Once, Found, Placed, Wrote, Made}
use Rattle.graph.proofs.Prune.{prune_same}
use Rattle.graph.proofs.Changes.{find_in, in_map, map_in}
use Rattle.graph.proofs.Laws.{after_prune, call_sound}

module _ (book : List Shape) where
  -- A heap's step: where what it leaves agrees with the changed list, its graph is the call's.
  pub same_after : (g h : Graph) → Sound book g → Sound book h → (c : Call) → Allowed book g c → Same book (changed book g c) h → prune book h ≡ after book (prune book g) c
  same_after g h s t c p e = sym (after_prune book g s c p ∙ prune_same book (changed book g c) h e (call_sound book g s c p).distinct t.distinct)

  pub path_after : (g h : Graph) → Sound book g → (c : Call) → Allowed book g c → h ≡ changed book g c → prune book h ≡ after book (prune book g) c
  path_after g h s c p e = ap (prune book) e ∙ sym (after_prune book g s c p)

  -- a record, as the graph has it
  pub length_at : (v : View) (p : ℕ) → length (record_at book v p).fields ≡ size book (v.kind p)
  length_at v p = length-map-range_with_len (v.shown p) 0 (size book (v.kind p))

  pub field_at : (v : View) (p i : ℕ) → i < size book (v.kind p) → get_or (record_at book v p).fields i 0 ≡ v.shown p i
  field_at v p i l = get_or-map-range_with_len (v.shown p) 0 (size book (v.kind p)) i i 0 l (omega arith)

  record_path : (r s : Record) → r.number ≡ s.number → r.kind ≡ s.kind → r.fields ≡ s.fields → r ≡ s
  record_path r s a b c = λ i. record { number = a i; kind = b i; fields = c i }

  pub record_same : (v : View) (q : ℕ) (r : Record) → v.number q ≡ r.number → v.kind q ≡ r.kind → length r.fields ≡ size book r.kind → ((j : ℕ) → j < size book r.kind → v.shown q j ≡ get_or r.fields j 0) → record_at book v q ≡ r
  record_same v q r a b c f =
      record_path (record_at book v q) r a b
      (ext_get_or 0 (record_at book v q).fields r.fields (length_at v q ∙ ap (size book) b ∙ sym c)
      (λ j l. let m : j < size book (v.kind q) = subst (λ n. j < n) (length_at v q) l in field_at v q j m ∙ f j (subst (λ k. j < size book k) b m)))

  -- what a placed view shows is sound
  distinct_at : (v : View) (ps : List ℕ) → Once ps → ((p q : ℕ) → p ∈ ps → q ∈ ps → v.number p ≡ v.number q → p ≡ q) → Distinct (map (record_at book v) ps)
  distinct_at v [] o f = tt
  distinct_at v (p ∷ ps) o f = (
    (λ s i e. let k = in_map (record_at book v) ps s i in
        o.0 (subst (λ q. q ∈ ps) (sym (f p k.0 (inl refl) (inr k.1) (e ∙ ap (λ (r : Record). r.number) k.2))) k.1)),
    distinct_at v ps o.1 (λ q r i j. f q r (inr i) (inr j)),
  )

  found_has : (v : View) (n : ℕ) → Found v n → Has (map (record_at book v) v.places) n
  found_has v n f = (record_at book v f.0, map_in (record_at book v) v.places f.0 f.1, f.2)

  whole_at : (v : View) (slots : List ℕ) (next : ℕ) → Placed book v slots next → {n : ℕ} → Reached book (raw book v slots next) n → Has (map (record_at book v) v.places) n
  unfolding raw
  whole_at v slots next w {n} (by_slot a l e z) = found_has v n (subst (Found v) e (w.from_slots a l (subst (λ m. 0 < m) (sym e) z)))
  whole_at v slots next w {n} (by_field r i q s z) =
      let k = in_map (record_at book v) v.places r i in
      let p = k.0 in
      let t : Names book (record_at book v p) n = subst (λ (x : Record). Names book x n) k.2 s in
      let l : t.place < size book (v.kind p) = subst (λ m. t.place < m) (length_at v p) t.below in
      let e : v.shown p t.place ≡ n = sym (field_at v p t.place l) ∙ t.is in
      found_has v n (subst (Found v) e (w.from_fields p k.1 t.place l t.reference (subst (λ m. 0 < m) (sym e) z)))

  pub placed_sound : (v : View) (slots : List ℕ) (next : ℕ) → Placed book v slots next → Sound book (raw book v slots next)
  unfolding raw
  placed_sound v slots next w =
      record {
        distinct = distinct_at v v.places w.once w.apart;
        given = λ r i. let k = in_map (record_at book v) v.places r i in subst (λ (x : Record). (0 < x.number) × (x.number < next)) (sym k.2) (w.given k.0 k.1);
        shaped = λ r i. let k = in_map (record_at book v) v.places r i in subst (λ (x : Record). (x.kind < length book) × (length x.fields ≡ size book x.kind)) (sym k.2) (w.kinds k.0 k.1, length_at v k.0);
        whole = λ n q. whole_at v slots next w q;
        first = w.first;
      }

  -- the record that a slot holds
  pub held_at : (v : View) (slots : List ℕ) (next : ℕ) → Placed book v slots next → (a p : ℕ) → p ∈ v.places → get_or slots a 0 ≡ v.number p → held (raw book v slots next) a ≡ record_at book v p
  unfolding raw
  held_at v slots next w a p i e =
      find_in (map (record_at book v) v.places) (record_at book v p) (get_or slots a 0) (distinct_at v v.places w.once w.apart)
      (map_in (record_at book v) v.places p i) (sym e)

  pub raw_slots : (v : View) (slots : List ℕ) (next : ℕ) → (raw book v slots next).slots ≡ slots
  unfolding raw
  raw_slots v slots next = refl

  pub raw_next : (v : View) (slots : List ℕ) (next : ℕ) → (raw book v slots next).next ≡ next
  unfolding raw
  raw_next v slots next = refl

  -- a field is set
  map_agree : (f : ℕ → Record) (g : Record → Record) (h : ℕ → Record) (ps : List ℕ) → ((q : ℕ) → q ∈ ps → f q ≡ g (h q)) → map f ps ≡ map g (map h ps)
  map_agree f g h [] e = refl
  map_agree f g h (p ∷ ps) e = let a : f p ≡ g (h p) = e p (inl refl) in let b : map f ps ≡ map g (map h ps) = map_agree f g h ps (λ q i. e q (inr i)) in cc

  module _ (v v' : View) (slots : List ℕ) (next p i w : ℕ) (ok : Placed book v slots next) (inside : p ∈ v.places) (did : Wrote book v v' p i w) where
    abbrev set_record : ℕ → Record
    set_record q = record { number = v.number q; kind = v.kind q; fields = set (record_at book v q).fields i w }

    shown_other : (q j : ℕ) → q ∈ v.places → j < size book (v.kind q) → (q ≡ p → j ≡ i → ⊥) → v'.shown q j ≡ get_or (record_at book v q).fields j 0
    shown_other q j m l ne = did.other q j m l ne ∙ sym (field_at v q j l)

    shown_here : (q j : ℕ) → q ∈ v.places → j < size book (v.kind q) → q ≡ p → j ≡ i → v'.shown q j ≡ get_or (set_record q).fields j 0
    shown_here q j m l e d =
        ap (λ x. v'.shown x j) e ∙ ap (λ x. v'.shown p x) d ∙ did.here
        ∙ sym (get_or-set_same (record_at book v q).fields i w 0 (subst (λ x. i < x) (sym (length_at v q)) (subst (λ x. x < size book (v.kind q)) d l)))
        ∙ ap (λ x. get_or (set_record q).fields x 0) (sym d)

    at_place : (q : ℕ) → q ∈ v.places → record_at book v' q ≡ put (v.number p) i w (record_at book v q)
    at_place q m =
        ⊎_elim
        (λ e.
        record_same v' q (set_record q) (did.number q m) (did.kind q m) (length-set (record_at book v q).fields i w ∙ length_at v q)
        (λ j l. ⊎_elim
        (λ d. shown_here q j m l e d)
        (λ ne. shown_other q j m l (λ _ d. ne d) ∙ sym (get_or-set_other (record_at book v q).fields i j w 0 ne))
        (cases_eq j i))
        ∙ sym (cond-true (eqb (v.number q) (v.number p)) (set_record q) (record_at book v q) (eq-eqb (v.number q) (v.number p) (ap v.number e))))
        (λ ne.
        record_same v' q (record_at book v q) (did.number q m) (did.kind q m) (length_at v q) (λ j l. shown_other q j m l (λ e _. ne e))
        ∙ sym (cond-false (eqb (v.number q) (v.number p)) (set_record q) (record_at book v q) (ne_eqb (v.number q) (v.number p) (λ e. ne (ok.apart q p m inside e)))))
        (cases_eq q p)

    pub wrote_changed : (a : ℕ) → get_or slots a 0 ≡ v.number p → raw book v' slots next ≡ with_field (raw book v slots next) a i w
    unfolding raw
    wrote_changed a e =
        let b : map (record_at book v') v'.places ≡ map (put (get_or slots a 0) i w) (map (record_at book v) v.places) =
        ap (map (record_at book v')) did.places ∙ map_agree (record_at book v') (put (v.number p) i w) (record_at book v) v.places at_place
        ∙ ap (λ n. map (put n i w) (map (record_at book v) v.places)) (sym e) in
        λ k. record { slots = slots; next = next; records = b k }

  -- a record is made
  module _ (v v' : View) (slots : List ℕ) (next p k a : ℕ) (did : Made book v v' p k next) where
    old_record : (q : ℕ) → q ∈ v.places → record_at book v' q ≡ record_at book v q
    old_record q m =
        record_same v' q (record_at book v q) (did.number q m) (did.kind q m) (length_at v q) (λ j d. did.shown q j m d ∙ sym (field_at v q j d))

    new_record : record_at book v' p ≡ fresh book next k
    new_record =
        record_same v' p (fresh book next k) did.numbered did.kinded (length-replicate (size book k) 0)
        (λ j d. did.empty j d ∙ sym (get_or-replicate (size book k) j 0 0 d))

    pub made_same : Same book (changed book (raw book v slots next) (make a k)) (raw book v' (set slots a next) (next + 1))
    unfolding raw
    made_same =
        record {
          slots = refl;
          next = refl;
          there = λ r i q. ⊎_elim
              (λ e. subst (λ x. x ∈ map (record_at book v') v'.places) (new_record ∙ sym e) (map_in (record_at book v') v'.places p did.new))
              (λ m. let t = in_map (record_at book v) v.places r m in subst (λ x. x ∈ map (record_at book v') v'.places) (old_record t.0 t.1 ∙ sym t.2) (map_in (record_at book v') v'.places t.0 (did.old t.0 t.1))) i;
          back = λ r i q. let t = in_map (record_at book v') v'.places r i in
              ⊎_elim
              (λ e. inl (t.2 ∙ ap (record_at book v') e ∙ new_record))
              (λ m. inr (subst (λ x. x ∈ map (record_at book v) v.places) (sym (t.2 ∙ old_record t.0 m)) (map_in (record_at book v) v.places t.0 m)))
              (did.into t.0 t.1);
        }
