-- After Done only what was reached is left, and the graph is the same.
use Rattle.std.proofs.Common.{rules, ◌≡◌, ℕ, ◌+◌, ◌-◌, ◌<◌, true, false, eqb, ltb, map, get_or, sym, refl, ap, ◌∙◌, subst, inl, inr, arith}
use Rattle.std.proofs.lemmas.Bool.{or_cases, ne_eqb}
use Rattle.graph.specs.Graph.{Record, ◌∈◌, Names, Reached, by_slot, by_field}
use Rattle.graph.specs.Sound.{Same}
use Rattle.graph.proofs.Changes.{in_map, map_in}
use Rattle.graph.proofs.Prune.{prune_same}
use Rattle.semispace.specs.declared.collector.Collector.TheVariants.{Scan}
use Rattle.semispace.specs.Layout.{mem}
use Rattle.semispace.specs.Words.{home, State, finished, own, resting, refers, kind_at, place_of, word_at, next_place}
use Rattle.semispace.specs.Sound.{the_news, the_places, size_of, good, Sound, number, value, name, shown}
use Rattle.semispace.specs.Dues.{objects}
use Rattle.semispace.specs.Graphs.{record_of, raw_of, graph_of, Known}
use Rattle.semispace.proofs.Spreads.{by_bool, mem_right}
use Rattle.semispace.proofs.ReserveAgree.{new_leads, old_leads_not}
use Rattle.semispace.proofs.Ends.{done_sound}
use Rattle.semispace.proofs.Homes.{size_by_kind}
use Rattle.semispace.proofs.Like.{the_mades}
use Rattle.semispace.proofs.Knowing.{objects_cycle, objects_rest, Standing, all_opened, all_own, stands, known_done}
use Rattle.semispace.proofs.Graphing.{mem_in, in_mem, record_of_eq, slots_eq, rest_number, rest_home}
use Rattle.semispace.proofs.Whole.{object_number, number_apart, raw_distinct, object_names, slot_at, good_name}

module _ (s : State) (S : Sound s) (K : Known s) (at : ℕ) (is : s.collector ≡ Scan at) (over : ltb at (next_place s) ≡ false) where
  going : resting s.collector ≡ false
  going = rw is

  T : Sound (finished s)
  T = done_sound s S at is over

  pub new_number : (x : ℕ) → mem x (the_news s) ≡ true → number s x ≡ word_at s x
  unfolding number
  new_number x k = rw (new_leads s S.laid x k, all_opened s S K at is over x k)

  pub done_number : (x : ℕ) → mem x (the_news s) ≡ true → number (finished s) x ≡ number s x
  done_number x k = rest_number (finished s) T x refl k ∙ sym (new_number x k)

  done_name : (r : ℕ) → good (the_news s) r ≡ true → name (finished s) r ≡ name s r
  unfolding name good
  done_name r g = grind (arith, or_cases, done_number)

  -- the object of a new record
  pub object_of : (x o : ℕ) → mem x (the_news s) ≡ true → mem o (objects s) ≡ true → number s x ≡ number s o → Standing s x o
  object_of x o k j e = search (rules, arith, stands, objects_cycle, going, number_apart, object_number, new_number, Standing)

  pub stand_home : (x o i : ℕ) → mem x (the_news s) ≡ true → Standing s x o → home s o i ≡ x
  stand_home x o i k q =
      elim q.way [
        | inl p ↦
            let h : home s o i ≡ o = rw (new_leads s S.laid o (mem_right o (the_places s) (the_mades s) p.1), all_own s S K at is over o i (mem_right o (the_places s) (the_mades s) p.1)) in
            h ∙ sym p.0
        | inr p ↦
            let v : place_of s o - 1 ≡ x = let u = p.2 in omega arith in
            let z : eqb (place_of s o) 0 ≡ false = ne_eqb (place_of s o) 0 (λ e. let u = p.2 in omega arith) in
            let w : own s.halves s.collector (place_of s o - 1) i ≡ true = rw v (all_own s S K at is over x i k) in
            let h : home s o i ≡ place_of s o - 1 = rw (old_leads_not s S.laid o p.1, z, w) in
            h ∙ v
      ]

  pub stand_value : (x o i : ℕ) → mem x (the_news s) ≡ true → Standing s x o → value s o i ≡ word_at s (x + (2 + i))
  unfolding value
  stand_value x o i k q = ap (λ h. word_at s (h + (2 + i))) (stand_home x o i k q)

  done_value : (x i : ℕ) → mem x (the_news s) ≡ true → value (finished s) x i ≡ word_at s (x + (2 + i))
  unfolding value
  done_value x i k = ap (λ h. word_at s (h + (2 + i))) (rest_home (finished s) T x i refl k)

  pub new_good : (x i : ℕ) → mem x (the_news s) ≡ true → 2 + i < size_of s x → refers s.book (kind_at s x) i ≡ true → good (the_news s) (word_at s (x + (2 + i))) ≡ true
  new_good x i k l r = let e : x + (2 + i) ≡ x + 2 + i = omega arith in rw e (S.news_refer x i k l (all_own s S K at is over x i k) r)

  done_shown : (x o i : ℕ) → mem x (the_news s) ≡ true → Standing s x o → 2 + i < size_of s o → shown (finished s) x i ≡ shown s o i
  unfolding shown
  done_shown x o i k q l =
      let vt = done_value x i k in
      let vs = stand_value x o i k q in
      let lx : 2 + i < size_of s x = rw (size_by_kind s x o q.kind) l in
      by_bool (refers s.book (kind_at s o) i)
      (λ e. rw (q.kind, e, vt, vs) (done_name (word_at s (x + (2 + i))) (new_good x i k lx (rw q.kind e))))
      (λ e. rw (q.kind, e, vt, vs))

  pub done_record : (x o : ℕ) → mem x (the_news s) ≡ true → Standing s x o → record_of (finished s) x ≡ record_of s o
  done_record x o k q = search (rules, arith, objects_cycle, going, record_of_eq, done_number, new_number, object_number, done_shown)

  -- what is reached lies in the new half
  pub in_new : {n : ℕ} → Reached s.book (raw_of s) n → (x : ℕ) × (mem x (the_news s) ≡ true) × (number s x ≡ n)
  unfolding raw_of
  in_new {n} (by_slot a l e z) =
      let q = slot_at s S K a l in
      let w : name s (get_or s.slots a 0) ≡ n = sym q.1 ∙ e in
      let g = good_name s S K (the_news s) (get_or s.slots a 0) (S.slots_passed a q.0 (rw is)) (omega arith) in
      (get_or s.slots a 0 - 1, g.0, sym g.1 ∙ w)
  in_new {n} (by_field r i p m z) =
      let h = in_new p in
      let k = in_map (record_of s) (objects s) r i in
      let o = k.0 in
      let ko = in_mem o (objects s) k.1 in
      let Q : Record → Type 0 = λ r. Names s.book r n in
      let j = object_names s S K o n ko (subst Q k.2 m) in
      let e : number s h.0 ≡ number s o = h.2 ∙ (ap (λ (r : Record). r.number) k.2 ∙ record_number o) in
      let st = object_of h.0 o h.1 ko e in
      let w : name s (word_at s (h.0 + (2 + j.0))) ≡ n = ap (name s) (sym (stand_value h.0 o j.0 h.1 st)) ∙ j.3 in
      let lx : 2 + j.0 < size_of s h.0 = rw (size_by_kind s h.0 o st.kind) j.1 in
      let g = good_name s S K (the_news s) (word_at s (h.0 + (2 + j.0))) (new_good h.0 j.0 h.1 lx (rw st.kind j.2)) (omega arith) in
      (word_at s (h.0 + (2 + j.0)) - 1, g.0, sym g.1 ∙ w)
    where
      record_number : (o : ℕ) → (record_of s o).number ≡ number s o
      record_number o = unfold record_of in refl

  done_same : Same s.book (raw_of s) (raw_of (finished s))
  unfolding raw_of
  done_same = record {
    slots = sym (slots_eq s (finished s) S.enough S.enough refl (λ n l. done_name (get_or s.slots n 0) (S.slots_passed n l (rw is))));
    next = refl;
    there = λ r i p.
        let k = in_map (record_of s) (objects s) r i in
        let o = k.0 in
        let ko = in_mem o (objects s) k.1 in
        let h = in_new p in
        let e : number s h.0 ≡ number s o = h.2 ∙ (ap (λ (r : Record). r.number) k.2 ∙ record_number o) in
        let st = object_of h.0 o h.1 ko e in
        let P : Record → Type 0 = λ r. r ∈ map (record_of (finished s)) (objects (finished s)) in
        subst P (done_record h.0 o h.1 st ∙ sym k.2) (map_in (record_of (finished s)) (objects (finished s)) h.0 (mem_in h.0 (objects (finished s)) (rw (objects_rest (finished s) refl) h.1)));
    back = λ r i p.
        let k = in_map (record_of (finished s)) (objects (finished s)) r i in
        let x = k.0 in
        let kx : mem x (the_news s) ≡ true = from_objects x (in_mem x (objects (finished s)) k.1) in
        let st = stands s S K at is over x kx in
        let P : Record → Type 0 = λ r. r ∈ map (record_of s) (objects s) in
        subst P (sym (k.2 ∙ done_record x st.0 kx st.1)) (map_in (record_of s) (objects s) st.0 (mem_in st.0 (objects s) (rw (objects_cycle s going) st.1.object)));
  }
    where
      record_number : (o : ℕ) → (record_of s o).number ≡ number s o
      record_number o = unfold record_of in refl

      from_objects : (x : ℕ) → mem x (objects (finished s)) ≡ true → mem x (the_news s) ≡ true
      from_objects x k = rw (objects_rest (finished s) refl) at k

  pub graph_done : graph_of (finished s) ≡ graph_of s
  unfolding graph_of
  graph_done = sym (prune_same s.book (raw_of s) (raw_of (finished s)) done_same (raw_distinct s S K) (raw_distinct (finished s) T (known_done s S K at is over)))
