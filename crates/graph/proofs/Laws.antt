-- The laws of the calls on lists of records: what is reached after a call, that agreement and soundness are kept,
-- and that a call on a list means the same call on its graph. Cited by every heap's proof of its calls.
use Rattle.std.proofs.Common.{◌≡◌, ℕ, ◌+◌, ◌<◌, Bool, true, false, ◌⊎◌, List, map, length, get_or, set, sym, refl, ap, ◌∙◌, subst, inl, inr, ⊎_elim, arith}
use Rattle.std.proofs.lemmas.Bool.{false≢true}
use Rattle.std.proofs.lemmas.List.{length-set, length-replicate}
use Rattle.kinds.specs.Shapes.{Shape}
use Rattle.graph.specs.Graph.{Record, Graph, size, refers, ◌∈◌, Names, Reached, by_field, prune}
use Rattle.graph.specs.Calls.{Call, Makes, make, read, write, follow, link, hold, drop, look, spare, find, put, fresh, slot, held, with_slot, with_field, changed, after, refusal_in, answer_in}
use Rattle.graph.specs.Sound.{Sound, Same, Slot, Field, Allowed}
use Rattle.graph.proofs.Prune.{reached_same, prune_same, same_prune, prune_distinct, in_prune, prune_in, prune_slots, prune_next}
use Rattle.graph.proofs.Changes.{find_in, held_in, held_prune, slot_reached, in_map, map_in, map_distinct, put_number, put_kind, put_length, put_names, slots_down, set_slots, map_down, make_down, find_same}

module _ (book : List Shape) where
  -- a slot is set to x, which is 0 or reached
  slot_down : (g : Graph) (b x : ℕ) → (0 < x → Reached book g x) → {n : ℕ} → Reached book (with_slot g b x) n → Reached book g n
  slot_down g b x f q = slots_down book g (set g.slots b x) g.next (set_slots book g b x f) q

  nothing : {X : Type 0} → 0 < 0 → X
  nothing h = absurd (omega arith)

  no_reference : {X : Type 0} → false ≡ true → X
  no_reference e = absurd (false≢true e)

  -- field i of slot a's record is set to x, which is a word, or 0 or reached
  module _ (g : Graph) (s : Sound book g) (a i x : ℕ) (t : Bool) (f : Field book g a i t) (ok : t ≡ true → 0 < x → Reached book g x) where
    field_ok : (r : Record) → r ∈ g.records → Reached book g r.number → (m : ℕ) → Names book (put (slot g a) i x r) m → 0 < m → Reached book g m
    field_ok r j q m n z =
        ⊎_elim
        (λ k. by_field r j q k z)
        (λ k.
        let e : refers book (held g a).kind i ≡ true = subst (λ (y : Record). refers book y.kind i ≡ true) (sym (find_in g.records r (slot g a) s.distinct j k.0)) k.2 in
        subst (λ y. Reached book g y) (sym k.1) (ok (sym f.sort ∙ e) (subst (λ y. 0 < y) k.1 z)))
        (put_names book (slot g a) i x m r n)

    field_down : {n : ℕ} → Reached book (with_field g a i x) n → Reached book g n
    field_down q = map_down book g (put (slot g a) i x) (put_number (slot g a) i x) field_ok q

  follow_ok : (g : Graph) → Sound book g → (a i : ℕ) → Field book g a i true → 0 < get_or (held g a).fields i 0 → Reached book g (get_or (held g a).fields i 0)
  follow_ok g s a i f z =
      let k = held_in book g s a f.full in
      let l : length (held g a).fields ≡ size book (held g a).kind = (s.shaped (held g a) k.0).1 in
      by_field (held g a) k.0 (subst (λ n. Reached book g n) (sym k.1) (slot_reached book g a f.full))
      (record { place = i; below = subst (λ x. i < x) (sym l) f.below; reference = f.sort; is = refl }) z

  -- What is reached after a call was so before, or is the new record.
  pub call_down : (g : Graph) → Sound book g → (c : Call) → Allowed book g c → {n : ℕ} → Reached book (changed book g c) n → Reached book g n ⊎ (Makes c × (n ≡ g.next))
  call_down g s (make a k) p q = ⊎_elim (λ o. inl o) (λ e. inr (tt, e)) (make_down book g s a k p.0 q)
  call_down g s (read a i) p q = inl q
  call_down g s (write a i w) p q = inl (field_down g s a i w false p.1 no_reference q)
  call_down g s (follow a i b) p q = inl (slot_down g b (get_or (held g a).fields i 0) (follow_ok g s a i p.2) q)
  call_down g s (link a i b) p q = inl (field_down g s a i (slot g b) true p.2 (λ _. slot_reached book g b) q)
  call_down g s (hold a b) p q = inl (slot_down g b (slot g a) (slot_reached book g a) q)
  call_down g s (drop a) p q = inl (slot_down g a 0 nothing q)
  call_down g s (look a) p q = inl q
  call_down g s spare p q = inl q

  -- Agreement is kept by a call.
  slot_same : (g h : Graph) → Same book g h → (b x y : ℕ) → x ≡ y → (0 < x → Reached book g x) → Same book (with_slot g b x) (with_slot h b y)
  slot_same g h e b x y p f =
      record {
        slots = ap (λ xs. set xs b x) e.slots ∙ ap (λ z. set h.slots b z) p;
        next = e.next;
        there = λ r i q. e.there r i (slot_down g b x f q);
        back = λ r i q. e.back r i (slot_down g b x f q);
      }

  field_same : (g h : Graph) → Sound book g → Same book g h → (a i x y : ℕ) (t : Bool) → x ≡ y → Field book g a i t → (t ≡ true → 0 < x → Reached book g x) → Same book (with_field g a i x) (with_field h a i y)
  field_same g h s e a i x y t p f ok =
      record {
        slots = e.slots;
        next = e.next;
        there = λ r j q.
            let k = in_map (put (slot g a) i x) g.records r j in
            let n : r.number ≡ k.0.number = ap (λ (z : Record). z.number) k.2 ∙ put_number (slot g a) i x k.0 in
            subst (λ z. z ∈ map (put (slot h a) i y) h.records) (sym (k.2 ∙ one k.0))
            (map_in (put (slot h a) i y) h.records k.0 (e.there k.0 k.1 (subst (λ z. Reached book g z) n (field_down g s a i x t f ok q))));
        back = λ r j q.
            let k = in_map (put (slot h a) i y) h.records r j in
            let n : r.number ≡ k.0.number = ap (λ (z : Record). z.number) k.2 ∙ put_number (slot h a) i y k.0 in
            subst (λ z. z ∈ map (put (slot g a) i x) g.records) (sym (k.2 ∙ sym (one k.0)))
            (map_in (put (slot g a) i x) g.records k.0 (e.back k.0 k.1 (subst (λ z. Reached book g z) n (field_down g s a i x t f ok q))));
      }
    where
      one : (r : Record) → put (slot g a) i x r ≡ put (slot h a) i y r
      one r = ap (λ xs. put (get_or xs a 0) i x r) e.slots ∙ ap (λ z. put (slot h a) i z r) p

  old : (g : Graph) → Sound book g → (r : Record) → r ∈ g.records → Reached book g r.number ⊎ (r.number ≡ g.next) → Reached book g r.number
  old g s r i (inl q) = q
  old g s r i (inr e) = let l : r.number < g.next = (s.given r i).1 in absurd (omega arith)

  none : {n m : ℕ} {X : Type 0} → (X ⊎ (n ≡ m)) → (n ≡ m → ⊥) → X
  none (inl x) f = x
  none (inr e) f = absurd (f e)

  pub call_same : (g h : Graph) → Sound book g → Sound book h → Same book g h → (c : Call) → Allowed book g c → Same book (changed book g c) (changed book h c)
  call_same g h s t e (make a k) p =
      record {
        slots = ap (λ xs. set xs a g.next) e.slots ∙ ap (λ n. set h.slots a n) e.next;
        next = ap (λ n. n + 1) e.next;
        there = λ r i q. ⊎_elim (λ z. inl (z ∙ ap (λ n. fresh book n k) e.next)) (λ j. inr (e.there r j (old g s r j (make_down book g s a k p.0 q)))) i;
        back = λ r i q. ⊎_elim (λ z. inl (z ∙ ap (λ n. fresh book n k) (sym e.next))) (λ j. inr (e.back r j (none (make_down book g s a k p.0 q) (λ z. let l : r.number < h.next = (t.given r j).1 in let y : g.next ≡ h.next = e.next in omega arith)))) i;
      }
  call_same g h s t e (read a i) p = e
  call_same g h s t e (write a i w) p = field_same g h s e a i w w false refl p.1 no_reference
  call_same g h s t e (follow a i b) p =
      slot_same g h e b (get_or (held g a).fields i 0) (get_or (held h a).fields i 0)
      (ap (λ (r : Record). get_or r.fields i 0) (find_same book g h e s.distinct t.distinct (slot g a) (slot_reached book g a p.2.full) ∙ ap (λ xs. find h.records (get_or xs a 0)) e.slots))
      (follow_ok g s a i p.2)
  call_same g h s t e (link a i b) p = field_same g h s e a i (slot g b) (slot h b) true (ap (λ xs. get_or xs b 0) e.slots) p.2 (λ _. slot_reached book g b)
  call_same g h s t e (hold a b) p = slot_same g h e b (slot g a) (slot h a) (ap (λ xs. get_or xs a 0) e.slots) (slot_reached book g a)
  call_same g h s t e (drop a) p = slot_same g h e a 0 0 refl nothing
  call_same g h s t e (look a) p = e
  call_same g h s t e spare p = e

  -- Soundness is kept by a call.
  slot_sound : (g : Graph) → Sound book g → (b x : ℕ) → (0 < x → Reached book g x) → Sound book (with_slot g b x)
  slot_sound g s b x f =
      record {
        distinct = s.distinct;
        given = s.given;
        shaped = s.shaped;
        whole = λ n q. s.whole n (slot_down g b x f q);
        first = λ l. s.first (subst (λ n. 0 < n) (length-set g.slots b x) l);
      }

  field_sound : (g : Graph) → Sound book g → (a i x : ℕ) (t : Bool) → Field book g a i t → (t ≡ true → 0 < x → Reached book g x) → Sound book (with_field g a i x)
  field_sound g s a i x t f ok =
      record {
        distinct = map_distinct (put (slot g a) i x) (put_number (slot g a) i x) g.records s.distinct;
        given = λ r j. let k = in_map (put (slot g a) i x) g.records r j in
            let e : r.number ≡ k.0.number = ap (λ (z : Record). z.number) k.2 ∙ put_number (slot g a) i x k.0 in
            subst (λ m. (0 < m) × (m < g.next)) (sym e) (s.given k.0 k.1);
        shaped = λ r j. let k = in_map (put (slot g a) i x) g.records r j in
            let e : r.kind ≡ k.0.kind = ap (λ (z : Record). z.kind) k.2 ∙ put_kind (slot g a) i x k.0 in
            let l : length r.fields ≡ length k.0.fields = ap (λ (z : Record). length z.fields) k.2 ∙ put_length (slot g a) i x k.0 in
            (subst (λ m. m < length book) (sym e) (s.shaped k.0 k.1).0, l ∙ (s.shaped k.0 k.1).1 ∙ ap (λ m. size book m) (sym e));
        whole = λ m q. let k = s.whole m (field_down g s a i x t f ok q) in
            (put (slot g a) i x k.0, map_in (put (slot g a) i x) g.records k.0 k.1, put_number (slot g a) i x k.0 ∙ k.2);
        first = s.first;
      }

  pub call_sound : (g : Graph) → Sound book g → (c : Call) → Allowed book g c → Sound book (changed book g c)
  call_sound g s (make a k) p =
      let z : 0 < g.next = s.first (let l : a < length g.slots = p.0 in omega arith) in
      record {
        distinct = ((λ r i e. let l : r.number < g.next = (s.given r i).1 in omega arith), s.distinct);
        given = λ r i. ⊎_elim (λ e. subst (λ (x : Record). (0 < x.number) × (x.number < g.next + 1)) (sym e) (z, omega arith)) (λ j. let l : (0 < r.number) × (r.number < g.next) = s.given r j in (l.0, omega arith)) i;
        shaped = λ r i. ⊎_elim (λ e. subst (λ (x : Record). (x.kind < length book) × (length x.fields ≡ size book x.kind)) (sym e) (p.1, length-replicate (size book k) 0)) (λ j. s.shaped r j) i;
        whole = λ n q. ⊎_elim (λ o. let t = s.whole n o in (t.0, inr t.1, t.2)) (λ e. (fresh book g.next k, inl refl, sym e)) (make_down book g s a k p.0 q);
        first = λ _. omega arith;
      }
  call_sound g s (read a i) p = s
  call_sound g s (write a i w) p = field_sound g s a i w false p.1 no_reference
  call_sound g s (follow a i b) p = slot_sound g s b (get_or (held g a).fields i 0) (follow_ok g s a i p.2)
  call_sound g s (link a i b) p = field_sound g s a i (slot g b) true p.2 (λ _. slot_reached book g b)
  call_sound g s (hold a b) p = slot_sound g s b (slot g a) (slot_reached book g a)
  call_sound g s (drop a) p = slot_sound g s a 0 nothing
  call_sound g s (look a) p = s
  call_sound g s spare p = s

  pub prune_sound : (g : Graph) → Sound book g → Sound book (prune book g)
  prune_sound g s =
      record {
        distinct = prune_distinct book g s.distinct;
        given = λ r i. rw prune_next (s.given r (in_prune book g r i).0);
        shaped = λ r i. s.shaped r (in_prune book g r i).0;
        whole = λ n q. let o = reached_same book g (prune book g) (same_prune book g) q in let t = s.whole n o in (t.0, prune_in book g t.0 t.1 (subst (λ m. Reached book g m) (sym t.2) o), t.2);
        first = rw (prune_slots, prune_next) s.first;
      }

  -- What a call finds in a list it finds in its graph.
  field_prune : (g : Graph) → Sound book g → (a i : ℕ) (b : Bool) → Field book g a i b → Field book (prune book g) a i b
  field_prune g s a i b f = record { full = rw prune_slots f.full; below = rw (prune_slots, held_prune book g s a) f.below; sort = rw (prune_slots, held_prune book g s a) f.sort }

  slot_prune : (g : Graph) (a : ℕ) → Slot g a → Slot (prune book g) a
  slot_prune g a l = rw prune_slots l

  allowed_prune : (g : Graph) → Sound book g → (c : Call) → Allowed book g c → Allowed book (prune book g) c
  allowed_prune g s (make a k) p = (slot_prune g a p.0, p.1)
  allowed_prune g s (read a i) p = (slot_prune g a p.0, field_prune g s a i false p.1)
  allowed_prune g s (write a i w) p = (slot_prune g a p.0, field_prune g s a i false p.1)
  allowed_prune g s (follow a i b) p = (slot_prune g a p.0, slot_prune g b p.1, field_prune g s a i true p.2)
  allowed_prune g s (link a i b) p = (slot_prune g a p.0, slot_prune g b p.1, field_prune g s a i true p.2)
  allowed_prune g s (hold a b) p = (slot_prune g a p.0, slot_prune g b p.1)
  allowed_prune g s (drop a) p = slot_prune g a p
  allowed_prune g s (look a) p = slot_prune g a p
  allowed_prune g s spare p = tt

  -- A call on the list means the call on its graph: garbage does not matter.
  pub after_prune : (g : Graph) → Sound book g → (c : Call) → Allowed book g c → after book (prune book g) c ≡ prune book (changed book g c)
  unfolding after
  after_prune g s c p =
      let t = prune_sound g s in
      let e = call_same g (prune book g) s t (same_prune book g) c p in
      sym (prune_same book (changed book g c) (changed book (prune book g) c) e (call_sound g s c p).distinct (call_sound (prune book g) t c (allowed_prune g s c p)).distinct)

  -- The refusal and the answer of the list are the graph's.
  pub refusal_prune : (cs : List ℕ) (left : ℕ) (g : Graph) → Sound book g → (c : Call) → refusal_in book cs left (prune book g) c ≡ refusal_in book cs left g c
  refusal_prune cs left g s (make a k) = rw (prune_slots, prune_next)
  refusal_prune cs left g s (read a i) = rw (prune_slots, held_prune book g s a)
  refusal_prune cs left g s (write a i w) = rw (prune_slots, held_prune book g s a)
  refusal_prune cs left g s (follow a i b) = rw (prune_slots, held_prune book g s a)
  refusal_prune cs left g s (link a i b) = rw (prune_slots, held_prune book g s a)
  refusal_prune cs left g s (hold a b) = rw prune_slots
  refusal_prune cs left g s (drop a) = rw prune_slots
  refusal_prune cs left g s (look a) = rw prune_slots
  refusal_prune cs left g s spare = refl

  pub answer_prune : (left : ℕ) (g : Graph) → Sound book g → (c : Call) → answer_in left (prune book g) c ≡ answer_in left g c
  answer_prune left g s (make a k) = rw prune_next
  answer_prune left g s (read a i) = rw (prune_slots, held_prune book g s a)
  answer_prune left g s (write a i w) = refl
  answer_prune left g s (follow a i b) = refl
  answer_prune left g s (link a i b) = refl
  answer_prune left g s (hold a b) = refl
  answer_prune left g s (drop a) = refl
  answer_prune left g s (look a) = rw (prune_slots, held_prune book g s a)
  answer_prune left g s spare = refl
