-- Hold, drop and follow: the invariant and the meaning after them.
use Rattle.std.proofs.Common.{◌≡◌, ℕ, ◌+◌, ◌-◌, ◌<◌, true, eqb, List, length, get_or, set, sym, refl, ap, ◌∙◌, subst, ap₂, inl, inr, arith}
use Rattle.std.proofs.lemmas.Bool.{eq-eqb}
use Rattle.kinds.specs.Shapes.{Shape}
use Rattle.graph.specs.Graph.{Graph, prune}
use Rattle.graph.specs.Sound as G
use Rattle.graph.specs.Calls as GC
use Rattle.graph.specs.Meaning.{headed_charges}
use Rattle.graph.proofs.Laws.{after_prune}
use Rattle.semispace.specs.Layout.{mem}
use Rattle.semispace.specs.Words.{State, set_slots, forwarded_state, forwarded_reference, put_slot, fields_at, refers, kind_at}
use Rattle.semispace.specs.Sound.{the_news, Sound, number, value, name}
use Rattle.semispace.specs.Dues.{objects, lives, due}
use Rattle.semispace.specs.Graphs.{raw_of, graph_of, Known, Whole}
use Rattle.semispace.specs.Collected.{meaning_of, Accepted}
use Rattle.semispace.specs.Callings.{held_at, dropped, holding, followed}
use Rattle.semispace.proofs.Putting.{all}
use Rattle.semispace.proofs.SlotSound.{good_cases, good_none}
use Rattle.semispace.proofs.Likes.{name_of}
use Rattle.semispace.proofs.Whole.{object_number, slot_reference, field_reference, raw_sound, Reference}
use Rattle.semispace.proofs.Less.{root_new, root_slot, lives_root, lives_edge}
use Rattle.semispace.proofs.Progress.{edge_from, shown_reference}
use Rattle.semispace.proofs.Collecting.{due_rest, due_going}
use Rattle.semispace.proofs.Forth.{Forth, forth, set_sound, set_known, set_raw, set_less, set_due}
use Rattle.semispace.proofs.Seeing.{slots_length, slot_named, object, sees, same_value, held_lives, in_size, field_ok, follow_answer}

-- A call that puts the reference r into slot b.
abbrev pub put_graph : Graph → ℕ → ℕ → Graph
put_graph g b n = record { slots = set g.slots b n; next = g.next; records = g.records }

module _ (s : State) (S : Sound s) (K : Known s) where
  pub put_accepted : (r b : ℕ) → Reference s S K r → ((x : ℕ) → mem x (objects s) ≡ true → name s r ≡ number s x → lives s x ≡ true) → b < s.count → (c : GC.Call) → G.Allowed s.book (raw_of s) c → GC.changed s.book (raw_of s) c ≡ put_graph (raw_of s) b (name s r) → GC.paid (headed_charges s.book) c ≡ 0 → Whole (put_slot s b r) × Accepted (meaning_of s) c (meaning_of (put_slot s b r))
  put_accepted r b g li lb c ok ch free = go (forwarded_state s r) (forwarded_reference s r) (forth s S K r g li)
    where
      go : (t : State) (v : ℕ) → Forth s t r v → Whole (set_slots t (set s.slots b v)) × Accepted (meaning_of s) c (meaning_of (set_slots t (set s.slots b v)))
      go t v F =
          let R : List ℕ → Type 0 = λ xs. Whole (set_slots t (set xs b v)) × Accepted (meaning_of s) c (meaning_of (set_slots t (set xs b v))) in
          let lt : b < t.count = let e = F.count in omega arith in
          let u = set_slots t (set t.slots b v) in
          let li2 : (x : ℕ) → mem x (objects t) ≡ true → name t v ≡ number t x → lives t x ≡ true = λ x k e. lives_after t v F x k e in
          let U = set_sound t F.sound F.known b v F.leads lt in
          let KU = set_known t F.sound F.known b v F.leads lt in
          let rw1 : raw_of u ≡ GC.changed s.book (raw_of s) c =
          set_raw t F.sound F.known b v F.leads lt ∙ (ap (λ g. put_graph g b (name t v)) F.raw ∙ (ap (put_graph (raw_of s) b) F.means ∙ sym ch)) in
          let ls = set_less t F.sound F.known b v F.leads lt li2 in
          let ds = set_due t F.sound F.known b v F.leads lt li2 in
          let k1 = F.kept in
          let k2 = ls.kept in
          let d1 = F.due in
          subst R F.slots (
            record { sound = U; known = KU },
            record {
              graph = graph_from u rw1 F.book;
              book = F.book;
              charges = ap headed_charges F.book;
              capacity = F.size;
              fixed = ap (λ n. 2 + n) F.count;
              spare = let e = F.spare in omega arith;
              due = omega arith;
              still = λ z. still_going u F.collector z;
              kept = omega arith;
            },
          )
        where
          lives_after : (t : State) (v : ℕ) → Forth s t r v → (x : ℕ) → mem x (objects t) ≡ true → name t v ≡ number t x → lives t x ≡ true
          lives_after t v F x k e =
              elim (good_cases (the_news t) v F.leads) [
                | inl z ↦ let n : name t v ≡ 0 = name_none t v z in let p = object_number t F.sound x k in let q = (F.known.given x k).0 in absurd (omega arith)
                | inr z ↦ lives_root t x (root_new t (v - 1) x z.1 (sym (name_of t v (v - 1) (let y = z.0 in omega arith)) ∙ e))
              ]
            where
              name_none : (t : State) (v : ℕ) → v ≡ 0 → name t v ≡ 0
              name_none t v z = unfold name in (let q : eqb v 0 ≡ true = eq-eqb v 0 z in rw q)

          graph_from : (u : State) → raw_of u ≡ GC.changed s.book (raw_of s) c → u.book ≡ s.book → graph_of u ≡ GC.after s.book (graph_of s) c
          graph_from u e q = unfold graph_of in (ap₂ (λ (b : List Shape) g. prune b g) q e ∙ sym (after_prune s.book (raw_of s) (raw_sound s S K) c ok))

          still_going : (u : State) → u.collector ≡ s.collector → 0 < due s → 0 < due u
          still_going u q z = grind (arith, due_rest, due_going)

  in_slots : (a : ℕ) → a < s.count → a < length (raw_of s).slots
  in_slots a l = let e = slots_length s S K in omega arith

  -- hold
  pub hold_accepted : (a b : ℕ) → a < s.count → b < s.count → Whole (holding s a b) × Accepted (meaning_of s) (GC.hold a b) (meaning_of (holding s a b))
  hold_accepted a b la lb =
      put_accepted (get_or s.slots a 0) b (slot_reference s S K a la)
      (λ x k e. lives_root s x (root_slot s a x S.enough la e)) lb
      (GC.hold a b) (in_slots a la, in_slots b lb) (ap (put_graph (raw_of s) b) (slot_named s S K a la)) refl

  -- drop
  pub drop_accepted : (a : ℕ) → a < s.count → Whole (dropped s a) × Accepted (meaning_of s) (GC.drop a) (meaning_of (dropped s a))
  drop_accepted a la =
      put_accepted 0 a (λ e. good_none (the_news s) 0 refl, λ e. good_none (all s) 0 refl)
      (λ x k e. let p = object_number s S x k in let q = (K.given x k).0 in let n = none in absurd (omega arith)) la
      (GC.drop a) (in_slots a la) (ap (put_graph (raw_of s) a) (sym none)) refl
    where
      none : name s 0 ≡ 0
      none = unfold name in refl

  -- follow
  pub follow_accepted : (a i b : ℕ) → a < s.count → b < s.count → 0 < get_or s.slots a 0 → i < fields_at s (held_at s a) → refers s.book (kind_at s (held_at s a)) i ≡ true → Whole (followed s a i b) × Accepted (meaning_of s) (GC.follow a i b) (meaning_of (followed s a i b))
  follow_accepted a i b la lb full below r =
      let o = object s S K a la full in
      let v = sees s S K a la full in
      let r2 : refers s.book (kind_at s o) i ≡ true = ap (λ k. refers s.book k i) (sym v.kind) ∙ r in
      let sz = in_size s S K a la full i below in
      let same = same_value s S K a la full i in
      let P : ℕ → Type 0 = λ w. Reference s S K w in
      put_accepted (value s (held_at s a) i) b
      (subst P (sym same) (field_reference s S K o i v.there sz r2))
      (λ x k e. lives_edge s o x v.there k (held_lives s S K a la full) (edge_from s o x i sz r2 (shown_reference s o i r2 ∙ (ap (name s) (sym same) ∙ e)))) lb
      (GC.follow a i b) (in_slots a la, in_slots b lb, field_ok s S K a la full i below true r)
      (ap (put_graph (raw_of s) b) (follow_answer s S K a la full i below r)) refl
