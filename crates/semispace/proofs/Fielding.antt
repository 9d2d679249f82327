-- Write and link: the invariant and the meaning after them.
use Rattle.std.proofs.Common.{◌≡◌, ℕ, ◌+◌, ◌-◌, ◌<◌, ◌≤◌, true, false, cond, List, length, get_or, sym, refl, ap, ◌∙◌, subst, ap₂, arith}
use Rattle.std.proofs.lemmas.Bool.{cond-true, cond-false, false≢true}
use Rattle.kinds.specs.Shapes.{Shape}
use Rattle.graph.specs.Graph.{size, Graph, prune}
use Rattle.graph.specs.Sound as G
use Rattle.graph.specs.Calls as GC
use Rattle.graph.specs.Meaning.{headed_charges}
use Rattle.graph.proofs.Laws.{after_prune}
use Rattle.semispace.specs.Words.{home, State, forwarded_state, forwarded_reference, put_at, fields_at, refers, kind_at}
use Rattle.semispace.specs.Sound.{the_news, good, Sound, number, name}
use Rattle.semispace.specs.Dues.{kept, due}
use Rattle.semispace.specs.Graphs.{raw_of, graph_of, Known, Whole}
use Rattle.semispace.specs.Collected.{meaning_of, Accepted}
use Rattle.semispace.specs.Callings.{held_at, wrote, linked}
use Rattle.semispace.proofs.Whole.{slot_reference, raw_sound}
use Rattle.semispace.proofs.Less.{root_slot, lives_root}
use Rattle.semispace.proofs.Collecting.{due_rest, due_going}
use Rattle.semispace.proofs.Forth.{Forth, forth}
use Rattle.semispace.proofs.Seeing.{slots_length, slot_named, slot_leads, object, sees, slot_number, in_size, field_ok}
use Rattle.semispace.proofs.Writing.{field_graph, field_sound2, field_known, field_raw, field_less, field_due}

module _ (s : State) (S : Sound s) (K : Known s) where
  in_slots : (a : ℕ) → a < s.count → a < length (raw_of s).slots
  in_slots a l = let e = slots_length s S K in omega arith

  pub accepted : (c : GC.Call) → G.Allowed s.book (raw_of s) c → GC.paid (headed_charges s.book) c ≡ 0 → (u : State) → Sound u → Known u → raw_of u ≡ GC.changed s.book (raw_of s) c → u.book ≡ s.book → u.collector ≡ s.collector → u.count ≡ s.count → u.spare ≡ s.spare → u.halves.size ≡ s.halves.size → due u ≤ due s → kept u ≤ kept s → Whole u × Accepted (meaning_of s) c (meaning_of u)
  accepted c ok free u U KU e b q n sp sz d k = (
    record { sound = U; known = KU },
    record {
      graph = graph_from e b;
      book = b;
      charges = ap headed_charges b;
      capacity = sz;
      fixed = ap (λ n. 2 + n) n;
      spare = omega arith;
      due = d;
      still = still_going;
      kept = omega arith;
    },
  )
    where
      graph_from : raw_of u ≡ GC.changed s.book (raw_of s) c → u.book ≡ s.book → graph_of u ≡ GC.after s.book (graph_of s) c
      graph_from e q = unfold graph_of in (ap₂ (λ (b : List Shape) g. prune b g) q e ∙ sym (after_prune s.book (raw_of s) (raw_sound s S K) c ok))

      still_going : 0 < due s → 0 < due u
      still_going z = grind (arith, due_rest, due_going)

  -- write
  pub write_accepted : (a i w : ℕ) → a < s.count → 0 < get_or s.slots a 0 → i < fields_at s (held_at s a) → refers s.book (kind_at s (held_at s a)) i ≡ false → Whole (wrote s a i w) × Accepted (meaning_of s) (GC.write a i w) (meaning_of (wrote s a i w))
  write_accepted a i w la full below r =
      let o = object s S K a la full in
      let v = sees s S K a la full in
      let r2 : refers s.book (kind_at s o) i ≡ false = ap (λ k. refers s.book k i) (sym v.kind) ∙ r in
      let sz = in_size s S K a la full i below in
      let right : refers s.book (kind_at s o) i ≡ true → good (the_news s) w ≡ true = λ t. absurd (false≢true (sym r2 ∙ t)) in
      let P : ℕ → Type 0 = λ h. Whole (put_at s (h + (2 + i)) w) × Accepted (meaning_of s) (GC.write a i w) (meaning_of (put_at s (h + (2 + i)) w)) in
      let m : cond (refers s.book (kind_at s o) i) (name s w) w ≡ w = cond-false (refers s.book (kind_at s o) i) (name s w) w r2 in
      let ls = field_less s S K o i w v.there sz right in
      subst P (sym (v.home i))
      (accepted (GC.write a i w) (in_slots a la, field_ok s S K a la full i below false r) refl
      (put_at s (home s o i + (2 + i)) w)
      (field_sound2 s S K o i w v.there sz right) (field_known s S K o i w v.there sz right)
      (field_raw s S K o i w v.there sz right ∙ ap₂ (λ n x. field_graph (raw_of s) n i x) (sym (slot_number s S K a la full)) m)
      refl refl refl refl refl (field_due s S K o i w v.there sz right) ls.kept)

  -- link
  pub link_accepted : (a i b : ℕ) → a < s.count → b < s.count → 0 < get_or s.slots a 0 → i < fields_at s (held_at s a) → refers s.book (kind_at s (held_at s a)) i ≡ true → Whole (linked s a i b) × Accepted (meaning_of s) (GC.link a i b) (meaning_of (linked s a i b))
  link_accepted a i b la lb full below r =
      let rb = get_or s.slots b 0 in
      go (forwarded_state s rb) (forwarded_reference s rb) (forth s S K rb (slot_reference s S K b lb) (λ x k e. lives_root s x (root_slot s b x S.enough lb e)))
    where
      go : (t : State) (v : ℕ) → Forth s t (get_or s.slots b 0) v → Whole (put_at t (home t (held_at s a) i + (2 + i)) v) × Accepted (meaning_of s) (GC.link a i b) (meaning_of (put_at t (home t (held_at s a) i + (2 + i)) v))
      go t v F =
          let T = F.sound in
          let KT = F.known in
          let ec = F.count in
          let es = F.slots in
          let lat : a < t.count = omega arith in
          let slot_a : get_or t.slots a 0 ≡ get_or s.slots a 0 = ap (λ xs. get_or xs a 0) es in
          let ha : held_at t a ≡ held_at s a = ap (λ n. n - 1) slot_a in
          let ft : 0 < get_or t.slots a 0 = omega arith in
          let kx : kind_at t (held_at t a) ≡ kind_at s (held_at s a) = ap (kind_at t) ha ∙ F.kind (held_at s a) (slot_leads s S K a la full) in
          let bt : i < fields_at t (held_at t a) = let e : fields_at t (held_at t a) ≡ fields_at s (held_at s a) = ap₂ (λ (b : List Shape) k. size b k) F.book kx in omega arith in
          let rt : refers t.book (kind_at t (held_at t a)) i ≡ true = ap₂ (λ (b : List Shape) k. refers b k i) F.book kx ∙ r in
          let o = object t T KT a lat ft in
          let q = sees t T KT a lat ft in
          let r2 : refers t.book (kind_at t o) i ≡ true = ap (λ k. refers t.book k i) (sym q.kind) ∙ rt in
          let sz = in_size t T KT a lat ft i bt in
          let right : refers t.book (kind_at t o) i ≡ true → good (the_news t) v ≡ true = λ e. F.leads in
          let m : cond (refers t.book (kind_at t o) i) (name t v) v ≡ get_or (raw_of s).slots b 0 = cond-true (refers t.book (kind_at t o) i) (name t v) v r2 ∙ (F.means ∙ sym (slot_named s S K b lb)) in
          let n : number t o ≡ get_or (raw_of s).slots a 0 = sym (slot_number t T KT a lat ft) ∙ ap (λ (g : Graph). get_or g.slots a 0) F.raw in
          let ls = field_less t T KT o i v q.there sz right in
          let ds = field_due t T KT o i v q.there sz right in
          let k1 = F.kept in
          let k2 = ls.kept in
          let d1 = F.due in
          let P : ℕ → Type 0 = λ h. Whole (put_at t (h + (2 + i)) v) × Accepted (meaning_of s) (GC.link a i b) (meaning_of (put_at t (h + (2 + i)) v)) in
          subst P (sym (q.home i) ∙ ap (λ x. home t x i) ha)
          (accepted (GC.link a i b) (in_slots a la, in_slots b lb, field_ok s S K a la full i below true r) refl
          (put_at t (home t o i + (2 + i)) v)
          (field_sound2 t T KT o i v q.there sz right) (field_known t T KT o i v q.there sz right)
          (field_raw t T KT o i v q.there sz right ∙ (ap (λ g. field_graph g (number t o) i (cond (refers t.book (kind_at t o) i) (name t v) v)) F.raw ∙ ap₂ (λ n x. field_graph (raw_of s) n i x) n m))
          F.book F.collector F.count F.spare F.size (omega arith) (omega arith))
