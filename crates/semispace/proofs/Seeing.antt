-- What calls see at an address that a slot holds.
use Rattle.std.proofs.Common.{rules, ◌≡◌, ℕ, zero, suc, ◌+◌, ◌-◌, ◌<◌, ◌≤◌, Bool, true, false, eqb, List, [], ◌∷◌, map, length, get_or, take, sym, refl, ap, ◌∙◌, subst, inl, inr, arith}
use Rattle.std.proofs.lemmas.Bool.{ne_eqb}
use Rattle.kinds.specs.Shapes.{no_shape}
use Rattle.graph.specs.Graph.{size, Record, ◌∈◌}
use Rattle.graph.proofs.Changes.{map_in, find_in}
use Rattle.graph.specs.Sound as G
use Rattle.graph.specs.Calls as GC
use Rattle.semispace.specs.Layout.{mem}
use Rattle.semispace.specs.Words.{home, source, State, fields_at, own, resting, refers, kind_at, place_of, word_at}
use Rattle.semispace.specs.Sound.{the_olds, the_news, the_places, size_of, opened_at, Twin, Sound, number, value, name, shown}
use Rattle.semispace.specs.Dues.{objects, lives}
use Rattle.semispace.specs.Graphs.{record_of, raw_of, Known}
use Rattle.semispace.specs.Callings.{held_at}
use Rattle.semispace.proofs.Spreads.{by_bool, mem_append, mem_left, mem_right}
use Rattle.semispace.proofs.ReserveAgree.{new_leads, old_leads_not}
use Rattle.semispace.proofs.Putting.{all}
use Rattle.semispace.proofs.SlotSound.{good_cases}
use Rattle.semispace.proofs.Stepping.{size_is}
use Rattle.semispace.proofs.Homes.{twin_number, source_homed}
use Rattle.semispace.proofs.Like.{the_mades}
use Rattle.semispace.proofs.Likes.{name_of}
use Rattle.semispace.proofs.Knowing.{objects_cycle, objects_rest, known_apart}
use Rattle.semispace.proofs.Graphing.{mem_in}
use Rattle.semispace.proofs.Whole.{object_number, raw_distinct, slot_reference, object_refers, shown_at, slot_at}
use Rattle.semispace.proofs.Less.{root_slot, lives_root}
use Rattle.semispace.proofs.Progress.{shown_reference}
use Rattle.semispace.proofs.Sourcing.{source_of}

-- What calls see at an address is what they see of the object there.
pub record Seen (s : State) (x o : ℕ) : Type 0 where
  pub there : mem o (objects s) ≡ true
  pub number : number s x ≡ number s o
  pub kind : kind_at s x ≡ kind_at s o
  pub home : (i : ℕ) → home s x i ≡ home s o i

module _ (s : State) (S : Sound s) (K : Known s) where
  abbrev RefersTo : ℕ → Type 0
  RefersTo x = (resting s.collector ≡ true → mem x (the_news s) ≡ true) × (resting s.collector ≡ false → mem x (all s) ≡ true)

  pub place_once : (going : resting s.collector ≡ false) (x o p : ℕ) → mem o (the_olds s) ≡ true → mem p (the_olds s) ≡ true → place_of s o ≡ x + 1 → place_of s p ≡ x + 1 → o ≡ p
  place_once going x o p ko kp eo ep =
      let P : ℕ → ℕ → Type 0 = λ f y. Twin s f y in
      let vo : place_of s o - 1 ≡ x = omega arith in
      let vp : place_of s p - 1 ≡ x = omega arith in
      let to : Twin s o x = subst (P o) vo ((S.cycle going).twin o ko (λ z. omega arith)) in
      let tp : Twin s p x = subst (P p) vp ((S.cycle going).twin p kp (λ z. omega arith)) in
      by_bool (opened_at s.halves s.collector x)
      (λ e. known_apart s K going o p (mem_left o (the_olds s) (the_mades s) ko) (mem_left p (the_olds s) (the_mades s) kp) (sym (to.head e) ∙ tp.head e))
      (λ e. let a = to.back e in let b = tp.back e in omega arith)

  place_home : (going : resting s.collector ≡ false) (x o i : ℕ) → mem x (the_places s) ≡ true → mem o (the_olds s) ≡ true → place_of s o ≡ x + 1 → home s x i ≡ home s o i
  place_home going x o i kx ko e =
      let kn : mem x (the_news s) ≡ true = mem_left x (the_places s) (the_mades s) kx in
      let nl = new_leads s S.laid x kn in
      let ol = old_leads_not s S.laid o ko in
      let z : eqb (place_of s o) 0 ≡ false = ne_eqb (place_of s o) 0 (λ d. omega arith) in
      let v : place_of s o - 1 ≡ x = omega arith in
      by_bool (own s.halves s.collector x i)
      (λ d.
      let d2 : own s.halves s.collector (place_of s o - 1) i ≡ true = rw v d in
      let hx : home s x i ≡ x = rw (nl, d) in
      let ho : home s o i ≡ place_of s o - 1 = rw (ol, z, d2) in
      hx ∙ sym (ho ∙ v))
      (λ d.
      let d2 : own s.halves s.collector (place_of s o - 1) i ≡ false = rw v d in
      let b = source_homed s S going x i s.collector kx S.at (S.cycle going).back d in
      let hx : home s x i ≡ source s.memory s.collector x = rw (nl, d) in
      let ho : home s o i ≡ o = rw (ol, z, d2) in
      hx ∙ (place_once going x (source s.memory s.collector x) o b.0 ko b.1 e ∙ sym ho))

  seen_self : (x : ℕ) → mem x (objects s) ≡ true → (o : ℕ) × Seen s x o
  seen_self x k = (x, record { there = k; number = refl; kind = refl; home = λ i. refl })

  pub seen : (x : ℕ) → RefersTo x → (o : ℕ) × Seen s x o
  seen x f =
      by_bool (resting s.collector)
      (λ e. seen_self x (rw (objects_rest s e) (f.0 e)))
      (λ e.
      elim (mem_append x (the_news s) (the_olds s) (f.1 e)) [
        | inl n ↦
            elim (mem_append x (the_places s) (the_mades s) n) [
              | inl d ↦
                  let q = source_of s x (K.sourced e x d) in
                  let P : ℕ → Type 0 = λ y. Twin s q.from y in
                  let qp = q.place in
                  let v : place_of s q.from - 1 ≡ x = omega arith in
                  let tw : Twin s q.from x = subst P v ((S.cycle e).twin q.from q.old (λ z. omega arith)) in (
                    q.from,
                    record {
                      there = rw (objects_cycle s e) (mem_left q.from (the_olds s) (the_mades s) q.old);
                      number = twin_number s S q.from x q.old tw;
                      kind = tw.kind;
                      home = λ i. place_home e x q.from i d q.old q.place;
                    },
                  )
              | inr d ↦ seen_self x (rw (objects_cycle s e) (mem_right x (the_olds s) (the_mades s) d))
            ]
        | inr d ↦ seen_self x (rw (objects_cycle s e) (mem_left x (the_olds s) (the_mades s) d))
      ])

  -- slots
  pub slots_length : length (raw_of s).slots ≡ s.count
  unfolding raw_of
  slots_length = go s.count s.slots S.enough
    where
      go : (n : ℕ) (xs : List ℕ) → n ≤ length xs → length (map (name s) (take n xs)) ≡ n
      go zero xs l = refl
      go (suc n) [] l = absurd (omega arith)
      go (suc n) (x ∷ xs) l = ap suc (go n xs (omega arith))

  pub slot_named : (a : ℕ) → a < s.count → get_or (raw_of s).slots a 0 ≡ name s (get_or s.slots a 0)
  slot_named a l = go (slots_length)
    where
      go : length (raw_of s).slots ≡ s.count → get_or (raw_of s).slots a 0 ≡ name s (get_or s.slots a 0)
      go e = unfold raw_of in (let l2 : a < length (map (name s) (take s.count s.slots)) = omega arith in (slot_at s S K a l2).1)

  pub slot_leads : (a : ℕ) → a < s.count → 0 < get_or s.slots a 0 → RefersTo (held_at s a)
  slot_leads a l z = search (rules, arith, slot_reference, good_cases, all)

  -- the record that slot a holds, by its object
  module _ (a : ℕ) (l : a < s.count) (full : 0 < get_or s.slots a 0) where
    pub object : ℕ
    object = (seen (held_at s a) (slot_leads a l full)).0

    pub sees : Seen s (held_at s a) object
    unfolding object
    sees = (seen (held_at s a) (slot_leads a l full)).1

    pub slot_number : get_or (raw_of s).slots a 0 ≡ number s object
    slot_number = slot_named a l ∙ (name_of s (get_or s.slots a 0) (held_at s a) (omega arith) ∙ sees.number)

    pub held_record : GC.held (raw_of s) a ≡ record_of s object
    held_record = find_in (raw_of s).records (record_of s object) (get_or (raw_of s).slots a 0) (raw_distinct s S K) there_in (record_number ∙ sym slot_number)
      where
        there_in : record_of s object ∈ (raw_of s).records
        there_in = go sees.there
          where
            go : mem object (objects s) ≡ true → record_of s object ∈ (raw_of s).records
            go k = unfold raw_of in map_in (record_of s) (objects s) object (mem_in object (objects s) k)

        record_number : (record_of s object).number ≡ number s object
        record_number = unfold record_of in refl

    pub same_value : (i : ℕ) → value s (held_at s a) i ≡ value s object i
    same_value i = go (sees.home i)
      where
        go : home s (held_at s a) i ≡ home s object i → value s (held_at s a) i ≡ value s object i
        go e = unfold value in ap (λ h. word_at s (h + (2 + i))) e

    pub held_lives : lives s object ≡ true
    held_lives = lives_root s object (root_slot s a object S.enough l (sym (slot_named a l) ∙ slot_number))

    module _ (i : ℕ) (below : i < fields_at s (held_at s a)) where
      fields_same : fields_at s (held_at s a) ≡ fields_at s object
      fields_same = ap (λ k. size s.book k) sees.kind

      pub in_size : 2 + i < size_of s object
      in_size = let z = size_is s object in let f = fields_same in omega arith

      pub held_field : get_or (GC.held (raw_of s) a).fields i 0 ≡ shown s object i
      held_field = ap (λ (r : Record). get_or r.fields i 0) held_record ∙ go fields_same
        where
          go : fields_at s (held_at s a) ≡ fields_at s object → get_or (record_of s object).fields i 0 ≡ shown s object i
          go f = unfold record_of in shown_at s S K object i (omega arith)

      pub held_refers : refers s.book (GC.held (raw_of s) a).kind i ≡ refers s.book (kind_at s (held_at s a)) i
      held_refers = ap (λ (r : Record). refers s.book r.kind i) held_record ∙ (go ∙ ap (λ k. refers s.book k i) (sym sees.kind))
        where
          go : refers s.book (record_of s object).kind i ≡ refers s.book (kind_at s object) i
          go = unfold record_of in object_refers s S K object i sees.there

      pub field_ok : (t : Bool) → refers s.book (kind_at s (held_at s a)) i ≡ t → G.Field s.book (raw_of s) a i t
      field_ok t r = record {
        full = let n = slot_number in let k = object_number s S object sees.there in let g = (K.given object sees.there).0 in omega arith;
        below = go;
        sort = held_refers ∙ r;
      }
        where
          kind_is : (GC.held (raw_of s) a).kind ≡ kind_at s object
          kind_is = ap (λ (r : Record). r.kind) held_record ∙ (unfold record_of in refl)

          go : i < (get_or s.book (GC.held (raw_of s) a).kind no_shape).fields
          go = grind (arith, object, kind_is, fields_same)

      -- read
      pub read_answer : refers s.book (kind_at s (held_at s a)) i ≡ false → get_or (GC.held (raw_of s) a).fields i 0 ≡ value s (held_at s a) i
      read_answer r =
          let r2 : refers s.book (kind_at s object) i ≡ false = ap (λ k. refers s.book k i) (sym sees.kind) ∙ r in
          held_field ∙ (shown_word r2 ∙ sym (same_value i))
        where
          shown_word : refers s.book (kind_at s object) i ≡ false → shown s object i ≡ value s object i
          shown_word r = unfold shown in (rw r)

      -- what field i names
      pub follow_answer : refers s.book (kind_at s (held_at s a)) i ≡ true → get_or (GC.held (raw_of s) a).fields i 0 ≡ name s (value s (held_at s a) i)
      follow_answer r = grind (arith, object, sees, held_field, shown_reference, same_value)
