-- What the code of calls asks of the words, from the invariant.
use Rattle.std.proofs.Common.{rules, ◌≡◌, ℕ, ◌+◌, ◌-◌, ◌<◌, Bool, true, false, ◌||◌, eqb, leb, List, get_or, sym, ap, ◌∙◌, subst, ap₂, inl, inr, arith}
use Rattle.std.proofs.lemmas.Bool.{or_left, or_right, eq-eqb, lt-ltb, le-leb, true≢false}
use Rattle.kinds.specs.Shapes.{Shape}
use Rattle.graph.specs.Graph.{size}
use Rattle.semispace.specs.declared.collector.Target.TheVariants.{Settled}
use Rattle.semispace.specs.Layout.{mem, mades}
use Rattle.semispace.specs.Words.{State, both_halves, leads_new, resting, kind_at, place_of, fields_at, word_at, home, target, Found, Forwardable, forwarded_state, forwarded_reference, refers}
use Rattle.semispace.specs.Sound.{the_olds, the_news, the_places, size_of, opened_at, Twin, value, Sound}
use Rattle.semispace.specs.Graphs.{Known}
use Rattle.semispace.specs.Callings.{held_at, Full, Held, Numbered, Linkable}
use Rattle.semispace.specs.Stands.{Meets}
use Rattle.semispace.proofs.Spreads.{by_bool, mem_append, mem_left, mem_right, size_two}
use Rattle.semispace.proofs.Reserving.{mades_inside}
use Rattle.semispace.proofs.SlotSound.{good_cases}
use Rattle.semispace.proofs.ReserveAgree.{new_leads, old_leads_not}
use Rattle.semispace.proofs.Putting.{all, news_inside, all_inside}
use Rattle.semispace.proofs.Homes.{size_by_kind}
use Rattle.semispace.proofs.Readying.{forwardable}
use Rattle.semispace.proofs.Knowing.{objects_rest, objects_cycle}
use Rattle.semispace.proofs.Sourcing.{source_of}
use Rattle.semispace.proofs.Whole.{rested, Reference, slot_reference, field_reference}
use Rattle.semispace.proofs.Less.{root_slot, lives_root}
use Rattle.semispace.proofs.Seeing.{object, sees, slot_leads, in_size, same_value}
use Rattle.semispace.proofs.Writing.{home_of}
use Rattle.semispace.proofs.Forth.{Forth, forth}

module _ (s : State) (S : Sound s) (K : Known s) where
  abbrev the_mades : List ℕ
  the_mades = mades s.book s.memory s.halves

  -- the first word of every record in the new half is above 0
  head_some : (x : ℕ) → mem x (the_news s) ≡ true → 0 < word_at s x
  head_some x k =
      by_bool (resting s.collector)
      (λ e. (K.given x (rw (objects_rest s e) k)).0)
      (λ e. elim (mem_append x (the_places s) the_mades k) [
        | inl p ↦
            by_bool (opened_at s.halves s.collector x)
            (λ d.
            let q = source_of s x (K.sourced e x p) in
            let P : ℕ → Type 0 = λ y. Twin s q.from y in
            let qp = q.place in
            let v : place_of s q.from - 1 ≡ x = omega arith in
            let t : Twin s q.from x = subst P v ((S.cycle e).twin q.from q.old (λ z. omega arith)) in
            let g = (K.given q.from (rw (objects_cycle s e) (mem_left q.from (the_olds s) the_mades q.old))).0 in
            let h = t.head d in
            omega arith)
            (λ d. ((S.cycle e).back x p d).0)
        | inr m ↦ (K.given x (rw (objects_cycle s e) (mem_right x (the_olds s) the_mades m))).0
      ])

  -- an address that leads into the new half is that of a record there
  new_in : (x : ℕ) → mem x (all s) ≡ true → leads_new s.halves (x + 1) ≡ true → mem x (the_news s) ≡ true
  new_in x k e = grind (arith, mem_append, old_leads_not)

  rest_opened : (x : ℕ) → mem x (the_news s) ≡ true → resting s.collector ≡ true → opened_at s.halves s.collector x ≡ true
  rest_opened x k e = grind (arith, news_inside, size_two, rested, or_right, or_left, lt-ltb)

  unopened_old : (x : ℕ) → mem x (the_news s) ≡ true → opened_at s.halves s.collector x ≡ false → word_at s x - 1 < both_halves s
  unopened_old x k d =
      by_bool (resting s.collector)
      (λ e. absurd (true≢false (sym (rest_opened x k e) ∙ d)))
      (λ e. elim (mem_append x (the_places s) the_mades k) [
        | inl p ↦
            let b = (S.cycle e).back x p d in
            let v = all_inside s S.laid (word_at s x - 1) 0 (mem_right (word_at s x - 1) (the_news s) (the_olds s) b.1) (omega (arith, size_two s.book s.memory (word_at s x - 1))) in
            omega arith
        | inr m ↦ absurd (true≢false (sym (or_left (leb (s.halves.base + s.halves.high) x) _ (le-leb (s.halves.base + s.halves.high) x (mades_inside _ _ _ S.laid x m).0)) ∙ d))
      ])

  in_all : (x : ℕ) → (resting s.collector ≡ true → mem x (the_news s) ≡ true) × (resting s.collector ≡ false → mem x (all s) ≡ true) → mem x (all s) ≡ true
  in_all x f = by_bool (resting s.collector) (λ e. mem_left x (the_news s) (the_olds s) (f.0 e)) (λ e. f.1 e)

  inside : (x : ℕ) → mem x (all s) ≡ true → x + 1 < both_halves s
  inside x k = all_inside s S.laid x 1 k (omega (arith, size_two s.book s.memory x))

  -- slots
  pub full_at : (a : ℕ) → a < s.count → 0 < get_or s.slots a 0 → Full s a
  full_at a l z = record { full = z; inside = inside (held_at s a) (in_all (held_at s a) (slot_leads s S K a l z)) }

  pub numbered_at : (a : ℕ) → a < s.count → 0 < get_or s.slots a 0 → Numbered s (held_at s a)
  numbered_at a l z =
      let k = in_all (held_at s a) (slot_leads s S K a l z) in
      search (rules, arith, inside, head_some, new_in, unopened_old)

  pub found_at : (a i : ℕ) (l : a < s.count) (z : 0 < get_or s.slots a 0) → i < fields_at s (held_at s a) → Found s (held_at s a) i
  found_at a i l z b =
      let x = held_at s a in
      let k = in_all x (slot_leads s S K a l z) in
      let o = object s S K a l z in
      let v = sees s S K a l z in
      let h = home_of s S K o i v.there in
      let sz : size_of s (home s o i) ≡ size_of s o = size_by_kind s (home s o i) o h.kind in
      let y = in_size s S K a l z i b in
      let w = all_inside s S.laid (home s o i) (2 + i) h.inside (omega arith) in
      let e = v.home i in
      (inside x k, (λ p q. head_some x (new_in x k p)), omega arith)

  pub held_from : (a i : ℕ) (t : Bool) → Meets s a i t → Held s a i
  held_from a i t m = record { full = m.full; found = found_at a i m.slot m.full m.below }

  -- references that may be put
  pub puttable : (r : ℕ) → Reference s S K r → Forwardable s r
  puttable r g =
      by_bool (resting s.collector)
      (λ e.
      let n = g.0 e in
      let d : (eqb r 0 || leads_new s.halves r) ≡ true =
      elim (good_cases (the_news s) r n) [
        | inl z ↦ or_left (eqb r 0) (leads_new s.halves r) (eq-eqb r 0 z)
        | inr z ↦ or_right (eqb r 0) (leads_new s.halves r) (let q : r - 1 + 1 ≡ r = omega (arith, z.0) in ap (leads_new s.halves) (sym q) ∙ new_leads s S.laid (r - 1) z.1)
      ] in
      let q : target s r ≡ Settled = rw d in (
        (λ l. elim (good_cases (the_news s) r n) [
          | inl z ↦ absurd (omega arith)
          | inr z ↦ let v = inside (r - 1) (mem_left (r - 1) (the_news s) (the_olds s) z.1) in omega arith
        ]),
        λ u. absurd (let z : ◌≡◌ {A = ℕ} 0 1 = cc in omega arith),
      ))
      (λ e. forwardable s S e r (g.1 e))

  pub slot_led : (a : ℕ) → a < s.count → Forwardable s (get_or s.slots a 0)
  slot_led a l = puttable (get_or s.slots a 0) (slot_reference s S K a l)

  pub value_led : (a i : ℕ) → Meets s a i true → Forwardable s (value s (held_at s a) i)
  value_led a i m =
      let l = m.slot in
      let z = m.full in
      let o = object s S K a l z in
      let v = sees s S K a l z in
      let r2 : refers s.book (kind_at s o) i ≡ true = ap (λ k. refers s.book k i) (sym v.kind) ∙ m.fits in
      let P : ℕ → Type 0 = λ w. Reference s S K w in
      puttable (value s (held_at s a) i) (subst P (sym (same_value s S K a l z i)) (field_reference s S K o i v.there (in_size s S K a l z i m.below) r2))

pub linkable_from : (s : State) (S : Sound s) (K : Known s) (a i b : ℕ) → Meets s a i true → b < s.count → Linkable s a i b
linkable_from s S K a i b m lb =
    let rb = get_or s.slots b 0 in
    let z = go (forwarded_state s rb) (forwarded_reference s rb) (forth s S K rb (slot_reference s S K b lb) (λ x k e. lives_root s x (root_slot s b x S.enough lb e))) in
    record { full = m.full; led = puttable s S K rb (slot_reference s S K b lb); found = z }
  where
    go : (t : State) (v : ℕ) → Forth s t (get_or s.slots b 0) v → Found t (held_at s a) i
    go t v F =
        let ec = F.count in
        let l = m.slot in
        let f = m.full in
        let lat : a < t.count = omega arith in
        let slot_a : get_or t.slots a 0 ≡ get_or s.slots a 0 = ap (λ xs. get_or xs a 0) F.slots in
        let ha : held_at t a ≡ held_at s a = ap (λ n. n - 1) slot_a in
        let ft : 0 < get_or t.slots a 0 = omega arith in
        let kx : kind_at t (held_at t a) ≡ kind_at s (held_at s a) = ap (kind_at t) ha ∙ F.kind (held_at s a) (slot_leads s S K a m.slot m.full) in
        let bb = m.below in
        let bt : i < fields_at t (held_at t a) = let e : fields_at t (held_at t a) ≡ fields_at s (held_at s a) = ap₂ (λ (b : List Shape) k. size b k) F.book kx in omega arith in
        subst (λ x. Found t x i) ha (found_at t F.sound F.known a i lat ft bt)
