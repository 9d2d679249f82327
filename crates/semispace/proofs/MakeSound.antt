-- A make keeps the invariant.
use Rattle.std.proofs.Common.{rules, ◌≡◌, ℕ, ◌+◌, ◌-◌, ◌/◌, ◌%◌, ◌<◌, ◌≤◌, true, false, ◌&&◌, ◌||◌, eqb, ltb, leb, ◌⊎◌, ◌∷◌, ◌++◌, length, get_or, set, sym, ap, ◌∙◌, subst, ap₂, inl, inr, add_assoc, arith}
use Rattle.std.proofs.lemmas.List.{length-set}
use Rattle.std.proofs.lemmas.Bool.{or_right, lt-leb, le-leb}
use Rattle.semispace.specs.declared.collector.Collector.{Collector}
use Rattle.semispace.specs.declared.collector.Collector.TheVariants.{Rest, Slots, Scan, Field}
use Rattle.semispace.specs.Layout.{mem}
use Rattle.semispace.specs.Words.{State, front, filled, own, resting, refers, kind_at, place_of, word_at, fresh, made_at, fields_of}
use Rattle.semispace.specs.Sound.{the_olds, the_news, the_places, size_of, is_open, opened_at, Twin, At, Cycle, Sound}
use Rattle.semispace.specs.Dues.{objects}
use Rattle.semispace.specs.Graphs.{Known}
use Rattle.semispace.specs.Callings.{grown_by}
use Rattle.semispace.proofs.Spreads.{by_bool, placed_same, mem_cases, mem_head, mem_append, mem_left, mem_right, size_two}
use Rattle.semispace.proofs.Reserving.{places_inside, mades_inside}
use Rattle.semispace.proofs.ReserveSound.{good_more}
use Rattle.semispace.proofs.Putting.{all}
use Rattle.semispace.proofs.SlotSound.{good_none}
use Rattle.semispace.proofs.Like.{the_mades, objs_all}
use Rattle.semispace.proofs.Knowing.{objects_cycle, objects_rest}
use Rattle.graph.proofs.Clearing.{cleared_length}
use Rattle.semispace.proofs.Making.{make_room, made_number, made_tag, made_field, made_word, made_size, size_here, lows_made, highs_made, places_made, mades_made, laid_made}
use Rattle.semispace.proofs.Sourcing.{source_of, has_from}

module _ (s : State) (S : Sound s) (k : ℕ) (known : k < 16) (fits : 2 + fields_of s.book k ≤ s.spare) where
  abbrev at : ℕ
  at = made_at s k

  abbrev len : ℕ
  len = 2 + fields_of s.book k

  abbrev t : State
  t = grown_by s k

  room : s.halves.low + len ≤ s.halves.high
  room = let r = make_room s S in omega arith

  pub word_m : (x j : ℕ) → mem x (all s) ≡ true → j < size_of s x → word_at t (x + j) ≡ word_at s (x + j)
  word_m x j m l = made_word s S k s.next known fits x j m l

  pub tag_m : (x : ℕ) → mem x (all s) ≡ true → word_at t (x + 1) ≡ word_at s (x + 1)
  tag_m x m = word_m x 1 m (size_two s.book s.memory x)

  pub head_m : (x : ℕ) → mem x (all s) ≡ true → word_at t x ≡ word_at s x
  head_m x m = let v = word_m x 0 m (omega (arith, size_two s.book s.memory x)) in let e : x + 0 ≡ x = omega arith in rw e at v

  pub size_m : (x : ℕ) → mem x (all s) ≡ true → size_of t x ≡ size_of s x
  size_m x m = made_size s S k s.next known fits x m

  pub olds_m : the_olds t ≡ the_olds s
  olds_m = ap₂ (λ xs ys. xs ++ ys) (lows_made s S k s.next known fits) (highs_made s S k s.next known fits)

  pub places_m : the_places t ≡ the_places s
  places_m = places_made s S k s.next known fits

  pub mades_m : the_mades t ≡ at ∷ the_mades s
  mades_m = mades_made s S k s.next known fits

  of_olds : (x : ℕ) → mem x (the_olds s) ≡ true → mem x (all s) ≡ true
  of_olds x m = mem_right x (the_news s) (the_olds s) m

  of_news : (x : ℕ) → mem x (the_news s) ≡ true → mem x (all s) ≡ true
  of_news x m = mem_left x (the_news s) (the_olds s) m

  of_places : (x : ℕ) → mem x (the_places s) ≡ true → mem x (all s) ≡ true
  of_places x m = of_news x (mem_left x (the_places s) (the_mades s) m)

  pub news_cases_m : (x : ℕ) → mem x (the_news t) ≡ true → (x ≡ at) ⊎ (mem x (the_news s) ≡ true)
  news_cases_m x m = search (rules, arith, mem_append, the_mades, mem_left, places_m, mem_cases, mades_m, mem_right)

  pub news_kept_m : (x : ℕ) → mem x (the_news s) ≡ true → mem x (the_news t) ≡ true
  news_kept_m x m = grind (arith, places_m, mades_m, mem_append, the_mades, mem_left, mem_right, or_right)

  pub made_there : mem at (the_news t) ≡ true
  made_there = rw (places_m, mades_m) (mem_right at (the_places s) (at ∷ the_mades s) (mem_head at (the_mades s)))

  all_kept_m : (x : ℕ) → mem x (all s) ≡ true → mem x (all t) ≡ true
  all_kept_m x m = elim (mem_append x (the_news s) (the_olds s) m) [ inl e ↦ mem_left x (the_news t) (the_olds t) (news_kept_m x e) | inr e ↦ mem_right x (the_news t) (the_olds t) (rw olds_m e) ]

  -- the high end has come down, but not to a place
  top_m : (x : ℕ) → mem x (the_news s) ≡ true → leb (s.halves.base + (s.halves.high - len)) x ≡ leb (s.halves.base + s.halves.high) x
  top_m x m = grind (arith, room, mem_append, the_mades, places_inside, size_two, lt-leb, mades_inside, le-leb)

  pub opened_m : (x : ℕ) → mem x (the_news s) ≡ true → opened_at t.halves s.collector x ≡ opened_at s.halves s.collector x
  opened_m x m = ap (λ b. b || (ltb x (front s.halves.base s.halves.size s.collector) || (eqb x (front s.halves.base s.halves.size s.collector) && is_open s.collector))) (top_m x m)

  pub own_m : (x n : ℕ) → mem x (the_news s) ≡ true → own t.halves s.collector x n ≡ own s.halves s.collector x n
  own_m x n m = ap (λ b. b || (ltb x (front s.halves.base s.halves.size s.collector) || (eqb x (front s.halves.base s.halves.size s.collector) && ltb n (filled s.collector)))) (top_m x m)

  at_m : (d : Collector) → At s d → At t d
  at_m Rest a = a
  at_m (Slots n) a = a
  at_m (Scan p) a = rw places_m a
  at_m (Field c) a = (rw places_m a.0, rw olds_m a.1, ap (λ v. v / 16) (tag_m c.from (of_olds c.from a.1)) ∙ a.2, rw (size_m c.at (of_places c.at a.0)) a.3)

  place_new : (q : ℕ) → mem q (the_places s) ≡ true → mem q (the_news s) ≡ true
  place_new q m = mem_left q (the_places s) (the_mades s) m

  cycle_m : resting s.collector ≡ false → Cycle t
  cycle_m going = record {
    sum = rw olds_m (placed_same s.book s.memory t.memory (the_olds s) (λ x m. size_m x (of_olds x m)) (λ x m. tag_m x (of_olds x m)) ∙ (S.cycle going).sum);
    room = let r = (S.cycle going).room in let q = room in omega arith;
    twin = λ x m0 ne.
        let m : mem x (the_olds s) ≡ true = rw olds_m at m0 in
        let e : place_of t x ≡ place_of s x = ap (λ v. v / 16) (tag_m x (of_olds x m)) in
        let w = (S.cycle going).twin x m (λ z. ne (e ∙ z)) in
        let q = place_of s x - 1 in
        let P : ℕ → Type 0 = λ q. Twin t x (q - 1) in
        subst P (sym e) (record {
          inside = rw places_m w.inside;
          kind = ap (λ v. v % 16) (tag_m q (of_places q w.inside)) ∙ (w.kind ∙ sym (ap (λ v. v % 16) (tag_m x (of_olds x m))));
          back = λ u. head_m q (of_places q w.inside) ∙ w.back (sym (opened_m q (place_new q w.inside)) ∙ u);
          head = λ u. head_m q (of_places q w.inside) ∙ (w.head (sym (opened_m q (place_new q w.inside)) ∙ u) ∙ sym (head_m x (of_olds x m)));
        });
    back = λ q m0 u.
        let m : mem q (the_places s) ≡ true = rw places_m at m0 in
        let b = (S.cycle going).back q m (sym (opened_m q (place_new q m)) ∙ u) in
        let e = head_m q (of_places q m) in
        rw (e, olds_m) (b.0, b.1, ap (λ v. v / 16) (tag_m (word_at s q - 1) (of_olds (word_at s q - 1) b.1)) ∙ b.2);
    olds_refer = λ x n m0 q0 r0.
        let m : mem x (the_olds s) ≡ true = rw olds_m at m0 in
        let q : 2 + n < size_of s x = rw (size_m x (of_olds x m)) at q0 in
        let r : refers s.book (kind_at s x) n ≡ true = rw (tag_m x (of_olds x m)) at r0 in
        let e : word_at t (x + 2 + n) ≡ word_at s (x + 2 + n) = rw (add_assoc x 2 n) (word_m x (2 + n) (of_olds x m) q) in
        rw e (good_more (all s) (all t) (word_at s (x + 2 + n)) all_kept_m ((S.cycle going).olds_refer x n m q r));
    slots_refer = λ n q. good_more (all s) (all t) (get_or s.slots n 0) all_kept_m ((S.cycle going).slots_refer n q);
  }

  pub make_sound : Sound t
  make_sound =
      let len_same : length t.memory ≡ length s.memory = cleared_length (fresh s.memory at s.next k) (at + 2) (fields_of s.book k) ∙ (length-set (set s.memory at s.next) (at + 1) k ∙ length-set s.memory at s.next) in
      let q = room in
      record {
        bounds = omega (arith, S.bounds);
        laid = laid_made s S k s.next known fits;
        enough = S.enough;
        at = at_m s.collector S.at;
        rest = λ r. let a = S.rest r in omega arith;
        cycle = cycle_m;
        news_refer = λ x n m0 q0 o r0.
            elim (news_cases_m x m0) [
              | inl e ↦
                  let z = size_here s S k s.next known fits in
                  let q1 : 2 + n < size_of t at = rw e at q0 in
                  let f = made_field s S k s.next known fits n (omega arith) in
                  let w : word_at t (x + 2 + n) ≡ 0 = ap (word_at t) (let y : x + 2 + n ≡ at + (2 + n) = omega arith in y) ∙ f in
                  good_none (the_news t) (word_at t (x + 2 + n)) w
              | inr m ↦
                  let q1 : 2 + n < size_of s x = rw (size_m x (of_news x m)) at q0 in
                  let r : refers s.book (kind_at s x) n ≡ true = rw (tag_m x (of_news x m)) at r0 in
                  let e : word_at t (x + 2 + n) ≡ word_at s (x + 2 + n) = rw (add_assoc x 2 n) (word_m x (2 + n) (of_news x m) q1) in
                  rw e (good_more (the_news s) (the_news t) (word_at s (x + 2 + n)) news_kept_m (S.news_refer x n m q1 (sym (own_m x n m) ∙ o) r))
            ];
        slots_passed = λ n q u. good_more (the_news s) (the_news t) (get_or s.slots n 0) news_kept_m (S.slots_passed n q u);
        plain = λ x m0. elim (news_cases_m x m0) [
          | inl e ↦ let g = made_tag s S k s.next known fits in let z : place_of t at ≡ 0 = omega arith in ap (place_of t) e ∙ z
          | inr m ↦ ap (λ v. v / 16) (tag_m x (of_news x m)) ∙ S.plain x m
        ];
      }

  -- the objects, and what is known of them
  pub objects_m : (x : ℕ) → mem x (objects t) ≡ true → (x ≡ at) ⊎ (mem x (objects s) ≡ true)
  objects_m x m = search (rules, arith, news_cases_m, objects_rest, mem_append, the_mades, objects_cycle, mem_left, olds_m, mem_cases, mades_m, mem_right)

  pub object_all : (x : ℕ) → mem x (objects s) ≡ true → mem x (all s) ≡ true
  object_all x m = by_bool (resting s.collector) (λ e. of_news x (rw (objects_rest s e) at m)) (λ e. objs_all s x (rw (objects_cycle s e) at m))

  pub make_known : Known s → 0 < s.next → k < length s.book → Known t
  make_known K f kk =
      let new : word_at t at ≡ s.next = made_number s S k s.next known fits in
      let below : (x : ℕ) → mem x (objects s) ≡ true → word_at t x < s.next = λ x m. let e = head_m x (object_all x m) in let g = (K.given x m).1 in omega arith in
      record {
        first = λ _. omega arith;
        apart = λ a b ka kb e.
            elim (objects_m a ka) [
              | inl p ↦ elim (objects_m b kb) [
                | inl q ↦ p ∙ sym q
                | inr q ↦ let l = below b q in let y : word_at t a ≡ s.next = ap (word_at t) p ∙ new in absurd (omega arith)
              ]
              | inr p ↦ elim (objects_m b kb) [
                | inl q ↦ let l = below a p in let y : word_at t b ≡ s.next = ap (word_at t) q ∙ new in absurd (omega arith)
                | inr q ↦ K.apart a b p q (sym (head_m a (object_all a p)) ∙ (e ∙ head_m b (object_all b q)))
              ]
            ];
        given = λ a m. elim (objects_m a m) [
          | inl p ↦ let y : word_at t a ≡ s.next = ap (word_at t) p ∙ new in (omega arith, omega arith)
          | inr p ↦ let l = below a p in let e = head_m a (object_all a p) in let g = (K.given a p).0 in (omega arith, omega arith)
        ];
        kinds = λ a m. elim (objects_m a m) [
          | inl p ↦ let g = made_tag s S k s.next known fits in let z : kind_at t at ≡ k = omega arith in let y : kind_at t a ≡ k = ap (kind_at t) p ∙ z in omega arith
          | inr p ↦ let y : kind_at t a ≡ kind_at s a = ap (λ v. v % 16) (tag_m a (object_all a p)) in let g = K.kinds a p in omega arith
        ];
        sourced = λ r p m0.
            let m : mem p (the_places s) ≡ true = rw places_m at m0 in
            let z = source_of s p (K.sourced r p m) in
            has_from t p (record { from = z.from; old = rw olds_m z.old; place = ap (λ v. v / 16) (tag_m z.from (of_olds z.from z.old)) ∙ z.place });
      }
