-- A field is set at its home: what stays of layout, numbers and kinds.
use Rattle.std.proofs.Common.{rules, ◌≡◌, ℕ, ◌+◌, ◌-◌, ◌/◌, ◌<◌, true, false, cond, eqb, ◌≢◌, List, ◌++◌, sym, ap, ◌∙◌, subst, ap₂, inl, inr, add_assoc, arith}
use Rattle.std.proofs.lemmas.List.{length-set}
use Rattle.std.proofs.lemmas.Bool.{cases_eq}
use Rattle.semispace.specs.declared.collector.Collector.{Collector}
use Rattle.semispace.specs.declared.collector.Collector.TheVariants.{Rest, Slots, Scan, Field}
use Rattle.semispace.specs.Layout.{mem}
use Rattle.semispace.specs.Words.{home, source, State, put_at, resting, refers, kind_at, place_of, word_at}
use Rattle.semispace.specs.Sound.{the_olds, the_news, the_places, size_of, good, opened_at, Twin, At, Cycle, Sound, number}
use Rattle.semispace.specs.Dues.{objects}
use Rattle.semispace.specs.Graphs.{Known}
use Rattle.semispace.proofs.Spreads.{by_bool, placed_same, mem_append, mem_left, mem_right, size_two}
use Rattle.semispace.proofs.ReserveSound.{good_more}
use Rattle.semispace.proofs.ReserveAgree.{new_leads}
use Rattle.semispace.proofs.Putting.{all, put_same, put_other, put_tag, put_size, places_put, olds_put, news_put, laid_put, mades_put}
use Rattle.semispace.proofs.Like.{the_mades, objs_all}
use Rattle.semispace.proofs.FieldLike.{unopened_place}
use Rattle.semispace.proofs.Knowing.{objects_cycle, objects_rest}
use Rattle.semispace.proofs.Graphing.{rest_number, old_number}
use Rattle.semispace.proofs.Whole.{rested}
use Rattle.semispace.proofs.Sourcing.{source_of, has_from}

-- A call writes field i of the record at h.
module _ (s : State) (S : Sound s) (K : Known s) (h i w : ℕ) (kh : mem h (all s) ≡ true) (p : 2 + i < size_of s h)
    (right : refers s.book (kind_at s h) i ≡ true → good (the_news s) w ≡ true) where
  no_tag : 2 + i ≢ 1
  no_tag = omega arith

  abbrev after : State
  after = put_at s (h + (2 + i)) w

  pub olds_p : the_olds after ≡ the_olds s
  olds_p = olds_put s S.laid h (2 + i) w kh p no_tag

  pub news_p : the_news after ≡ the_news s
  news_p = news_put s S.laid h (2 + i) w kh p no_tag

  pub places_p : the_places after ≡ the_places s
  places_p = places_put s S.laid h (2 + i) w kh p no_tag

  pub mades_p : the_mades after ≡ the_mades s
  mades_p = mades_put s S.laid h (2 + i) w kh p no_tag

  pub size_p : (x : ℕ) → mem x (all s) ≡ true → size_of after x ≡ size_of s x
  size_p x m = put_size s S.laid h (2 + i) w kh p no_tag x m

  pub tag_p : (x : ℕ) → mem x (all s) ≡ true → word_at after (x + 1) ≡ word_at s (x + 1)
  tag_p x m = put_tag s S.laid h (2 + i) w kh p no_tag x m

  pub word_p : (x n : ℕ) → mem x (all s) ≡ true → n < size_of s x → ((x ≡ h) × (n ≡ 2 + i) → ⊥) → word_at after (x + n) ≡ word_at s (x + n)
  word_p x n m q ne = put_other s S.laid h (2 + i) w kh p no_tag x n m q ne

  pub here_p : word_at after (h + (2 + i)) ≡ w
  here_p = put_same s S.laid h (2 + i) w kh p no_tag

  pub head_p : (x : ℕ) → mem x (all s) ≡ true → word_at after x ≡ word_at s x
  head_p x m = let v = word_p x 0 m (omega (arith, size_two s.book s.memory x)) (λ d. omega (arith, d.1)) in let e : x + 0 ≡ x = omega arith in rw e at v

  of_olds : (x : ℕ) → mem x (the_olds s) ≡ true → mem x (all s) ≡ true
  of_olds x m = mem_right x (the_news s) (the_olds s) m

  of_news : (x : ℕ) → mem x (the_news s) ≡ true → mem x (all s) ≡ true
  of_news x m = mem_left x (the_news s) (the_olds s) m

  of_places : (x : ℕ) → mem x (the_places s) ≡ true → mem x (all s) ≡ true
  of_places x m = of_news x (mem_left x (the_places s) (the_mades s) m)

  at_p : (d : Collector) → At s d → At after d
  at_p Rest a = a
  at_p (Slots n) a = a
  at_p (Scan at) a = rw places_p a
  at_p (Field c) a = (rw places_p a.0, rw olds_p a.1, ap (λ v. v / 16) (tag_p c.from (of_olds c.from a.1)) ∙ a.2, rw (size_p c.at (of_places c.at a.0)) a.3)

  twin_p : (x q : ℕ) → mem x (the_olds s) ≡ true → Twin s x q → Twin after x q
  twin_p x q m t = search (rules, arith, places_p, tag_p, of_places, of_olds, head_p)

  -- a reference field holds w, or what it held
  referring : (xs : List ℕ) (x n : ℕ) → mem x (all s) ≡ true → 2 + n < size_of s x → refers s.book (kind_at s x) n ≡ true → (good (the_news s) w ≡ true → good xs w ≡ true) → good xs (word_at s (x + 2 + n)) ≡ true → good xs (word_at after (x + 2 + n)) ≡ true
  referring xs x n m q r f g =
      let miss : ((x ≡ h) × (2 + n ≡ 2 + i) → ⊥) → good xs (word_at after (x + 2 + n)) ≡ true = λ ne.
      let e : word_at after (x + 2 + n) ≡ word_at s (x + 2 + n) = rw (add_assoc x 2 n) (word_p x (2 + n) m q ne) in rw e g in
      elim (cases_eq x h) [
        | inl d ↦ elim (cases_eq n i) [
          | inl c ↦
              let e : x + 2 + n ≡ h + (2 + i) = omega arith in
              let r2 : refers s.book (kind_at s h) i ≡ true = rw (d, c) at r in
              let v = here_p in
              rw (e, v) (f (right r2))
          | inr c ↦ miss (λ z. c (omega (arith, z.1)))
        ]
        | inr d ↦ miss (λ z. d z.0)
      ]

  cycle_p : resting s.collector ≡ false → Cycle after
  cycle_p going = record {
    sum = rw olds_p (placed_same s.book s.memory after.memory (the_olds s) (λ x m. size_p x (of_olds x m)) (λ x m. tag_p x (of_olds x m)) ∙ (S.cycle going).sum);
    room = (S.cycle going).room;
    twin = λ x m0 ne.
        let m : mem x (the_olds s) ≡ true = rw olds_p at m0 in
        let e : place_of after x ≡ place_of s x = ap (λ v. v / 16) (tag_p x (of_olds x m)) in
        let P : ℕ → Type 0 = λ q. Twin after x (q - 1) in
        subst P (sym e) (twin_p x (place_of s x - 1) m ((S.cycle going).twin x m (λ z. ne (e ∙ z))));
    back = λ q m0 u.
        let m : mem q (the_places s) ≡ true = rw places_p at m0 in
        let b = (S.cycle going).back q m u in
        let e = head_p q (of_places q m) in
        rw (e, olds_p) (b.0, b.1, ap (λ v. v / 16) (tag_p (word_at s q - 1) (of_olds (word_at s q - 1) b.1)) ∙ b.2);
    olds_refer = λ x n m0 q0 r0.
        let m : mem x (the_olds s) ≡ true = rw olds_p at m0 in
        let q : 2 + n < size_of s x = rw (size_p x (of_olds x m)) at q0 in
        let r : refers s.book (kind_at s x) n ≡ true = rw (tag_p x (of_olds x m)) at r0 in
        rw (olds_p, news_p) (referring (all s) x n (of_olds x m) q r (good_more (the_news s) (all s) w (λ y k. of_news y k)) ((S.cycle going).olds_refer x n m q r));
    slots_refer = λ n q. rw (olds_p, news_p) ((S.cycle going).slots_refer n q);
  }

  pub put_sound : Sound after
  put_sound = record {
    bounds = omega (arith, S.bounds, length-set s.memory (h + (2 + i)) w);
    laid = laid_put s S.laid h (2 + i) w kh p no_tag;
    enough = S.enough;
    at = at_p s.collector S.at;
    rest = S.rest;
    cycle = cycle_p;
    news_refer = λ x n m0 q0 o r0.
        let m : mem x (the_news s) ≡ true = rw news_p at m0 in
        let q : 2 + n < size_of s x = rw (size_p x (of_news x m)) at q0 in
        let r : refers s.book (kind_at s x) n ≡ true = rw (tag_p x (of_news x m)) at r0 in
        rw news_p (referring (the_news s) x n (of_news x m) q r (λ g. g) (S.news_refer x n m q o r));
    slots_passed = λ n q u. rw news_p (S.slots_passed n q u);
    plain = λ x m0. let m : mem x (the_news s) ≡ true = rw news_p at m0 in ap (λ v. v / 16) (tag_p x (of_news x m)) ∙ S.plain x m;
  }

  pub objects_p : objects after ≡ objects s
  unfolding objects
  objects_p = ap₂ (λ xs ys. cond (resting s.collector) xs ys) news_p (ap₂ (λ xs ys. xs ++ ys) olds_p mades_p)

  pub objects_all : (x : ℕ) → mem x (objects s) ≡ true → mem x (all s) ≡ true
  objects_all x k = by_bool (resting s.collector) (λ e. of_news x (rw (objects_rest s e) at k)) (λ e. objs_all s x (rw (objects_cycle s e) at k))

  pub put_known : Known after
  put_known = record {
    first = K.first;
    apart = λ x y kx0 ky0 e.
        let kx : mem x (objects s) ≡ true = rw objects_p at kx0 in
        let ky : mem y (objects s) ≡ true = rw objects_p at ky0 in
        K.apart x y kx ky (sym (head_p x (objects_all x kx)) ∙ (e ∙ head_p y (objects_all y ky)));
    given = λ x k0. let k : mem x (objects s) ≡ true = rw objects_p at k0 in rw (head_p x (objects_all x k)) (K.given x k);
    kinds = λ x k0. let k : mem x (objects s) ≡ true = rw objects_p at k0 in rw (tag_p x (objects_all x k)) (K.kinds x k);
    sourced = λ r q k0.
        let k : mem q (the_places s) ≡ true = rw places_p at k0 in
        let z = source_of s q (K.sourced r q k) in
        has_from after q (record { from = z.from; old = rw olds_p z.old; place = ap (λ v. v / 16) (tag_p z.from (of_olds z.from z.old)) ∙ z.place });
  }

  -- homes are as before
  source_p : (c : Collector) (x : ℕ) → mem x (all s) ≡ true → source after.memory c x ≡ source s.memory c x
  source_p Rest x k = ap (λ v. v - 1) (head_p x k)
  source_p (Slots n) x k = ap (λ v. v - 1) (head_p x k)
  source_p (Scan at) x k = ap (λ v. v - 1) (head_p x k)
  source_p (Field c) x k = ap (λ v. cond (eqb x c.at) c.from (v - 1)) (head_p x k)

  pub home_p : (x n : ℕ) → mem x (all s) ≡ true → home after x n ≡ home s x n
  home_p x n k = grind (arith, source_p, tag_p)

  pub number_p : (x : ℕ) → ((resting s.collector ≡ true → mem x (the_news s) ≡ true) × (resting s.collector ≡ false → mem x (all s) ≡ true)) → number after x ≡ number s x
  number_p x f =
      by_bool (resting s.collector)
      (λ e. rest_number after put_sound x (rested s.collector e) (rw news_p (f.0 e)) ∙ (head_p x (of_news x (f.0 e)) ∙ sym (rest_number s S x (rested s.collector e) (f.0 e))))
      (λ e. elim (mem_append x (the_news s) (the_olds s) (f.1 e)) [
        | inl n ↦ numbers x n e
        | inr n ↦ old_number after put_sound x (rw olds_p n) ∙ (head_p x (f.1 e) ∙ sym (old_number s S x n))
      ])
    where
      numbers : (x : ℕ) → mem x (the_news s) ≡ true → resting s.collector ≡ false → number after x ≡ number s x
      numbers x n e = unfold number in (
          by_bool (opened_at s.halves s.collector x)
          (λ d. rw (new_leads s S.laid x n, d) (head_p x (of_news x n)))
          (λ d.
          let b = (S.cycle e).back x (unopened_place s S x n d) d in
          rw (new_leads s S.laid x n, d) (ap (λ v. word_at after (v - 1)) (head_p x (of_news x n)) ∙ head_p (word_at s x - 1) (of_olds (word_at s x - 1) b.1))))
