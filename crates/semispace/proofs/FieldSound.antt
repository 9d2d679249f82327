-- A copied field keeps the invariant.
use Rattle.std.proofs.Common.{◌≡◌, ℕ, ◌+◌, ◌-◌, ◌/◌, ◌%◌, ◌<◌, true, false, ◌≢◌, ◌⊎◌, sym, ap, ◌∙◌, subst, inl, inr, add_assoc, arith}
use Rattle.std.proofs.lemmas.List.{length-set}
use Rattle.std.proofs.lemmas.Bool.{cases_eq, false≢true}
use Rattle.semispace.specs.declared.collector.Collector.{Collector}
use Rattle.semispace.specs.declared.collector.Collector.TheVariants.{Rest, Slots, Scan, Field}
use Rattle.semispace.specs.Layout.{mem, mades}
use Rattle.semispace.specs.Words.{leads_new, State, put_at, set_collector, own, resting, refers, kind_at, place_of, word_at}
use Rattle.semispace.specs.Sound.{the_olds, the_news, the_places, size_of, good, opened_at, passed_slot, Twin, At, Cycle, Sound}
use Rattle.semispace.proofs.Spreads.{placed_same, mem_left, mem_right, size_two}
use Rattle.semispace.proofs.ReserveAgree.{new_leads, old_leads_not}
use Rattle.semispace.proofs.Putting.{all, put_same, put_other, put_tag, put_size, places_put, olds_put, news_put, laid_put}

-- Field i of the place at a is written, and the collector moves on to c.
module _ (s : State) (S : Sound s) (going : resting s.collector ≡ false) (a i w : ℕ) (c : Collector)
    (k : mem a (the_places s) ≡ true) (p : 2 + i < size_of s a)
    (right : refers s.book (kind_at s a) i ≡ true → good (the_news s) w ≡ true)
    (at_c : At s c) (going_c : resting c ≡ false)
    (opened_c : (x : ℕ) → mem x (the_places s) ≡ true → opened_at s.halves c x ≡ opened_at s.halves s.collector x)
    (own_c : (x n : ℕ) → mem x (the_news s) ≡ true → 2 + n < size_of s x → own s.halves c x n ≡ true → (own s.halves s.collector x n ≡ true) ⊎ ((x ≡ a) × (n ≡ i)))
    (slots_c : (n : ℕ) → passed_slot c n ≡ true → passed_slot s.collector n ≡ true)
  where
    a_all : mem a (all s) ≡ true
    a_all = mem_left a (the_news s) (the_olds s) (mem_left a (the_places s) (mades s.book s.memory s.halves) k)

    no_tag : 2 + i ≢ 1
    no_tag = omega arith

    abbrev after : State
    after = set_collector (put_at s (a + (2 + i)) w) c

    olds_f : the_olds after ≡ the_olds s
    olds_f = olds_put s S.laid a (2 + i) w a_all p no_tag

    news_f : the_news after ≡ the_news s
    news_f = news_put s S.laid a (2 + i) w a_all p no_tag

    places_f : the_places after ≡ the_places s
    places_f = places_put s S.laid a (2 + i) w a_all p no_tag

    size_f : (x : ℕ) → mem x (all s) ≡ true → size_of after x ≡ size_of s x
    size_f x m = put_size s S.laid a (2 + i) w a_all p no_tag x m

    tag_f : (x : ℕ) → mem x (all s) ≡ true → word_at after (x + 1) ≡ word_at s (x + 1)
    tag_f x m = put_tag s S.laid a (2 + i) w a_all p no_tag x m

    word_f : (x n : ℕ) → mem x (all s) ≡ true → n < size_of s x → ((x ≡ a) × (n ≡ 2 + i) → ⊥) → word_at after (x + n) ≡ word_at s (x + n)
    word_f x n m q ne = put_other s S.laid a (2 + i) w a_all p no_tag x n m q ne

    head_f : (x : ℕ) → mem x (all s) ≡ true → word_at after x ≡ word_at s x
    head_f x m = let v = word_f x 0 m (omega (arith, size_two s.book s.memory x)) (λ d. omega (arith, d.1)) in let e : x + 0 ≡ x = omega arith in rw e at v

    of_olds : (x : ℕ) → mem x (the_olds s) ≡ true → mem x (all s) ≡ true
    of_olds x m = mem_right x (the_news s) (the_olds s) m

    of_news : (x : ℕ) → mem x (the_news s) ≡ true → mem x (all s) ≡ true
    of_news x m = mem_left x (the_news s) (the_olds s) m

    of_places : (x : ℕ) → mem x (the_places s) ≡ true → mem x (all s) ≡ true
    of_places x m = of_news x (mem_left x (the_places s) (mades s.book s.memory s.halves) m)

    at_f : (d : Collector) → At s d → At (put_at s (a + (2 + i)) w) d
    at_f Rest h = h
    at_f (Slots n) h = h
    at_f (Scan at) h = rw places_f h
    at_f (Field c) h = (rw places_f h.0, rw olds_f h.1, ap (λ v. v / 16) (tag_f c.from (of_olds c.from h.1)) ∙ h.2, rw (size_f c.at (of_places c.at h.0)) h.3)

    twin_f : (x q : ℕ) → mem x (the_olds s) ≡ true → Twin s x q → Twin after x q
    twin_f x q m t = record {
      inside = rw places_f t.inside;
      kind = ap (λ v. v % 16) (tag_f q (of_places q t.inside)) ∙ (t.kind ∙ sym (ap (λ v. v % 16) (tag_f x (of_olds x m))));
      back = λ u. head_f q (of_places q t.inside) ∙ t.back (sym (opened_c q t.inside) ∙ u);
      head = λ u. head_f q (of_places q t.inside) ∙ (t.head (sym (opened_c q t.inside) ∙ u) ∙ sym (head_f x (of_olds x m)));
    }

    old_is_not : (x : ℕ) → mem x (the_olds s) ≡ true → x ≢ a
    old_is_not x m e = false≢true (sym (old_leads_not s S.laid x m) ∙ (ap (λ y. leads_new s.halves (y + 1)) e ∙ new_leads s S.laid a (mem_left a (the_places s) (mades s.book s.memory s.halves) k)))

    hit : (x n : ℕ) → (x ≡ a) × (n ≡ i) → refers s.book (kind_at s x) n ≡ true → good (the_news after) (word_at after (x + 2 + n)) ≡ true
    hit x n d r =
        let e : x + 2 + n ≡ a + (2 + i) = omega (arith, d.0, d.1) in
        let v = put_same s S.laid a (2 + i) w a_all p no_tag in
        let r2 : refers s.book (kind_at s a) i ≡ true = rw (d.0, d.1) at r in
        rw (e, v, news_f) (right r2)

    miss : (x n : ℕ) → mem x (the_news s) ≡ true → 2 + n < size_of s x → ((x ≡ a) × (2 + n ≡ 2 + i) → ⊥) → own s.halves s.collector x n ≡ true → refers s.book (kind_at s x) n ≡ true → good (the_news after) (word_at after (x + 2 + n)) ≡ true
    miss x n m q ne o r =
        let e : word_at after (x + 2 + n) ≡ word_at s (x + 2 + n) = rw (add_assoc x 2 n) (word_f x (2 + n) (of_news x m) q ne) in
        rw (e, news_f) (S.news_refer x n m q o r)

    cycle_f : Cycle after
    cycle_f = record {
      sum = rw olds_f (placed_same s.book s.memory after.memory (the_olds s) (λ x m. size_f x (of_olds x m)) (λ x m. tag_f x (of_olds x m)) ∙ (S.cycle going).sum);
      room = (S.cycle going).room;
      twin = λ x m0 ne.
          let m : mem x (the_olds s) ≡ true = rw olds_f at m0 in
          let e : place_of after x ≡ place_of s x = ap (λ v. v / 16) (tag_f x (of_olds x m)) in
          let P : ℕ → Type 0 = λ q. Twin after x (q - 1) in
          subst P (sym e) (twin_f x (place_of s x - 1) m ((S.cycle going).twin x m (λ z. ne (e ∙ z))));
      back = λ q m0 u.
          let m : mem q (the_places s) ≡ true = rw places_f at m0 in
          let b = (S.cycle going).back q m (sym (opened_c q m) ∙ u) in
          let e = head_f q (of_places q m) in
          rw (e, olds_f) (b.0, b.1, ap (λ v. v / 16) (tag_f (word_at s q - 1) (of_olds (word_at s q - 1) b.1)) ∙ b.2);
      olds_refer = λ x n m0 q0 r0.
          let m : mem x (the_olds s) ≡ true = rw olds_f at m0 in
          let q : 2 + n < size_of s x = rw (size_f x (of_olds x m)) at q0 in
          let r : refers s.book (kind_at s x) n ≡ true = rw (tag_f x (of_olds x m)) at r0 in
          let ne : (x ≡ a) × (2 + n ≡ 2 + i) → ⊥ = λ d. old_is_not x m d.0 in
          let e : word_at after (x + 2 + n) ≡ word_at s (x + 2 + n) = rw (add_assoc x 2 n) (word_f x (2 + n) (of_olds x m) q ne) in
          rw (e, olds_f, news_f) ((S.cycle going).olds_refer x n m q r);
      slots_refer = λ n q. rw (olds_f, news_f) ((S.cycle going).slots_refer n q);
    }

    pub field_sound : Sound after
    field_sound = record {
      bounds = omega (arith, S.bounds, length-set s.memory (a + (2 + i)) w);
      laid = laid_put s S.laid a (2 + i) w a_all p no_tag;
      enough = S.enough;
      at = at_f c at_c;
      rest = λ r. absurd (false≢true (sym going_c ∙ r));
      cycle = λ r. cycle_f;
      news_refer = λ x n m0 q0 o r0.
          let m : mem x (the_news s) ≡ true = rw news_f at m0 in
          let q : 2 + n < size_of s x = rw (size_f x (of_news x m)) at q0 in
          let r : refers s.book (kind_at s x) n ≡ true = rw (tag_f x (of_news x m)) at r0 in
          elim (own_c x n m q o) [
            | inl u ↦
                elim (cases_eq x a) [
                  | inl e ↦ elim (cases_eq n i) [ inl f ↦ hit x n (e, f) r | inr f ↦ miss x n m q (λ d. f (omega (arith, d.1))) u r ]
                  | inr e ↦ miss x n m q (λ d. e d.0) u r
                ]
            | inr d ↦ hit x n d r
          ];
      slots_passed = λ n q u. rw news_f (S.slots_passed n q (slots_c n u));
      plain = λ x m0. let m : mem x (the_news s) ≡ true = rw news_f at m0 in ap (λ v. v / 16) (tag_f x (of_news x m)) ∙ S.plain x m;
    }
