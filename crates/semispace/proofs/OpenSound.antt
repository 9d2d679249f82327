-- Opening a place keeps the invariant.
use Rattle.std.proofs.Common.{rules, ◌≡◌, ℕ, ◌+◌, ◌-◌, ◌/◌, ◌%◌, ◌<◌, ◌≤◌, true, false, ltb, ◌≢◌, ◌⊎◌, sym, ap, ◌∙◌, subst, inl, inr, add_assoc, arith}
use Rattle.std.proofs.lemmas.List.{length-set}
use Rattle.std.proofs.lemmas.Bool.{or_from, and_right, ltb-true, lt-leb, le-ltb, cases_eq, cases_order, false≢true}
use Rattle.semispace.specs.declared.collector.Collector.{Collector}
use Rattle.semispace.specs.declared.collector.Collector.TheVariants.{Rest, Slots, Scan, Field}
use Rattle.semispace.specs.Layout.{mem, mades}
use Rattle.semispace.specs.Words.{leads_new, State, put_at, set_collector, own, resting, refers, kind_at, place_of, word_at, next_place}
use Rattle.semispace.specs.Sound.{the_olds, the_news, the_places, size_of, opened_at, Twin, At, Sound}
use Rattle.semispace.proofs.Spreads.{spread_apart, spread_starts, placed_same, mem_cases, mem_append, mem_left, mem_right, size_two}
use Rattle.semispace.proofs.ReserveAgree.{new_leads, old_leads_not}
use Rattle.semispace.proofs.Putting.{all, put_same, put_other, put_tag, put_size, places_put, olds_put, news_put, laid_put}

module _ (s : State) (S : Sound s) (at : ℕ) (is : s.collector ≡ Scan at) (more : ltb at (next_place s) ≡ true) where
  going : resting s.collector ≡ false
  going = rw is

  pub at_in : mem at (the_places s) ≡ true
  at_in = search (rules, arith, mem_append, mem_cases, ltb-true)

  in_all : mem at (all s) ≡ true
  in_all = mem_left at (the_news s) (the_olds s) (mem_left at (the_places s) (mades s.book s.memory s.halves) at_in)

  shut : opened_at s.halves s.collector at ≡ false
  shut = grind (arith, ltb-true, or_from, lt-leb, le-ltb, and_right)

  pub from_old : (0 < word_at s at) × (mem (word_at s at - 1) (the_olds s) ≡ true) × (place_of s (word_at s at - 1) ≡ at + 1)
  from_old = (S.cycle going).back at at_in shut

  pub past : (x : ℕ) → mem x (the_places s) ≡ true → (x ≤ at) ⊎ (at + size_of s at ≤ x)
  past x m =
      elim (cases_order x at) [
        | inl e ↦ inl (omega arith)
        | inr e ↦ elim e [
          | inl d ↦ inl (omega arith)
          | inr d ↦ inr (spread_apart s.book s.memory _ _ at x (the_places s) (spread_starts s.book s.memory (s.halves.size + 1) _ _ S.laid.places_fill) at_in m d)
        ]
      ]

  -- The place at the front is opened, and the collector moves on to c.
  module _ (c : Collector) (at_c : At s c) (going_c : resting c ≡ false)
      (opened_c : (x : ℕ) → mem x (the_places s) ≡ true → x ≢ at → opened_at s.halves c x ≡ opened_at s.halves s.collector x)
      (opened_here : opened_at s.halves c at ≡ true)
      (own_c : (x k : ℕ) → mem x (the_news s) ≡ true → 2 + k < size_of s x → own s.halves c x k ≡ true → own s.halves s.collector x k ≡ true)
    where
      abbrev num : ℕ
      num = word_at s (word_at s at - 1)

      p0 : 0 < size_of s at
      p0 = omega (arith, size_two s.book s.memory at)

      no_tag : ◌≢◌ {A = ℕ} 0 1
      no_tag = omega arith

      abbrev after : State
      after = set_collector (put_at s (at + 0) num) c

      olds_o : the_olds after ≡ the_olds s
      olds_o = olds_put s S.laid at 0 num in_all p0 no_tag

      news_o : the_news after ≡ the_news s
      news_o = news_put s S.laid at 0 num in_all p0 no_tag

      places_o : the_places after ≡ the_places s
      places_o = places_put s S.laid at 0 num in_all p0 no_tag

      size_o : (x : ℕ) → mem x (all s) ≡ true → size_of after x ≡ size_of s x
      size_o x m = put_size s S.laid at 0 num in_all p0 no_tag x m

      tags_o : (x : ℕ) → mem x (all s) ≡ true → word_at after (x + 1) ≡ word_at s (x + 1)
      tags_o x m = put_tag s S.laid at 0 num in_all p0 no_tag x m

      word_o : (x n : ℕ) → mem x (all s) ≡ true → 2 + n < size_of s x → word_at after (x + 2 + n) ≡ word_at s (x + 2 + n)
      word_o x n m q = rw (add_assoc x 2 n) (put_other s S.laid at 0 num in_all p0 no_tag x (2 + n) m q (λ d. omega (arith, d.1)))

      head_o : (x : ℕ) → mem x (all s) ≡ true → x ≢ at → word_at after x ≡ word_at s x
      head_o x m ne = search (rules, arith, put_other, in_all, p0, no_tag, size_two)

      head_here : word_at after at ≡ num
      head_here = let v = put_same s S.laid at 0 num in_all p0 no_tag in let e : at + 0 ≡ at = omega arith in let P : ℕ → Type 0 = λ y. word_at after y ≡ num in subst P e v

      of_olds : (x : ℕ) → mem x (the_olds s) ≡ true → mem x (all s) ≡ true
      of_olds x m = mem_right x (the_news s) (the_olds s) m

      of_news : (x : ℕ) → mem x (the_news s) ≡ true → mem x (all s) ≡ true
      of_news x m = mem_left x (the_news s) (the_olds s) m

      of_places : (x : ℕ) → mem x (the_places s) ≡ true → mem x (all s) ≡ true
      of_places x m = of_news x (mem_left x (the_places s) (mades s.book s.memory s.halves) m)

      old_is_not : (x : ℕ) → mem x (the_olds s) ≡ true → x ≢ at
      old_is_not x m e = false≢true (sym (old_leads_not s S.laid x m) ∙ (ap (λ y. leads_new s.halves (y + 1)) e ∙ new_leads s S.laid at (mem_left at (the_places s) (mades s.book s.memory s.halves) at_in)))

      at_o : (d : Collector) → At s d → At after d
      at_o Rest h = h
      at_o (Slots n) h = h
      at_o (Scan x) h = rw places_o h
      at_o (Field c) h = (rw places_o h.0, rw olds_o h.1, ap (λ v. v / 16) (tags_o c.from (of_olds c.from h.1)) ∙ h.2, rw (size_o c.at (of_places c.at h.0)) h.3)

      twin_o : (x q : ℕ) → mem x (the_olds s) ≡ true → Twin s x q → Twin after x q
      twin_o x q m t = record {
        inside = rw places_o t.inside;
        kind = ap (λ v. v % 16) (tags_o q (of_places q t.inside)) ∙ (t.kind ∙ sym (ap (λ v. v % 16) (tags_o x (of_olds x m))));
        back = λ u. elim (cases_eq q at) [
          | inl e ↦ absurd (false≢true (sym (rw e at u) ∙ opened_here))
          | inr e ↦ head_o q (of_places q t.inside) e ∙ t.back (sym (opened_c q t.inside e) ∙ u)
        ];
        head = λ u. elim (cases_eq q at) [
          | inl e ↦
              let b : word_at s q ≡ x + 1 = t.back (rw e shut) in
              let f0 : word_at s q - 1 ≡ x = omega arith in
              let f : word_at s at - 1 ≡ x = rw e at f0 in
              rw e (head_here ∙ (ap (word_at s) f ∙ sym (head_o x (of_olds x m) (old_is_not x m))))
          | inr e ↦ head_o q (of_places q t.inside) e ∙ (t.head (sym (opened_c q t.inside e) ∙ u) ∙ sym (head_o x (of_olds x m) (old_is_not x m)))
        ];
      }

      pub open_sound : Sound after
      open_sound = record {
        bounds = omega (arith, S.bounds, length-set s.memory (at + 0) num);
        laid = laid_put s S.laid at 0 num in_all p0 no_tag;
        enough = S.enough;
        at = at_o c at_c;
        rest = λ r. absurd (false≢true (sym going_c ∙ r));
        cycle = λ r. record {
          sum = rw olds_o (placed_same s.book s.memory after.memory (the_olds s) (λ x m. size_o x (of_olds x m)) (λ x m. tags_o x (of_olds x m)) ∙ (S.cycle going).sum);
          room = (S.cycle going).room;
          twin = λ x m0 ne.
              let m : mem x (the_olds s) ≡ true = rw olds_o at m0 in
              let e : place_of after x ≡ place_of s x = ap (λ v. v / 16) (tags_o x (of_olds x m)) in
              let P : ℕ → Type 0 = λ q. Twin after x (q - 1) in
              subst P (sym e) (twin_o x (place_of s x - 1) m ((S.cycle going).twin x m (λ z. ne (e ∙ z))));
          back = λ q m0 u.
              let m : mem q (the_places s) ≡ true = rw places_o at m0 in
              let ne : q ≢ at = λ e. false≢true (sym (rw e at u) ∙ opened_here) in
              let b = (S.cycle going).back q m (sym (opened_c q m ne) ∙ u) in
              let e = head_o q (of_places q m) ne in
              rw (e, olds_o) (b.0, b.1, ap (λ v. v / 16) (tags_o (word_at s q - 1) (of_olds (word_at s q - 1) b.1)) ∙ b.2);
          olds_refer = λ x n m0 q0 r0.
              let m : mem x (the_olds s) ≡ true = rw olds_o at m0 in
              let q : 2 + n < size_of s x = rw (size_o x (of_olds x m)) at q0 in
              let r : refers s.book (kind_at s x) n ≡ true = rw (tags_o x (of_olds x m)) at r0 in
              rw (word_o x n (of_olds x m) q, olds_o, news_o) ((S.cycle going).olds_refer x n m q r);
          slots_refer = λ n q. rw (olds_o, news_o) ((S.cycle going).slots_refer n q);
        };
        news_refer = λ x n m0 q0 o r0.
            let m : mem x (the_news s) ≡ true = rw news_o at m0 in
            let q : 2 + n < size_of s x = rw (size_o x (of_news x m)) at q0 in
            let r : refers s.book (kind_at s x) n ≡ true = rw (tags_o x (of_news x m)) at r0 in
            rw (word_o x n (of_news x m) q, news_o) (S.news_refer x n m q (own_c x n m q o) r);
        slots_passed = λ n q u. rw news_o (S.slots_passed n q (rw is));
        plain = λ x m0. let m : mem x (the_news s) ≡ true = rw news_o at m0 in ap (λ v. v / 16) (tags_o x (of_news x m)) ∙ S.plain x m;
      }
