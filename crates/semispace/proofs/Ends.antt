-- Start and Done keep the invariant.
use Rattle.std.proofs.Common.{rules, ◌≡◌, ℕ, ◌+◌, ◌-◌, ◌<◌, ◌≤◌, true, false, ltb, [], ◌++◌, sym, refl, ◌∙◌, subst, ap₂, inl, inr, arith}
use Rattle.std.proofs.lemmas.Bool.{or_left, or_right, ltb-true, le-leb, lt-ltb, le-ltb, ltb-false, eq-eqb, true≢false, false≢true}
use Rattle.semispace.specs.declared.collector.Collector.{Collector}
use Rattle.semispace.specs.declared.collector.Collector.TheVariants.{Rest, Slots, Scan, Field}
use Rattle.semispace.specs.Layout.{mem, lows, highs, places, mades, olds, news, Laid}
use Rattle.semispace.specs.Words.{State, set_halves, swapped, started, finished, slots_from, set_collector, own, resting, next_place}
use Rattle.semispace.specs.Sound.{the_news, the_places, passed_slot, At, Sound}
use Rattle.semispace.proofs.Spreads.{by_bool, starts_none, placed_none, mem_first, mem_append, size_two}
use Rattle.semispace.proofs.Reserving.{places_inside, mades_inside, side_cases}

-- Done: no place is left to open.
module _ (s : State) (S : Sound s) (at : ℕ) (is : s.collector ≡ Scan at) (over : ltb at (next_place s) ≡ false) where
  pub done_sound : Sound (finished s)
  done_sound = record {
    bounds = omega (arith, S.bounds);
    laid = S.laid;
    enough = S.enough;
    at = tt;
    rest = λ r. omega (arith, S.laid.ends);
    cycle = λ r. absurd (true≢false r);
    news_refer = λ x n m q o r. S.news_refer x n m q (rw is (owned x n m)) r;
    slots_passed = λ n q u. S.slots_passed n q (rw is);
    plain = S.plain;
  }
    where
      owned : (x n : ℕ) → mem x (the_news s) ≡ true → own s.halves (Scan at) x n ≡ true
      owned x n m = search (rules, arith, mem_append, or_right, or_left, lt-ltb, places_inside, size_two, ltb-false, le-leb, mades_inside)

-- Start: the halves change roles.
module _ (s : State) (S : Sound s) (is : s.collector ≡ Rest) where
  base_fits : s.halves.base ≤ s.halves.size
  base_fits = elim (side_cases _ _ _ S.laid) [ inl e ↦ omega arith | inr e ↦ omega arith ]

  turned : s.halves.size - (s.halves.size - s.halves.base) ≡ s.halves.base
  turned = omega (arith, base_fits)

  pub lows_start : lows s.book s.memory (swapped s.halves) ≡ the_places s
  lows_start = rw turned

  pub highs_start : highs s.book s.memory (swapped s.halves) ≡ mades s.book s.memory s.halves
  highs_start = rw turned

  pub places_start : places s.book s.memory (swapped s.halves) ≡ []
  places_start = starts_none s.book s.memory _ _ _ (omega arith)

  pub mades_start : mades s.book s.memory (swapped s.halves) ≡ []
  mades_start = starts_none s.book s.memory _ _ _ (omega arith)

  pub olds_start : olds s.book s.memory (swapped s.halves) ≡ the_news s
  olds_start = ap₂ (λ xs ys. xs ++ ys) lows_start highs_start

  pub news_start : news s.book s.memory (swapped s.halves) ≡ []
  news_start = ap₂ (λ xs ys. xs ++ ys) places_start mades_start

  pub laid_start : Laid s.book s.memory (swapped s.halves)
  laid_start = search (rules, arith, side_cases, or_right, eq-eqb, or_left, turned, places_start, mades_start)

  own_rest : (x n : ℕ) → mem x (the_news s) ≡ true → own s.halves Rest x n ≡ true
  own_rest x n m = grind (arith, mem_append, or_right, or_left, lt-ltb, places_inside, size_two, le-leb, mades_inside)

  turned_sound : (c : Collector) → At (set_halves s (swapped s.halves)) c → ((n : ℕ) → n < s.count → passed_slot c n ≡ false) → resting c ≡ false → Sound (set_collector (set_halves s (swapped s.halves)) c)
  turned_sound c a ps going = record {
    bounds = omega (arith, S.bounds);
    laid = laid_start;
    enough = S.enough;
    at = a_after c a;
    rest = λ r. absurd (false≢true (sym going ∙ r));
    cycle = λ r. record {
      sum = rw olds_start (placed_none s.book s.memory (the_news s) S.plain);
      room = let r = S.rest (rw is) in omega (arith, S.laid.top, S.laid.ends);
      twin = λ o m0 ne. let m : mem o (the_news s) ≡ true = rw olds_start at m0 in absurd (ne (S.plain o m));
      back = λ p m0 u. let m : mem p [] ≡ true = rw places_start at m0 in absurd (false≢true m);
      olds_refer = λ o i m0 q r0.
          let m : mem o (the_news s) ≡ true = rw olds_start at m0 in
          rw (news_start, olds_start) (S.news_refer o i m q (rw is (own_rest o i m)) r0);
      slots_refer = λ n q. rw (news_start, olds_start) (S.slots_passed n q (rw is));
    };
    news_refer = λ x n m0 q o r0. let m : mem x [] ≡ true = rw news_start at m0 in absurd (false≢true m);
    slots_passed = λ n q u. absurd (false≢true (sym (ps n q) ∙ u));
    plain = λ x m0. let m : mem x [] ≡ true = rw news_start at m0 in absurd (false≢true m);
  }
    where
      a_after : (d : Collector) → At (set_halves s (swapped s.halves)) d → At (set_collector (set_halves s (swapped s.halves)) c) d
      a_after Rest h = h
      a_after (Slots n) h = h
      a_after (Scan at) h = h
      a_after (Field c) h = h

  pub start_sound : Sound (started s)
  start_sound =
      let P : Collector → Type 0 = λ c. Sound (set_collector (set_halves s (swapped s.halves)) c) in
      by_bool (ltb 0 s.count)
      (λ e. let q : slots_from (set_halves s (swapped s.halves)) 0 ≡ Slots 0 = rw e in
      subst P (sym q) (turned_sound (Slots 0) (ltb-true 0 s.count e) (λ n l. le-ltb n 0 (omega arith)) refl))
      (λ e. let q : slots_from (set_halves s (swapped s.halves)) 0 ≡ Scan (s.halves.size - s.halves.base) = rw e in
      subst P (sym q) (turned_sound (Scan (s.halves.size - s.halves.base))
      (rw places_start (mem_first (s.halves.size - s.halves.base) (s.halves.size - s.halves.base + 0) [] (omega arith)))
      (λ n l. absurd (omega (arith, ltb-false 0 s.count e))) refl))
