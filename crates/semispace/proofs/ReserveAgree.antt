-- Which half an address leads into.
use Rattle.std.proofs.Common.{rules, ◌≡◌, ℕ, ◌+◌, ◌-◌, ◌/◌, true, false, cond, eqb, ap, ◌∙◌, inl, inr, arith}
use Rattle.std.proofs.lemmas.Bool.{and_left, and_right, lt-leb, le-leb, lt-ltb, and_from, or_parts, le-ltb, ne_eqb, cases_eq}
use Rattle.semispace.specs.declared.collector.Collector.{Collector}
use Rattle.semispace.specs.declared.collector.Collector.TheVariants.{Rest, Slots, Scan, Field}
use Rattle.semispace.specs.Layout.{mem, Laid}
use Rattle.semispace.specs.Words.{leads_new, home, home_old, source, State, own, resting, place_of, word_at, next_place}
use Rattle.semispace.specs.Sound.{the_olds, the_news, the_places, opened_at, Sound, number}
use Rattle.semispace.proofs.Spreads.{by_bool, mem_append, size_two}
use Rattle.semispace.proofs.Reserving.{places_inside, mades_inside, olds_inside, side_cases}
use Rattle.semispace.proofs.ReserveSound.{noted_state, room_for, unopened, not_own, head_news, head_olds, tag_olds, place_o, back_place}

module _ (s : State) (l : Laid s.book s.memory s.halves) where
  pub new_leads : (x : ℕ) → mem x (the_news s) ≡ true → leads_new s.halves (x + 1) ≡ true
  new_leads x k = grind (arith, size_two, mem_append, places_inside, and_from, lt-ltb, le-leb, mades_inside)

  pub old_leads_not : (x : ℕ) → mem x (the_olds s) ≡ true → leads_new s.halves (x + 1) ≡ false
  old_leads_not x k = grind (arith, size_two, olds_inside, side_cases, and_right, lt-leb, and_left, le-ltb)

module _ (s : State) (S : Sound s) (going : resting s.collector ≡ false) (o : ℕ) (is_old : mem o (the_olds s) ≡ true) (none : place_of s o ≡ 0) where
  unopened_place : (x : ℕ) → mem x (the_news s) ≡ true → opened_at s.halves s.collector x ≡ false → mem x (the_places s) ≡ true
  unopened_place x k u = search (rules, arith, mem_append, or_parts, le-leb, mades_inside)

  pub number_news : (x : ℕ) → mem x (the_news s) ≡ true → number (noted_state s o) x ≡ number s x
  unfolding number
  number_news x k =
      by_bool (opened_at s.halves s.collector x)
      (λ e. rw (new_leads s S.laid x k, e) (head_news s S going o is_old none x k))
      (λ e.
      let b = (S.cycle going).back x (unopened_place x k e) e in
      rw (new_leads s S.laid x k, e) (ap (λ w. word_at (noted_state s o) (w - 1)) (head_news s S going o is_old none x k) ∙ head_olds s S going o is_old none (word_at s x - 1) b.1))

  pub number_olds : (x : ℕ) → mem x (the_olds s) ≡ true → number (noted_state s o) x ≡ number s x
  unfolding number
  number_olds x k = rw (old_leads_not s S.laid x k) (head_olds s S going o is_old none x k)

  pub place_leads : leads_new s.halves (next_place s + 1) ≡ true
  place_leads =
      let r = room_for s S going o is_old none in
      let t = size_two s.book s.memory o in
      and_from _ _ (lt-ltb s.halves.base (next_place s + 1) (omega arith)) (le-leb (next_place s + 1 - s.halves.base) s.halves.size (omega (arith, S.laid.top)))

  pub number_place : number (noted_state s o) (next_place s) ≡ number s o
  unfolding number
  number_place =
      let v : o + 1 - 1 ≡ o = omega arith in
      rw (place_leads, unopened s S going o is_old none, old_leads_not s S.laid o is_old)
      (ap (λ w. word_at (noted_state s o) (w - 1)) (back_place s S going o is_old none) ∙ (ap (word_at (noted_state s o)) v ∙ head_olds s S going o is_old none o is_old))

  pub home_olds : (x i : ℕ) → mem x (the_olds s) ≡ true → home (noted_state s o) x i ≡ home s x i
  home_olds x i k =
      elim (cases_eq x o) [
        | inl e ↦
            let q = place_o s S going o is_old none in
            let z : eqb (next_place s + 1) 0 ≡ false = ne_eqb (next_place s + 1) 0 (omega arith) in
            let v : next_place s + 1 - 1 ≡ next_place s = omega arith in
            rw e (rw (old_leads_not s S.laid o is_old, q, none, z, v, not_own s S going o is_old none i))
        | inr e ↦ rw (old_leads_not s S.laid x k) (ap (λ w. home_old s.halves s.collector (w / 16) x i) (tag_olds s S going o is_old none x k e))
      ]

  source_kept : (c : Collector) (x : ℕ) → mem x (the_news s) ≡ true → source (noted_state s o).memory c x ≡ source s.memory c x
  source_kept Rest x k = ap (λ w. w - 1) (head_news s S going o is_old none x k)
  source_kept (Slots n) x k = ap (λ w. w - 1) (head_news s S going o is_old none x k)
  source_kept (Scan at) x k = ap (λ w. w - 1) (head_news s S going o is_old none x k)
  source_kept (Field c) x k = ap (λ w. cond (eqb x c.at) c.from (w - 1)) (head_news s S going o is_old none x k)

  pub home_news : (x i : ℕ) → mem x (the_news s) ≡ true → home (noted_state s o) x i ≡ home s x i
  home_news x i k = rw (new_leads s S.laid x k) (ap (λ w. cond (own s.halves s.collector x i) x w) (source_kept s.collector x k))
