-- Numbers, kinds and sources stay known from step to step.
use Rattle.std.proofs.Common.{rules, ◌≡◌, ℕ, ◌+◌, ◌-◌, true, false, ltb, ◌⊎◌, sym, refl, ◌∙◌, subst, inl, inr, arith}
use Rattle.std.proofs.lemmas.Bool.{or_left, or_right, le-leb, lt-ltb, ltb-false, true≢false, false≢true}
use Rattle.semispace.specs.declared.collector.Collector.{Collector}
use Rattle.semispace.specs.declared.collector.Collector.TheVariants.{Rest, Slots, Scan, Field}
use Rattle.semispace.specs.Layout.{mem}
use Rattle.semispace.specs.Words.{State, set_halves, passed, opened, made, fitting, fitting_field, stepped, swapped, finished, set_collector, own, resting, kind_at, place_of, word_at, next_place}
use Rattle.semispace.specs.Sound.{the_olds, the_news, the_places, opened_at, Twin, Sound}
use Rattle.semispace.specs.declared.collector.Transition.{Transition}
use Rattle.semispace.specs.declared.collector.Transition.TheVariants.{Open, Done}
use Rattle.semispace.specs.Dues.{objects}
use Rattle.semispace.specs.Graphs.{Known}
use Rattle.semispace.proofs.Spreads.{by_bool, mem_append, mem_left, mem_right, size_two}
use Rattle.semispace.proofs.Reserving.{places_inside, mades_inside}
use Rattle.semispace.proofs.ReserveAgree.{new_leads, old_leads_not}
use Rattle.semispace.proofs.Like.{the_mades, objs, Like, objs_all}
use Rattle.semispace.proofs.Likes.{like_objs}
use Rattle.semispace.proofs.FieldLike.{Apart, opened_made}
use Rattle.semispace.proofs.StepLike.{passed_like, opened_like, field_step_like}
use Rattle.semispace.proofs.Ends.{olds_start, mades_start, places_start}
use Rattle.semispace.proofs.Sourcing.{source_of, has_from}

pub objects_cycle : (s : State) → resting s.collector ≡ false → objects s ≡ objs s
unfolding objects
objects_cycle s e = rw e

pub objects_rest : (s : State) → resting s.collector ≡ true → objects s ≡ the_news s
unfolding objects
objects_rest s e = rw e

pub known_apart : (s : State) → Known s → resting s.collector ≡ false → Apart s
known_apart s K g a b ka kb e = K.apart a b (rw (objects_cycle s g) ka) (rw (objects_cycle s g) kb) e

pub known_like : (s t : State) → resting s.collector ≡ false → Known s → Like s t → Known t
known_like s t g K L = search (rules, arith, objs, objects_cycle, like_objs, objs_all, has_from, source_of)

-- Start.
module _ (s : State) (S : Sound s) (K : Known s) (is : s.collector ≡ Rest) (c : Collector) (going_c : resting c ≡ false) where
  abbrev begun : State
  begun = set_collector (set_halves s (swapped s.halves)) c

  pub begun_objects : (a : ℕ) → mem a (objects begun) ≡ true → mem a (the_news s) ≡ true
  begun_objects a k = grind (arith, objs, objects_cycle, mem_append, the_mades, olds_start, mades_start)

  pub known_begun : Known begun
  known_begun = search (rules, arith, objects_rest, begun_objects, places_start)

-- Done.
pub record Standing (s : State) (x o : ℕ) : Type 0 where
  pub object : mem o (objs s) ≡ true
  pub head : word_at s x ≡ word_at s o
  pub kind : kind_at s x ≡ kind_at s o
  pub way : ((x ≡ o) × (mem o (the_mades s) ≡ true)) ⊎ ((mem x (the_places s) ≡ true) × (mem o (the_olds s) ≡ true) × (place_of s o ≡ x + 1))

module _ (s : State) (S : Sound s) (K : Known s) (at : ℕ) (is : s.collector ≡ Scan at) (over : ltb at (next_place s) ≡ false) where
  going : resting s.collector ≡ false
  going = rw is

  pub all_opened : (x : ℕ) → mem x (the_news s) ≡ true → opened_at s.halves s.collector x ≡ true
  all_opened x m = search (rules, arith, mem_append, the_mades, or_right, or_left, lt-ltb, places_inside, size_two, ltb-false, opened_made)

  pub all_own : (x n : ℕ) → mem x (the_news s) ≡ true → own s.halves s.collector x n ≡ true
  all_own x n m = search (rules, arith, mem_append, the_mades, or_right, or_left, lt-ltb, places_inside, size_two, ltb-false, le-leb, mades_inside)

  pub stands : (x : ℕ) → mem x (the_news s) ≡ true → (o : ℕ) × Standing s x o
  stands x m =
      elim (mem_append x (the_places s) (the_mades s) m) [
        | inl e ↦
            let q = source_of s x (K.sourced going x e) in
            let o = q.from in
            let P : ℕ → Type 0 = λ y. Twin s o y in
            let qp = q.place in
            let v : place_of s o - 1 ≡ x = omega arith in
            let tw : Twin s o x = subst P v ((S.cycle going).twin o q.old (λ z. omega arith)) in
            (o, record { object = mem_left o (the_olds s) (the_mades s) q.old; head = tw.head (all_opened x m); kind = tw.kind; way = inr (e, q.old, q.place) })
        | inr e ↦ (x, record { object = mem_right x (the_olds s) (the_mades s) e; head = refl; kind = refl; way = inl (refl, e) })
      ]

  pub old_not_made : (o : ℕ) → mem o (the_olds s) ≡ true → mem o (the_mades s) ≡ true → ⊥
  old_not_made o a b = false≢true (sym (old_leads_not s S.laid o a) ∙ new_leads s S.laid o (mem_right o (the_places s) (the_mades s) b))

  pub one_standing : (x y o : ℕ) → Standing s x o → Standing s y o → x ≡ y
  one_standing x y o a b =
      elim a.way [
        | inl p ↦ elim b.way [ inl q ↦ p.0 ∙ sym q.0 | inr q ↦ absurd (old_not_made o q.1 p.1) ]
        | inr p ↦ elim b.way [ inl q ↦ absurd (old_not_made o p.1 q.1) | inr q ↦ let u = p.2 in let v = q.2 in omega arith ]
      ]

  pub known_done : Known (finished s)
  known_done =
      let into : (a : ℕ) → mem a (objects (finished s)) ≡ true → mem a (the_news s) ≡ true = λ a k. rw (objects_rest (finished s) refl) at k in
      let objects_of : (o : ℕ) → mem o (objs s) ≡ true → mem o (objects s) ≡ true = λ o k. rw (objects_cycle s going) k in
      record {
        first = K.first;
        apart = λ a b ka kb e.
            let p = stands a (into a ka) in
            let q = stands b (into b kb) in
            let same : p.0 ≡ q.0 = K.apart p.0 q.0 (objects_of p.0 p.1.object) (objects_of q.0 q.1.object) (sym p.1.head ∙ (e ∙ q.1.head)) in
            let P : ℕ → Type 0 = λ o. Standing s a o in
            one_standing a b q.0 (subst P same p.1) q.1;
        given = λ a k. let p = stands a (into a k) in rw p.1.head (K.given p.0 (objects_of p.0 p.1.object));
        kinds = λ a k. let p = stands a (into a k) in rw p.1.kind (K.kinds p.0 (objects_of p.0 p.1.object));
        sourced = λ r. absurd (true≢false r);
      }

-- Every step keeps it.
module _ (s : State) (S : Sound s) (K : Known s) where
  known_at : (c : Collector) → s.collector ≡ c → Known (made s (fitting s c))
  known_at Rest is = search (rules, arith, known_begun)
  known_at (Slots n) is = known_like s (passed s n) (rw is) K (passed_like s S n is)
  known_at (Scan at) is =
      let T : Transition → Type 0 = λ t. Known (made s t) in
      by_bool (ltb at (next_place s))
      (λ e. let q : fitting s (Scan at) ≡ Open at = rw e in subst T (sym q) (known_like s (opened s at) (rw is) K (opened_like s S at is e)))
      (λ e. let q : fitting s (Scan at) ≡ Done = rw e in subst T (sym q) (known_done s S K at is e))
  known_at (Field c) is = known_like s (made s (fitting_field s c)) (rw is) K (field_step_like s S (known_apart s K (rw is)) c.at c.from c.field is)

  pub step_known : Known (stepped s)
  step_known = known_at s.collector refl
