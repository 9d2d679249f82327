-- The invariant gives what the code of a step asks; there is always room for a place.
use Rattle.std.proofs.Common.{◌≡◌, ℕ, zero, suc, ◌+◌, ◌-◌, ◌<◌, true, false, ◌||◌, eqb, ltb, get_or, sym, refl, ap, ◌∙◌, subst, inl, inr, arith}
use mathlib.Core.HLevel.{×_prop, ×₃_prop, Π_prop, Unit-prop}
use native.Mathlib.Bridge.{le_prop}
use Rattle.graph.specs.Graph.{size}
use Rattle.semispace.specs.declared.collector.Collector.{Collector}
use Rattle.semispace.specs.declared.collector.Collector.TheVariants.{Rest, Slots, Scan, Field}
use Rattle.semispace.specs.Layout.{mades}
use Rattle.semispace.specs.Words.{cursor, both_halves, leads_new, State, target, placed_at, Bounds, Ready, Watched, Asked, Room, Forwardable, fitting, fitting_target, fitting_field, transition, resting, refers, kind_at, place_of, word_at, next_place}
use Rattle.semispace.specs.Sound.{the_olds, the_news, the_places, size_of, good, At, Sound}
use Rattle.semispace.specs.declared.collector.Target.{Target}
use Rattle.semispace.specs.declared.collector.Target.TheVariants.{Settled, Placed, Unplaced}
use Rattle.semispace.specs.declared.collector.Transition.{Transition}
use Rattle.semispace.specs.declared.collector.Transition.TheVariants.{Start, Slot, Open, Word, Keep, Forward, Reserve, Done}
use Rattle.semispace.proofs.Spreads.{by_bool, mem_left, mem_right, size_two}
use Rattle.semispace.proofs.ReserveSound.{room_for}
use Rattle.semispace.proofs.Putting.{all, all_inside}
use Rattle.semispace.proofs.SlotSound.{old, good_cases}
use Rattle.semispace.proofs.OpenSound.{from_old, at_in}
use Rattle.semispace.proofs.Stepping.{size_is}

unplaced_zero : (q : ℕ) → placed_at q ≡ Unplaced → q ≡ 0
unplaced_zero zero e = refl
unplaced_zero (suc q) e = absurd (let z : ◌≡◌ {A = ℕ} 0 1 = cc in omega arith)

module _ (s : State) (S : Sound s) (going : resting s.collector ≡ false) where
  reads : (r : ℕ) → good (all s) r ≡ true → 0 < r → r < both_halves s
  reads r g l =
      elim (good_cases (all s) r g) [
        | inl z ↦ absurd (omega arith)
        | inr z ↦ let v = all_inside s S.laid (r - 1) 1 z.1 (omega (arith, size_two s.book s.memory (r - 1))) in omega arith
      ]

  rooms : (r : ℕ) → good (all s) r ≡ true → target s r ≡ Unplaced → (0 < r) × Room s (r - 1)
  rooms r g e =
      by_bool (eqb r 0 || leads_new s.halves r)
      (λ d. let q : target s r ≡ Settled = rw d in absurd (let z : ◌≡◌ {A = ℕ} 0 1 = cc in omega arith))
      (λ d.
      let q : target s r ≡ placed_at (place_of s (r - 1)) = rw d in
      let none = unplaced_zero (place_of s (r - 1)) (sym q ∙ e) in
      let o = old s S going r g d in
      let room = room_for s S going (r - 1) o.1 none in
      let z = size_is s (r - 1) in
      let o0 = o.0 in
      let v = all_inside s S.laid (r - 1) 1 (mem_right (r - 1) (the_news s) (the_olds s) o.1) (omega (arith, size_two s.book s.memory (r - 1))) in
      (omega arith, (v, rw z at room)))

  pub forwardable : (r : ℕ) → good (all s) r ≡ true → Forwardable s r
  forwardable r g = (reads r g, λ e. (rooms r g e).1)

module _ (s : State) (S : Sound s) where
  module _ (at from i : ℕ) (is : s.collector ≡ Field (cursor at from i)) where
    going : resting s.collector ≡ false
    going = rw is

    here : At s (Field (cursor at from i))
    here = let P : Collector → Type 0 = λ c. At s c in subst P is S.at

    kinds : kind_at s at ≡ kind_at s from
    kinds =
        let v = here.2 in
        let tw = (S.cycle going).twin from here.1 (λ z. omega arith) in
        let pq : place_of s from - 1 ≡ at = omega arith in
        ap (kind_at s) (sym pq) ∙ tw.kind

    sizes : size_of s from ≡ size_of s at
    sizes = size_is s from ∙ (ap (λ k. 2 + size s.book k) (sym kinds) ∙ sym (size_is s at))

    from_reads : from + 2 + i < both_halves s
    from_reads = let l : 2 + i < size_of s from = rw sizes here.3 in let v = all_inside s S.laid from (2 + i) (mem_right from (the_news s) (the_olds s) here.1) l in omega arith

    at_reads : at + 2 + i < both_halves s
    at_reads = let v = all_inside s S.laid at (2 + i) (mem_left at (the_news s) (the_olds s) (mem_left at (the_places s) (mades s.book s.memory s.halves) here.0)) here.3 in omega arith

    field_good : refers s.book (kind_at s from) i ≡ true → good (all s) (word_at s (from + 2 + i)) ≡ true
    field_good e = (S.cycle going).olds_refer from i here.1 (rw sizes here.3) e

    field_asked : Asked s (fitting_field s (cursor at from i))
    field_asked =
        let A : Transition → Type 0 = λ t. Asked s t in
        by_bool (refers s.book (kind_at s from) i)
        (λ e.
        let q : fitting_field s (cursor at from i) ≡ fitting_target (cursor at from i) (target s (word_at s (from + 2 + i))) = rw e in
        subst A (sym q) (go (target s (word_at s (from + 2 + i))) (rooms s S going (word_at s (from + 2 + i)) (field_good e))))
        (λ e. let q : fitting_field s (cursor at from i) ≡ Word (cursor at from i) = rw e in subst A (sym q) (at_reads, from_reads))
      where
        go : (d : Target) → (d ≡ Unplaced → (0 < word_at s (from + 2 + i)) × Room s (word_at s (from + 2 + i) - 1)) → Asked s (fitting_target (cursor at from i) d)
        go Settled f = (at_reads, from_reads)
        go (Placed p) f = at_reads
        go Unplaced f = ((at_reads, from_reads), (f refl).0, (f refl).1)

  watched_at : (c : Collector) → s.collector ≡ c → Watched s c
  watched_at Rest is = tt
  watched_at (Slots n) is = tt
  watched_at (Scan at) is = tt
  watched_at (Field c) is = (from_reads c.at c.from c.field is, λ e. reads s S (rw is) (word_at s (c.from + 2 + c.field)) (field_good c.at c.from c.field is e))

  asked_at : (c : Collector) → s.collector ≡ c → Asked s (fitting s c)
  asked_at Rest is = tt
  asked_at (Slots n) is =
      let P : Collector → Type 0 = λ c. At s c in
      let l : n < s.count = subst P is S.at in
      (l, forwardable s S (rw is) (get_or s.slots n 0) ((S.cycle (rw is)).slots_refer n l))
  asked_at (Scan at) is =
      let A : Transition → Type 0 = λ t. Asked s t in
      by_bool (ltb at (next_place s))
      (λ e.
      let q : fitting s (Scan at) ≡ Open at = rw e in
      let b = from_old s S at is e in
      let k = at_in s S at is e in
      subst A (sym q) (
        all_inside s S.laid at 1 (mem_left at (the_news s) (the_olds s) (mem_left at (the_places s) (mades s.book s.memory s.halves) k)) (omega (arith, size_two s.book s.memory at)),
        b.0,
        (let v = all_inside s S.laid (word_at s at - 1) 0 (mem_right (word_at s at - 1) (the_news s) (the_olds s) b.1) (omega (arith, size_two s.book s.memory (word_at s at - 1))) in omega arith),
      ))
      (λ e. let q : fitting s (Scan at) ≡ Done = rw e in subst A (sym q) tt)
  asked_at (Field c) is = field_asked c.at c.from c.field is

  -- A sound state is ready for its step.
  pub step_ready : Ready s
  step_ready = record { watched = watched_at s.collector refl; asked = asked_at s.collector refl }

-- What is asked is a fact.
watched_prop : (s : State) (c : Collector) → IsProp (Watched s c)
watched_prop s Rest = Unit-prop
watched_prop s (Slots n) = Unit-prop
watched_prop s (Scan at) = Unit-prop
watched_prop s (Field c) = ×_prop le_prop (Π_prop (λ e. Π_prop (λ l. le_prop)))

asked_prop : (s : State) (t : Transition) → IsProp (Asked s t)
asked_prop s Start = Unit-prop
asked_prop s (Slot n) = ×_prop le_prop (×_prop (Π_prop (λ l. le_prop)) (Π_prop (λ e. ×_prop le_prop le_prop)))
asked_prop s (Open at) = ×₃_prop le_prop le_prop le_prop
asked_prop s (Word c) = ×_prop le_prop le_prop
asked_prop s (Keep c) = ×_prop le_prop le_prop
asked_prop s (Forward c p) = le_prop
asked_prop s (Reserve c) = ×₃_prop (×_prop le_prop le_prop) le_prop (×_prop le_prop le_prop)
asked_prop s Done = Unit-prop

pub ready_prop : (s : State) → IsProp (Ready s)
ready_prop s x y = λ i. record { watched = watched_prop s s.collector x.watched y.watched i; asked = asked_prop s (transition s) x.asked y.asked i }

pub bounds_prop : (s : State) → IsProp (Bounds s)
bounds_prop s x y = λ i. record { few = le_prop x.few y.few i; half = le_prop x.half y.half i; small = le_prop x.small y.small i; side = le_prop x.side y.side i; ends = le_prop x.ends y.ends i; top = le_prop x.top y.top i }
