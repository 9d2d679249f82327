-- The invariant has one proof at most, so a heap's ghost field gives it back.
use Rattle.std.proofs.Common.{◌≡◌, ℕ, ◌+◌, ◌-◌, Bool, true, ◌||◌, eqb, List, [], ◌∷◌, ◌++◌, get_or}
use mathlib.Core.Logic.{∥∥₁_elim}
use mathlib.Core.HLevel.{×_prop, Unit-prop}
use native.Mathlib.Bridge.{le_prop}
use denote.Struct.Props.{props, ≡_prop}
use base.Stored.{coded_bool}
use Rattle.kinds.specs.Shapes.{Shape}
use Rattle.semispace.specs.declared.halves.Halves.{Halves}
use Rattle.semispace.specs.declared.collector.Collector.{Collector}
use Rattle.semispace.specs.declared.collector.Collector.TheVariants.{Rest, Slots, Scan, Field}
use Rattle.semispace.specs.Layout.{mem, Laid, total, lows, highs, places, mades, old_base, placed}
use Rattle.semispace.specs.Words.{State, kind_at, place_of, word_at, next_place}
use Rattle.semispace.specs.Sound.{the_olds, the_news, the_places, good, Twin, At, Cycle, Sound}
use Rattle.semispace.specs.Graphs.{Known, Whole, has_source}
use Rattle.semispace.proofs.Readying.{bounds_prop}

nat : (m n : ℕ) → IsProp (m ≡ n)
nat m n = hlevel props

bool : (a : Bool) → IsProp (a ≡ true)
bool a = ≡_prop coded_bool a true

laid_prop : (b : List Shape) (m : List ℕ) (h : Halves) → IsProp (Laid b m h)
laid_prop b m h x y = λ i. record {
  fits = le_prop x.fits y.fits i;
  side = bool (eqb h.base 0 || eqb h.base h.size) x.side y.side i;
  ends = le_prop x.ends y.ends i;
  top = le_prop x.top y.top i;
  old_ends = le_prop x.old_ends y.old_ends i;
  old_top = le_prop x.old_top y.old_top i;
  lows_fill = nat (old_base h + total b m (lows b m h)) (old_base h + h.old_low) x.lows_fill y.lows_fill i;
  highs_fill = nat (old_base h + h.old_high + total b m (highs b m h)) (old_base h + h.size) x.highs_fill y.highs_fill i;
  places_fill = nat (h.base + total b m (places b m h)) (h.base + h.low) x.places_fill y.places_fill i;
  mades_fill = nat (h.base + h.high + total b m (mades b m h)) (h.base + h.size) x.mades_fill y.mades_fill i;
}

twin_prop : (s : State) (o p : ℕ) → IsProp (Twin s o p)
twin_prop s o p x y = λ i. record {
  inside = bool (mem p (the_places s)) x.inside y.inside i;
  kind = nat (kind_at s p) (kind_at s o) x.kind y.kind i;
  back = λ e. nat (word_at s p) (o + 1) (x.back e) (y.back e) i;
  head = λ e. nat (word_at s p) (word_at s o) (x.head e) (y.head e) i;
}

at_prop : (s : State) (c : Collector) → IsProp (At s c)
at_prop s Rest x y = Unit-prop x y
at_prop s (Slots n) x y = le_prop x y
at_prop s (Scan at) x y = bool (mem at (the_places s ++ (next_place s ∷ []))) x y
at_prop s (Field c) x y = λ k. (bool (mem c.at (the_places s)) x.0 y.0 k, bool (mem c.from (the_olds s)) x.1 y.1 k, nat (place_of s c.from) (c.at + 1) x.2 y.2 k, le_prop x.3 y.3 k)

cycle_prop : (s : State) → IsProp (Cycle s)
cycle_prop s x y = λ i. record {
  sum = nat (placed s.book s.memory (the_olds s)) s.halves.low x.sum y.sum i;
  room = nat (s.halves.old_low + (s.halves.size - s.halves.old_high) + s.spare) s.halves.high x.room y.room i;
  twin = λ o m e. twin_prop s o (place_of s o - 1) (x.twin o m e) (y.twin o m e) i;
  back = λ p m e. (le_prop (x.back p m e).0 (y.back p m e).0 i, bool (mem (word_at s p - 1) (the_olds s)) (x.back p m e).1 (y.back p m e).1 i, nat (place_of s (word_at s p - 1)) (p + 1) (x.back p m e).2 (y.back p m e).2 i);
  olds_refer = λ o j m l e. bool (good (the_news s ++ the_olds s) (word_at s (o + 2 + j))) (x.olds_refer o j m l e) (y.olds_refer o j m l e) i;
  slots_refer = λ n l. bool (good (the_news s ++ the_olds s) (get_or s.slots n 0)) (x.slots_refer n l) (y.slots_refer n l) i;
}

sound_prop : (s : State) → IsProp (Sound s)
sound_prop s x y = λ i. record {
  bounds = bounds_prop s x.bounds y.bounds i;
  laid = laid_prop s.book s.memory s.halves x.laid y.laid i;
  enough = le_prop x.enough y.enough i;
  at = at_prop s s.collector x.at y.at i;
  rest = λ e. nat (s.halves.low + s.spare) s.halves.high (x.rest e) (y.rest e) i;
  cycle = λ e. cycle_prop s (x.cycle e) (y.cycle e) i;
  news_refer = λ a j m l o r. bool (good (the_news s) (word_at s (a + 2 + j))) (x.news_refer a j m l o r) (y.news_refer a j m l o r) i;
  slots_passed = λ n l e. bool (good (the_news s) (get_or s.slots n 0)) (x.slots_passed n l e) (y.slots_passed n l e) i;
  plain = λ a m. nat (place_of s a) 0 (x.plain a m) (y.plain a m) i;
}

known_prop : (s : State) → IsProp (Known s)
known_prop s x y = λ i. record {
  first = λ l. le_prop (x.first l) (y.first l) i;
  apart = λ a b m n e. nat a b (x.apart a b m n e) (y.apart a b m n e) i;
  given = λ a m. ×_prop le_prop le_prop (x.given a m) (y.given a m) i;
  kinds = λ a m. le_prop (x.kinds a m) (y.kinds a m) i;
  sourced = λ e p m. bool (has_source s p) (x.sourced e p m) (y.sourced e p m) i;
}

whole_prop : (s : State) → IsProp (Whole s)
whole_prop s x y = λ i. record { sound = sound_prop s x.sound y.sound i; known = known_prop s x.known y.known i }

pub whole : (s : State) → ∥ Whole s ∥₁ → Whole s
whole s h = ∥∥₁_elim h (whole_prop s) (λ x. x)
