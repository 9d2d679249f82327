-- The laws of the straight heap's words: what a call leaves as it was.
use Rattle.std.proofs.Common.{◌≡◌, ℕ, ◌+◌, ◌-◌, ◌<◌, ◌≤◌, Bool, true, false, length, get_or, set, sym, refl, subst, arith}
use Rattle.std.proofs.lemmas.List.{length-set, get_or-set_other}
use Rattle.graph.specs.Graph.{◌∈◌, size}
use Rattle.graph.specs.Calls.{Call, make, read, write, follow, link, hold, drop, look, spare}
use Rattle.graph.specs.Meaning.{Reply, gave, refused, refusal}
use Rattle.straight.specs.declared.heap.Straight.{Straight}
use Rattle.straight.specs.Words.{State, spot, place, word_at, words_after}
use Rattle.straight.specs.Layout.{places, meaning_of}
use Rattle.straight.specs.Whole.{Whole}
use Rattle.straight.specs.Laws.{words, Promised, StraightLaws}
use Rattle.straight.proofs.Wholes.{whole}
use Rattle.straight.proofs.Walk.{set_number, set_kind, set_laid}
use Rattle.straight.proofs.Making.{laid_length, laid_over, fits, numbers, kinds, old}
use Rattle.straight.proofs.Calling.{Met, met, allowed, count_below, fitting}
use Rattle.straight.proofs.Reading.{slot_place, fields_below}
use Rattle.std.proofs.lemmas.Grind.{common_steps}

module _ (s : State) (w : Whole s) where
  -- a word that is set in a field of a record
  module _ (a i x : ℕ) (t : Bool) (m : Met s w a i t) where
    below_top : spot s a i < s.top
    below_top = let h : place s a + 2 + size s.book (word_at s (place s a + 1)) ≤ s.top = fields_below s w a m.slot m.full in let b : i < size s.book (word_at s (place s a + 1)) = m.below in omega arith

    set_outside : (p : ℕ) → s.room ≤ p → get_or (set s.memory (spot s a i) x) p 0 ≡ get_or s.memory p 0
    set_outside p l = get_or-set_other s.memory (spot s a i) p x 0 (λ e. let b : spot s a i < s.top = below_top in let c : s.top ≤ s.room = w.inside in omega arith)

    set_stays : (p : ℕ) → p ∈ places s.book s.memory s.top → (p ∈ places s.book (set s.memory (spot s a i) x) s.top) × (get_or (set s.memory (spot s a i) x) p 0 ≡ get_or s.memory p 0) × (get_or (set s.memory (spot s a i) x) (p + 1) 0 ≡ get_or s.memory (p + 1) 0)
    set_stays p j =
        let q = slot_place s w a m.slot m.full in (
          subst (λ xs. p ∈ xs) (sym (set_laid s.book s.memory s.top (place s a) i x w.laid q m.below).0) j,
          set_number s.book s.memory s.top (place s a) i x w.laid q m.below p j,
          set_kind s.book s.memory s.top (place s a) i x w.laid q m.below p j,
        )

  long_after : (c : Call) → refusal (meaning_of s) c ≡ 0 → length (words_after s c).memory ≡ length s.memory
  long_after (make a k) f = let g = fitting s w a k f in laid_length s.memory s.top s.next k (size s.book k) (fits s w a k g.slot g.kind g.charge g.number)
  long_after (read a i) f = refl
  long_after (write a i x) f = length-set s.memory (spot s a i) x
  long_after (follow a i b) f = refl
  long_after (link a i b) f = length-set s.memory (spot s a i) (get_or s.slots b 0)
  long_after (hold a b) f = refl
  long_after (drop a) f = refl
  long_after (look a) f = refl
  long_after spare f = refl

  outside_after : (c : Call) → refusal (meaning_of s) c ≡ 0 → (p : ℕ) → s.room ≤ p → word_at (words_after s c) p ≡ word_at s p
  outside_after (make a k) f p l =
      let g = fitting s w a k f in
      let r : 2 + size s.book k ≤ s.room - s.top = g.charge in
      let i : s.top ≤ s.room = w.inside in
      laid_over s.memory s.top s.next k (size s.book k) (fits s w a k g.slot g.kind g.charge g.number) p (omega arith)
  outside_after (read a i) f p l = refl
  outside_after (write a i x) f p l = let q = allowed s w (write a i x) f in set_outside a i x false (met s w a i false q.0 q.1) p l
  outside_after (follow a i b) f p l = refl
  outside_after (link a i b) f p l = let q = allowed s w (link a i b) f in set_outside a i (get_or s.slots b 0) true (met s w a i true q.0 q.2) p l
  outside_after (hold a b) f p l = refl
  outside_after (drop a) f p l = refl
  outside_after (look a) f p l = refl
  outside_after spare f p l = refl

  abbrev At : State → ℕ → Type 0
  At t p = (p ∈ places t.book t.memory t.top) × (word_at t p ≡ word_at s p) × (word_at t (p + 1) ≡ word_at s (p + 1))

  stays_after : (c : Call) → refusal (meaning_of s) c ≡ 0 → (p : ℕ) → p ∈ places s.book s.memory s.top → At (words_after s c) p
  stays_after (make a k) f p j =
      let g = fitting s w a k f in
      (old s w a k g.slot g.kind g.charge g.number p j, numbers s w a k g.slot g.kind g.charge g.number p j, kinds s w a k g.slot g.kind g.charge g.number p j)
  stays_after (read a i) f p j = (j, refl, refl)
  stays_after (write a i x) f p j = let q = allowed s w (write a i x) f in set_stays a i x false (met s w a i false q.0 q.1) p j
  stays_after (follow a i b) f p j = (j, refl, refl)
  stays_after (link a i b) f p j = let q = allowed s w (link a i b) f in set_stays a i (get_or s.slots b 0) true (met s w a i true q.0 q.2) p j
  stays_after (hold a b) f p j = (j, refl, refl)
  stays_after (drop a) f p j = (j, refl, refl)
  stays_after (look a) f p j = (j, refl, refl)
  stays_after spare f p j = (j, refl, refl)

  nobody : {X : Type 0} → s.count ≡ 0 → (a : ℕ) → a < s.count → X
  nobody e a l = grind (arith, common_steps)

  none_after : s.count ≡ 0 → (c : Call) → refusal (meaning_of s) c ≡ 0 → words_after s c ≡ s
  none_after e (make a k) f = nobody e a (fitting s w a k f).slot
  none_after e (read a i) f = refl
  none_after e (write a i x) f = nobody e a (count_below s w a (allowed s w (write a i x) f).0)
  none_after e (follow a i b) f = nobody e a (count_below s w a (allowed s w (follow a i b) f).0)
  none_after e (link a i b) f = nobody e a (count_below s w a (allowed s w (link a i b) f).0)
  none_after e (hold a b) f = nobody e a (count_below s w a (allowed s w (hold a b) f).0)
  none_after e (drop a) f = nobody e a (count_below s w a (allowed s w (drop a) f))
  none_after e (look a) f = refl
  none_after e spare f = refl

-- from the definition of a call to its promise: a refused call leaves everything
module _ (h : Straight) where
  w : Whole (words h)
  w = whole (words h) h.whole

  by_reply : (P : State → Type 0) (c : Call) (r : Reply) (k : Straight) → Promised h c r k → P (words h) → (refusal (meaning_of (words h)) c ≡ 0 → P (words_after (words h) c)) → P (words k)
  by_reply P c (gave x) k p same after = grind (arith, common_steps)
  by_reply P c (refused n) k p same after = subst P (sym p.acts) same

pub straight_laws : StraightLaws
straight_laws =
    record {
      long = λ h k c r p. by_reply h (λ (t : State). length t.memory ≡ length (words h).memory) c r k p refl (long_after (words h) (w h) c);
      outside = λ h k c r p q l. by_reply h (λ (t : State). word_at t q ≡ word_at (words h) q) c r k p refl (λ f. outside_after (words h) (w h) c f q l);
      write_one = λ h k a i x r p q ne. by_reply h (λ (t : State). word_at t q ≡ word_at (words h) q) (write a i x) r k p refl (λ _. get_or-set_other (words h).memory (spot (words h) a i) q x 0 ne);
      link_one = λ h k a i b r p q ne. by_reply h (λ (t : State). word_at t q ≡ word_at (words h) q) (link a i b) r k p refl (λ _. get_or-set_other (words h).memory (spot (words h) a i) q (get_or (words h).slots b 0) 0 ne);
      stays = λ h k c r p q j. by_reply h (λ (t : State). At (words h) (w h) t q) c r k p (j, refl, refl) (λ f. stays_after (words h) (w h) c f q j);
      none = λ h k c r p e. by_reply h (λ (t : State). t ≡ words h) c r k p refl (λ f. none_after (words h) (w h) e c f);
    }
