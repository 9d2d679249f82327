-- What the functions of the straight heap's space ask and promise, from the invariant.
use Rattle.std.proofs.Common.{◌≡◌, ℕ, ◌+◌, ◌-◌, ◌<◌, ◌≤◌, true, false, eqb, length, sym, ap, ◌∙◌, subst, ⊎_elim, arith}
use Rattle.std.proofs.lemmas.Bool.{cases_eq, eq-eqb, ne_eqb}
use Rattle.graph.specs.Graph.{Record, size}
use Rattle.graph.specs.Calls.{Call, make, read, write, follow, link, look, Answer, slot, held}
use Rattle.graph.specs.Meaning.{refusal, gave, Called}
use Rattle.straight.specs.Words.{State, reference, place, word_at, words_after, words_answer, Held, Full, Room}
use Rattle.straight.specs.Layout.{raw_of, meaning_of}
use Rattle.straight.specs.Whole.{Whole}
use Rattle.straight.proofs.Wholes.{whole}
use Rattle.straight.proofs.Reading.{graph_slot, graph_slots, graph_held, held_kind, full_slot, slot_full, slot_empty, slot_place, fields_below}
use Rattle.straight.proofs.Calling.{stands, allowed, count_below, field_held, fitting}

module _ (s : State) (h : ∥ Whole s ∥₁) where
  w : Whole s
  w = whole s h

  -- an accepted call whose words are those of its definition
  pub after_whole : (t : State) (c : Call) → refusal (meaning_of s) c ≡ 0 → t ≡ words_after s c → ∥ Whole t ∥₁
  after_whole t c f e = ∣ subst Whole (sym e) (stands s w c f).0 ∣₁

  pub after_called : (t : State) (c : Call) (x : Answer) → refusal (meaning_of s) c ≡ 0 → x ≡ words_answer s c → t ≡ words_after s c → Called (meaning_of s) c (gave x) (meaning_of t)
  after_called t c x f a e =
      subst (λ (u : State). Called (meaning_of s) c (gave x) (meaning_of u)) (sym e)
      (subst (λ (y : Answer). Called (meaning_of s) c (gave y) (meaning_of (words_after s c))) (sym a) (stands s w c f).1)

  pub top_inside : s.top ≤ s.room
  top_inside = w.inside

  -- slots
  pub count_is : s.count ≡ length (meaning_of s).graph.slots
  count_is = sym (graph_slots s w)

  counted : (a : ℕ) → a < length (meaning_of s).graph.slots → a < s.count
  counted a l = subst (λ n. a < n) (graph_slots s w) l

  pub vacant_is : (a : ℕ) → a < length (meaning_of s).graph.slots → eqb (reference s a) 0 ≡ eqb (slot (meaning_of s).graph a) 0
  vacant_is a l =
      let k = counted a l in
      ⊎_elim
      (λ e. eq-eqb (reference s a) 0 e ∙ sym (eq-eqb (slot (meaning_of s).graph a) 0 (graph_slot s w a ∙ slot_empty s w a k e)))
      (λ ne.
      let z : 0 < slot (raw_of s) a = slot_full s w a k (omega arith) in
      let y : 0 < slot (meaning_of s).graph a = subst (λ n. 0 < n) (sym (graph_slot s w a)) z in
      ne_eqb (reference s a) 0 ne ∙ sym (ne_eqb (slot (meaning_of s).graph a) 0 (λ e. omega arith)))
      (cases_eq (reference s a) 0)

  full_at : (a : ℕ) → a < s.count → 0 < reference s a → Full s a
  full_at a l z =
      let b : place s a + 2 + size s.book (word_at s (place s a + 1)) ≤ s.top = fields_below s w a l z in
      let i : s.top ≤ s.room = w.inside in
      let f : s.room ≤ length s.memory = w.fits in
      let m : s.room ≤ 16384 = w.small in
      record { full = z; inside = omega arith; small = omega arith }

  pub full_from : (a : ℕ) → a < length (meaning_of s).graph.slots → 0 < slot (meaning_of s).graph a → Full s a
  full_from a l z =
      let k = counted a l in
      full_at a k (full_slot s w a k (subst (λ n. 0 < n) (graph_slot s w a) z))

  pub kind_is : (a : ℕ) → a < length (meaning_of s).graph.slots → 0 < slot (meaning_of s).graph a → word_at s (place s a + 1) ≡ (held (meaning_of s).graph a).kind
  kind_is a l z =
      let k = counted a l in
      sym (ap (λ (r : Record). r.kind) (graph_held s w a) ∙ held_kind s w a k (full_slot s w a k (subst (λ n. 0 < n) (graph_slot s w a) z)))

  -- what the code of an accepted call asks
  pub read_held : (a i : ℕ) → refusal (meaning_of s) (read a i) ≡ 0 → Held s a i
  read_held a i f = let p = allowed s w (read a i) f in field_held s w a i false p.0 p.1

  pub write_held : (a i v : ℕ) → refusal (meaning_of s) (write a i v) ≡ 0 → Held s a i
  write_held a i v f = let p = allowed s w (write a i v) f in field_held s w a i false p.0 p.1

  pub follow_held : (a i b : ℕ) → refusal (meaning_of s) (follow a i b) ≡ 0 → Held s a i
  follow_held a i b f = let p = allowed s w (follow a i b) f in field_held s w a i true p.0 p.2

  pub link_held : (a i b : ℕ) → refusal (meaning_of s) (link a i b) ≡ 0 → Held s a i
  link_held a i b f = let p = allowed s w (link a i b) f in field_held s w a i true p.0 p.2

  pub look_full : (a : ℕ) → refusal (meaning_of s) (look a) ≡ 0 → 0 < reference s a → Full s a
  look_full a f z = full_at a (count_below s w a (allowed s w (look a) f)) z

  pub make_room : (a k : ℕ) → refusal (meaning_of s) (make a k) ≡ 0 → Room s k
  make_room a k f =
      let g = fitting s w a k f in
      let r : 2 + size s.book k ≤ s.room - s.top = g.charge in
      let i : s.top ≤ s.room = w.inside in
      let x : s.room ≤ length s.memory = w.fits in
      let m : s.room ≤ 16384 = w.small in
      record { number = g.number; fits = omega arith; small = omega arith }
