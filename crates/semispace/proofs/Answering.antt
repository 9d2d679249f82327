-- What the functions of the copying heap's space ask and promise, from the invariant.
use Rattle.std.proofs.Common.{rules, ◌≡◌, ℕ, ◌<◌, ◌≤◌, true, false, eqb, length, get_or, sym, ap, ◌∙◌, subst, arith}
use Rattle.std.proofs.lemmas.Bool.{eq-eqb, ne_eqb}
use Rattle.graph.specs.Graph.{Record}
use Rattle.graph.specs.Calls.{Call, make, read, write, follow, link, hold, look, Answer, slot, held}
use Rattle.graph.specs.Meaning.{refusal, gave, Called}
use Rattle.semispace.specs.Words.{State, Forwardable, kind_at}
use Rattle.semispace.specs.Sound.{value}
use Rattle.semispace.specs.Graphs.{Whole}
use Rattle.semispace.specs.Collected.{meaning_of}
use Rattle.semispace.specs.Callings.{held_at, words_after, words_answer, Full, Held, Numbered, Linkable, Makeable}
use Rattle.semispace.proofs.Making.{make_room as room_left}
use Rattle.semispace.proofs.Wholes.{whole}
use Rattle.semispace.proofs.Asking.{full_at, numbered_at, held_from, slot_led, value_led, linkable_from}
use Rattle.semispace.proofs.Calling.{stands, allowed, count_below, meets, fitting, graph_slots, graph_slot, graph_held, full_slot, slot_full, slot_empty, held_kind}

module _ (s : State) (h : ∥ Whole s ∥₁) where
  w : Whole s
  w = whole s h

  -- an accepted call whose words are those of its definition
  pub after_whole : length s.book ≤ 16 → (t : State) (c : Call) → refusal (meaning_of s) c ≡ 0 → t ≡ words_after s c → ∥ Whole t ∥₁
  after_whole few t c f e = ∣ subst Whole (sym e) (stands s w few c f).0 ∣₁

  pub after_called : length s.book ≤ 16 → (t : State) (c : Call) (x : Answer) → refusal (meaning_of s) c ≡ 0 → x ≡ words_answer s c → t ≡ words_after s c → Called (meaning_of s) c (gave x) (meaning_of t)
  after_called few t c x f a e = search (rules, arith, stands, w)

  -- slots
  pub count_is : s.count ≡ length (meaning_of s).graph.slots
  count_is = sym (graph_slots s w)

  counted : (a : ℕ) → a < length (meaning_of s).graph.slots → a < s.count
  counted a l = subst (λ n. a < n) (graph_slots s w) l

  pub vacant_is : (a : ℕ) → a < length (meaning_of s).graph.slots → eqb (get_or s.slots a 0) 0 ≡ eqb (slot (meaning_of s).graph a) 0
  vacant_is a l =
      let k = counted a l in
      search (rules, arith, eq-eqb, graph_slot, w, slot_empty, slot_full, ne_eqb)

  full_of : (a : ℕ) → a < length (meaning_of s).graph.slots → 0 < slot (meaning_of s).graph a → 0 < get_or s.slots a 0
  full_of a l z = full_slot s w a (counted a l) (subst (λ n. 0 < n) (graph_slot s w a) z)

  pub full_from : (a : ℕ) → a < length (meaning_of s).graph.slots → 0 < slot (meaning_of s).graph a → Full s a
  full_from a l z = full_at s w.sound w.known a (counted a l) (full_of a l z)

  pub kind_is : (a : ℕ) → a < length (meaning_of s).graph.slots → 0 < slot (meaning_of s).graph a → kind_at s (held_at s a) ≡ (held (meaning_of s).graph a).kind
  kind_is a l z = sym (ap (λ (r : Record). r.kind) (graph_held s w a) ∙ held_kind s w a (counted a l) (full_of a l z))

  -- what the code of an accepted call asks
  pub read_held : (a i : ℕ) → refusal (meaning_of s) (read a i) ≡ 0 → Held s a i
  read_held a i f = let p = allowed s w (read a i) f in held_from s w.sound w.known a i false (meets s w a i false p.0 p.1)

  pub write_held : (a i v : ℕ) → refusal (meaning_of s) (write a i v) ≡ 0 → Held s a i
  write_held a i v f = let p = allowed s w (write a i v) f in held_from s w.sound w.known a i false (meets s w a i false p.0 p.1)

  pub follow_held : (a i b : ℕ) → refusal (meaning_of s) (follow a i b) ≡ 0 → Held s a i × Forwardable s (value s (held_at s a) i)
  follow_held a i b f =
      let p = allowed s w (follow a i b) f in
      let m = meets s w a i true p.0 p.2 in
      (held_from s w.sound w.known a i true m, value_led s w.sound w.known a i m)

  pub link_held : (a i b : ℕ) → refusal (meaning_of s) (link a i b) ≡ 0 → Linkable s a i b
  link_held a i b f =
      let p = allowed s w (link a i b) f in
      linkable_from s w.sound w.known a i b (meets s w a i true p.0 p.2) (count_below s w b p.1)

  pub hold_led : (a b : ℕ) → refusal (meaning_of s) (hold a b) ≡ 0 → Forwardable s (get_or s.slots a 0)
  hold_led a b f = let p = allowed s w (hold a b) f in slot_led s w.sound w.known a (count_below s w a p.0)

  pub look_full : (a : ℕ) → refusal (meaning_of s) (look a) ≡ 0 → 0 < get_or s.slots a 0 → Full s a × Numbered s (held_at s a)
  look_full a f z =
      let l = count_below s w a (allowed s w (look a) f) in
      (full_at s w.sound w.known a l z, numbered_at s w.sound w.known a l z)

  pub make_room : (a k : ℕ) → refusal (meaning_of s) (make a k) ≡ 0 → Makeable s k
  make_room a k f =
      let g = fitting s w a k f in
      let c = g.charge in
      let r = room_left s w.sound in
      record { number = g.number; room = omega arith; charge = c }
