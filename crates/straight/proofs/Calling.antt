-- Every call of a straight heap that is not refused: the state stays whole, and the answer and the meaning after it are the graph's.
use Rattle.std.proofs.Common.{◌≡◌, ℕ, ◌+◌, ◌-◌, ◌<◌, ◌≤◌, Bool, true, false, cond, eqb, List, length, get_or, sym, refl, ap, ◌∙◌, subst, ⊎_elim, arith}
use Rattle.std.proofs.lemmas.Bool.{cond-true, cond-false, cases_eq, eq-eqb, ne_eqb, false≢true}
use Rattle.kinds.specs.Shapes.{Shape}
use Rattle.graph.specs.Graph.{Record, size, refers, prune}
use Rattle.graph.specs.Calls.{Call, make, read, write, follow, link, hold, drop, look, spare, Answer, done, word, known, held, with_slot, with_field, after, answer_in, paid}
use Rattle.graph.specs.Sound.{Field, Allowed}
use Rattle.graph.specs.Meaning.{refusal, gave, Called, headed_charges}
use Rattle.graph.proofs.Prune.{prune_prune}
use Rattle.graph.proofs.Laws.{refusal_prune, answer_prune}
use Rattle.graph.proofs.Accepted.{accepted, make_room}
use Rattle.graph.proofs.Views.{path_after, same_after, field_at, raw_slots}
use Rattle.straight.specs.Words.{State, reference, place, spot, word_at, words_after, words_answer, Held}
use Rattle.straight.specs.Layout.{places, name, view, names, raw_of, meaning_of}
use Rattle.straight.specs.Whole.{Whole, Leads}
use Rattle.straight.proofs.Reading.{sound, vw, names_length, raw_slot, graph_next, full_slot, held_place, held_kind, held_none, fields_below, slot_place}
use Rattle.straight.proofs.Changing.{slot_whole, slot_raw, field_whole, field_raw}
use Rattle.straight.proofs.Making.{made_whole, made_raw}
use Rattle.std.proofs.lemmas.Grind.{common_steps}

no_reference : {X : Type 0} → false ≡ true → X
no_reference e = absurd (false≢true e)

-- the charge of a kind
pub charge_is : (book : List Shape) (k : ℕ) → k < length book → get_or (headed_charges book) k 0 ≡ 2 + size book k
charge_is book k l = grind (arith, common_steps)

module _ (s : State) (w : Whole s) where
  -- what a call that is not refused finds in the words
  pub allowed : (c : Call) → refusal (meaning_of s) c ≡ 0 → Allowed s.book (raw_of s) c
  allowed c h = accepted s.book (headed_charges s.book) (s.room - s.top) (raw_of s) c (sym (refusal_prune s.book (headed_charges s.book) (s.room - s.top) (raw_of s) (sound s w) c) ∙ h)

  pub count_below : (a : ℕ) → a < length (raw_of s).slots → a < s.count
  count_below a l = subst (λ n. a < n) (ap length (raw_slots s.book (vw s w) (names s) s.next) ∙ names_length s w) l

  pub record Met (a i : ℕ) (t : Bool) : Type 0 where
    pub slot : a < s.count
    pub full : 0 < reference s a
    pub below : i < size s.book (word_at s (place s a + 1))
    pub sort : refers s.book (word_at s (place s a + 1)) i ≡ t

  pub met : (a i : ℕ) (t : Bool) → a < length (raw_of s).slots → Field s.book (raw_of s) a i t → Met a i t
  met a i t l f =
      let k : a < s.count = count_below a l in
      let z : 0 < reference s a = full_slot s w a k f.full in
      let e : (held (raw_of s) a).kind ≡ word_at s (place s a + 1) = held_kind s w a k z in
      record { slot = k; full = z; below = subst (λ n. i < size s.book n) e f.below; sort = subst (λ n. refers s.book n i ≡ t) e f.sort }

  held_from : (a i : ℕ) (t : Bool) → Met a i t → Held s a i
  held_from a i t m =
      let h : place s a + 2 + size s.book (word_at s (place s a + 1)) ≤ s.top = fields_below s w a m.slot m.full in
      let b : i < size s.book (word_at s (place s a + 1)) = m.below in
      let x : s.top ≤ s.room = w.inside in
      let y : s.room ≤ length s.memory = w.fits in
      let v : s.room ≤ 16384 = w.small in
      record { full = m.full; inside = omega arith; small = omega arith }

  field_value : (a i : ℕ) (t : Bool) → Met a i t → get_or (held (raw_of s) a).fields i 0 ≡ cond t (name s.memory (word_at s (spot s a i))) (word_at s (spot s a i))
  unfolding view
  field_value a i t m =
      ap (λ (r : Record). get_or r.fields i 0) (held_place s w a m.slot m.full)
      ∙ field_at s.book (vw s w) (place s a) i m.below
      ∙ ap (λ b. cond b (name s.memory (word_at s (spot s a i))) (word_at s (spot s a i))) m.sort

  -- an accepted call from the graph after it, where nothing is paid
  free : (c : Call) (t : State) (x : Answer) → refusal (meaning_of s) c ≡ 0 → paid (headed_charges s.book) c ≡ 0 → t.book ≡ s.book → t.room ≡ s.room → t.top ≡ s.top → x ≡ answer_in (s.room - s.top) (raw_of s) c → prune t.book (raw_of t) ≡ after s.book (prune s.book (raw_of s)) c → Called (meaning_of s) c (gave x) (meaning_of t)
  free c t x h p b r o e g =
      let y : t.room - t.top ≡ s.room - s.top = ap (λ n. n - t.top) r ∙ ap (λ n. s.room - n) o in (
        e ∙ sym (answer_prune s.book (s.room - s.top) (raw_of s) (sound s w) c),
        record { fine = h; graph = g; book = b; charges = ap headed_charges b; capacity = r; fixed = refl; spare = ap (λ n. n + paid (headed_charges s.book) c) y ∙ ap (λ n. (s.room - s.top) + n) p ∙ plus (s.room - s.top); due = omega arith; still = λ z. absurd (omega arith); kept = omega arith },
      )
    where
      plus : (n : ℕ) → n + 0 ≡ n
      plus n = omega arith

  still : prune s.book (raw_of s) ≡ prune s.book (prune s.book (raw_of s))
  still = sym (prune_prune s.book (raw_of s) (sound s w).distinct)

  abbrev pub Stands : Call → Type 0
  Stands c = Whole (words_after s c) × Called (meaning_of s) c (gave (words_answer s c)) (meaning_of (words_after s c))

  read_stands : (a i : ℕ) → refusal (meaning_of s) (read a i) ≡ 0 → Stands (read a i)
  unfolding after
  read_stands a i h =
      let p = allowed (read a i) h in
      let m = met a i false p.0 p.1 in
      (w, free (read a i) s (words_answer s (read a i)) h refl refl refl refl (sym (ap word (field_value a i false m))) still)

  look_stands : (a : ℕ) → refusal (meaning_of s) (look a) ≡ 0 → Stands (look a)
  unfolding after view
  look_stands a h =
      let l : a < s.count = count_below a (allowed (look a) h) in (
        w,
        free (look a) s (words_answer s (look a)) h refl refl refl refl
            (⊎_elim
            (λ e. cond-true (eqb (reference s a) 0) (known 0 0) _ (eq-eqb (reference s a) 0 e) ∙ sym (ap (λ (r : Record). known r.number r.kind) (held_none s w a l e)))
            (λ ne. cond-false (eqb (reference s a) 0) (known 0 0) (known (word_at s (place s a)) (word_at s (place s a + 1))) (ne_eqb (reference s a) 0 ne) ∙ sym (ap (λ (r : Record). known r.number r.kind) (held_place s w a l (omega arith))))
            (cases_eq (reference s a) 0))
            still,
      )

  write_stands : (a i v : ℕ) → refusal (meaning_of s) (write a i v) ≡ 0 → Stands (write a i v)
  write_stands a i v h =
      let p = allowed (write a i v) h in
      let m = met a i false p.0 p.1 in (
        field_whole s w a i v false m.slot m.full m.below m.sort no_reference,
        free (write a i v) (words_after s (write a i v)) done h refl refl refl refl refl
            (path_after s.book (raw_of s) (raw_of (words_after s (write a i v))) (sound s w) (write a i v) p (field_raw s w a i v false m.slot m.full m.below m.sort no_reference)),
      )

  link_stands : (a i b : ℕ) → refusal (meaning_of s) (link a i b) ≡ 0 → Stands (link a i b)
  link_stands a i b h =
      let p = allowed (link a i b) h in
      let m = met a i true p.0 p.2 in
      let k : b < s.count = count_below b p.1 in (
        field_whole s w a i (reference s b) true m.slot m.full m.below m.sort (λ _. w.slots b k),
        free (link a i b) (words_after s (link a i b)) done h refl refl refl refl refl
            (path_after s.book (raw_of s) (raw_of (words_after s (link a i b))) (sound s w) (link a i b) p
            (field_raw s w a i (reference s b) true m.slot m.full m.below m.sort (λ _. w.slots b k)
            ∙ ap (λ n. with_field (raw_of s) a i n) (sym (raw_slot s w b k)))),
      )

  follow_stands : (a i b : ℕ) → refusal (meaning_of s) (follow a i b) ≡ 0 → Stands (follow a i b)
  follow_stands a i b h =
      let p = allowed (follow a i b) h in
      let m = met a i true p.0 p.2 in
      let k : b < s.count = count_below b p.1 in
      let x = word_at s (spot s a i) in
      let f = w.records.fields (place s a) (slot_place s w a m.slot m.full) i m.below m.sort in (
        slot_whole s w b x k f,
        free (follow a i b) (words_after s (follow a i b)) done h refl refl refl refl refl
            (path_after s.book (raw_of s) (raw_of (words_after s (follow a i b))) (sound s w) (follow a i b) p
            (slot_raw s w b x k f ∙ ap (λ n. with_slot (raw_of s) b n) (sym (field_value a i true m)))),
      )

  hold_stands : (a b : ℕ) → refusal (meaning_of s) (hold a b) ≡ 0 → Stands (hold a b)
  hold_stands a b h =
      let p = allowed (hold a b) h in
      let l : a < s.count = count_below a p.0 in
      let k : b < s.count = count_below b p.1 in (
        slot_whole s w b (reference s a) k (w.slots a l),
        free (hold a b) (words_after s (hold a b)) done h refl refl refl refl refl
            (path_after s.book (raw_of s) (raw_of (words_after s (hold a b))) (sound s w) (hold a b) p
            (slot_raw s w b (reference s a) k (w.slots a l) ∙ ap (λ n. with_slot (raw_of s) b n) (sym (raw_slot s w a l)))),
      )

  drop_stands : (a : ℕ) → refusal (meaning_of s) (drop a) ≡ 0 → Stands (drop a)
  drop_stands a h =
      let p = allowed (drop a) h in
      let l : a < s.count = count_below a p in
      let f : Leads (places s.book s.memory s.top) 0 = λ z. absurd (omega arith) in (
        slot_whole s w a 0 l f,
        free (drop a) (words_after s (drop a)) done h refl refl refl refl refl
            (path_after s.book (raw_of s) (raw_of (words_after s (drop a))) (sound s w) (drop a) p (slot_raw s w a 0 l f)),
      )

  pub record Fits (a k : ℕ) : Type 0 where
    pub slot : a < s.count
    pub kind : k < length s.book
    pub charge : 2 + size s.book k ≤ s.room - s.top
    pub number : s.next ≤ 4294967295

  pub fitting : (a k : ℕ) → refusal (meaning_of s) (make a k) ≡ 0 → Fits a k
  fitting a k h =
      let p = allowed (make a k) h in
      let r = make_room s.book (headed_charges s.book) (s.room - s.top) (prune s.book (raw_of s)) a k h in
      record {
        slot = count_below a p.0;
        kind = p.1;
        charge = subst (λ n. n ≤ s.room - s.top) (charge_is s.book k p.1) r.0;
        number = subst (λ n. n ≤ 4294967295) (graph_next s w) r.1;
      }

  make_stands : (a k : ℕ) → refusal (meaning_of s) (make a k) ≡ 0 → Stands (make a k)
  make_stands a k h =
      let f = fitting a k h in
      let t = words_after s (make a k) in
      let g : Whole t = made_whole s w a k f.slot f.kind f.charge f.number in
      let c : get_or (headed_charges s.book) k 0 ≡ 2 + size s.book k = charge_is s.book k f.kind in
      let r : 2 + size s.book k ≤ s.room - s.top = f.charge in
      let i : s.top ≤ s.room = w.inside in (
        g,
        (
          ap word (sym (graph_next s w)),
          record {
            fine = h;
            graph = same_after s.book (raw_of s) (raw_of t) (sound s w) (sound t g) (make a k) (allowed (make a k) h) (made_raw s w a k f.slot f.kind f.charge f.number);
            book = refl;
            charges = refl;
            capacity = refl;
            fixed = refl;
            spare = omega arith;
            due = omega arith;
            still = λ z. absurd (omega arith);
            kept = omega arith;
          },
        ),
      )

  spare_stands : Called (meaning_of s) spare (gave (word (s.room - s.top))) (meaning_of s)
  unfolding after
  spare_stands = free spare s (word (s.room - s.top)) refl refl refl refl refl refl still

  -- The calls stand.
  pub stands : (c : Call) → refusal (meaning_of s) c ≡ 0 → Stands c
  stands (make a k) h = make_stands a k h
  stands (read a i) h = read_stands a i h
  stands (write a i v) h = write_stands a i v h
  stands (follow a i b) h = follow_stands a i b h
  stands (link a i b) h = link_stands a i b h
  stands (hold a b) h = hold_stands a b h
  stands (drop a) h = drop_stands a h
  stands (look a) h = look_stands a h
  stands spare h = (w, spare_stands)

  -- what the code of a call asks
  pub field_held : (a i : ℕ) (t : Bool) → a < length (raw_of s).slots → Field s.book (raw_of s) a i t → Held s a i
  field_held a i t l f = held_from a i t (met a i t l f)
