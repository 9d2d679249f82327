-- Every call of a copying heap that is not refused: the state keeps the invariant, and the answer and the meaning after it are the graph's.
use Rattle.std.proofs.Common.{◌≡◌, ℕ, ◌+◌, ◌<◌, ◌≤◌, Bool, true, false, eqb, List, length, get_or, sym, refl, ap, ◌∙◌, subst, ⊎_elim, arith}
use Rattle.std.proofs.lemmas.Bool.{cond-true, cond-false, cases_eq, eq-eqb, ne_eqb}
use Rattle.std.proofs.lemmas.List.{get_or-map}
use Rattle.kinds.specs.Shapes.{Shape, no_shape}
use Rattle.graph.specs.Graph.{Record, size, prune}
use Rattle.graph.specs.Calls.{Call, make, read, write, follow, link, hold, drop, look, spare, word, known, slot, held, after, paid}
use Rattle.graph.specs.Sound.{Field, Allowed}
use Rattle.graph.specs.Meaning.{Meaning, refusal, answer, gave, Called, headed_charges}
use Rattle.graph.specs.Meaning as GM
use Rattle.graph.proofs.Prune.{prune_prune, prune_slots, prune_next}
use Rattle.graph.proofs.Changes.{held_prune}
use Rattle.graph.proofs.Laws.{refusal_prune}
use Rattle.graph.proofs.Accepted.{accepted, make_room}
use Rattle.semispace.specs.Words.{State, kind_at, refers, fields_of}
use Rattle.semispace.specs.Sound.{Sound, name, number}
use Rattle.semispace.specs.Graphs.{record_of, raw_of, graph_of, Known, Whole}
use Rattle.semispace.specs.Collected.{meaning_of, Accepted}
use Rattle.semispace.specs.Callings.{held_at, words_after, words_answer}
use Rattle.semispace.specs.Stands.{Meets}
use Rattle.semispace.proofs.Whole.{raw_sound, object_number}
use Rattle.semispace.proofs.Seeing.{slots_length, slot_named, slot_number, object, sees, held_record}
use Rattle.semispace.proofs.MakeAccepted.{make_accepted}
use Rattle.semispace.proofs.Standing.{stands as words_stand}

-- the charge of a kind
pub charge_is : (book : List Shape) (k : ℕ) → k < length book → get_or (headed_charges book) k 0 ≡ 2 + size book k
charge_is book k l = get_or-map (λ (x : Shape). 2 + x.fields) book k no_shape 0 l

name_none : (s : State) (r : ℕ) → r ≡ 0 → name s r ≡ 0
unfolding name
name_none s r z = let q : eqb r 0 ≡ true = eq-eqb r 0 z in rw q

module _ (s : State) (W : Whole s) where
  abbrev S : Sound s
  S = W.sound

  abbrev K : Known s
  K = W.known

  -- the graph and the records before it is pruned
  pub graph_slots : length (graph_of s).slots ≡ s.count
  unfolding graph_of
  graph_slots = ap length (prune_slots s.book (raw_of s)) ∙ slots_length s S K

  pub graph_slot : (a : ℕ) → slot (graph_of s) a ≡ slot (raw_of s) a
  unfolding graph_of
  graph_slot a = ap (λ xs. get_or xs a 0) (prune_slots s.book (raw_of s))

  pub graph_next : (graph_of s).next ≡ s.next
  unfolding graph_of raw_of
  graph_next = prune_next s.book (raw_of s)

  pub graph_held : (a : ℕ) → held (graph_of s) a ≡ held (raw_of s) a
  unfolding graph_of
  graph_held a = rw (prune_slots s.book (raw_of s)) (held_prune s.book (raw_of s) (raw_sound s S K) a)

  -- what a call that is not refused finds in the words
  pub allowed : (c : Call) → refusal (meaning_of s) c ≡ 0 → Allowed s.book (raw_of s) c
  unfolding graph_of
  allowed c h = accepted s.book (headed_charges s.book) s.spare (raw_of s) c (sym (refusal_prune s.book (headed_charges s.book) s.spare (raw_of s) (raw_sound s S K) c) ∙ h)

  pub count_below : (a : ℕ) → a < length (raw_of s).slots → a < s.count
  count_below a l = subst (λ n. a < n) (slots_length s S K) l

  pub full_slot : (a : ℕ) → a < s.count → 0 < slot (raw_of s) a → 0 < get_or s.slots a 0
  full_slot a l z = grind (arith, slot_named, name_none)

  pub slot_full : (a : ℕ) (l : a < s.count) → 0 < get_or s.slots a 0 → 0 < slot (raw_of s) a
  slot_full a l z =
      let n = slot_number s S K a l z in
      let v = sees s S K a l z in
      let k = object_number s S (object s S K a l z) v.there in
      let g = (K.given (object s S K a l z) v.there).0 in
      omega arith

  pub slot_empty : (a : ℕ) → a < s.count → get_or s.slots a 0 ≡ 0 → slot (raw_of s) a ≡ 0
  slot_empty a l e = slot_named s S K a l ∙ name_none s (get_or s.slots a 0) e

  pub held_kind : (a : ℕ) (l : a < s.count) (z : 0 < get_or s.slots a 0) → (held (raw_of s) a).kind ≡ kind_at s (held_at s a)
  held_kind a l z = ap (λ (r : Record). r.kind) (held_record s S K a l z) ∙ (of (object s S K a l z) ∙ sym (sees s S K a l z).kind)
    where
      of : (o : ℕ) → (record_of s o).kind ≡ kind_at s o
      of o = unfold record_of in refl

  pub meets : (a i : ℕ) (t : Bool) → a < length (raw_of s).slots → Field s.book (raw_of s) a i t → Meets s a i t
  meets a i t l f =
      let k : a < s.count = count_below a l in
      let z : 0 < get_or s.slots a 0 = full_slot a k f.full in
      let e : (held (raw_of s) a).kind ≡ kind_at s (held_at s a) = held_kind a k z in
      record { slot = k; full = z; below = subst (λ n. i < size s.book n) e f.below; fits = subst (λ n. refers s.book n i ≡ t) e f.sort }

  pub record Fits (a k : ℕ) : Type 0 where
    pub slot : a < s.count
    pub kind : k < length s.book
    pub charge : 2 + fields_of s.book k ≤ s.spare
    pub number : s.next ≤ 4294967295

  pub fitting : (a k : ℕ) → refusal (meaning_of s) (make a k) ≡ 0 → Fits a k
  fitting a k h =
      let p = allowed (make a k) h in
      let r = make_room s.book (headed_charges s.book) s.spare (graph_of s) a k h in
      record {
        slot = count_below a p.0;
        kind = p.1;
        charge = subst (λ n. n ≤ s.spare) (charge_is s.book k p.1) r.0;
        number = subst (λ n. n ≤ 4294967295) graph_next r.1;
      }

  -- accepted calls
  fine : (c : Call) (t : State) → refusal (meaning_of s) c ≡ 0 → Accepted (meaning_of s) c (meaning_of t) → GM.Accepted (meaning_of s) c (meaning_of t)
  fine c t h x = record { fine = h; graph = x.graph; book = x.book; charges = x.charges; capacity = x.capacity; fixed = x.fixed; spare = x.spare; due = x.due; still = x.still; kept = x.kept }

  still : graph_of s ≡ prune s.book (graph_of s)
  unfolding graph_of
  still = sym (prune_prune s.book (raw_of s) (raw_sound s S K).distinct)

  quiet : (c : Call) → refusal (meaning_of s) c ≡ 0 → paid (headed_charges s.book) c ≡ 0 → graph_of s ≡ after s.book (graph_of s) c → GM.Accepted (meaning_of s) c (meaning_of s)
  quiet c h p g = record { fine = h; graph = g; book = refl; charges = refl; capacity = refl; fixed = refl; spare = ap (λ n. s.spare + n) p ∙ plus s.spare; due = omega arith; still = λ z. z; kept = omega arith }
    where
      plus : (n : ℕ) → n + 0 ≡ n
      plus n = omega arith

  abbrev pub Stands : Call → Type 0
  Stands c = Whole (words_after s c) × Called (meaning_of s) c (gave (words_answer s c)) (meaning_of (words_after s c))

  read_stands : (a i : ℕ) → refusal (meaning_of s) (read a i) ≡ 0 → Stands (read a i)
  unfolding after
  read_stands a i h =
      let p = allowed (read a i) h in
      (W, (sym (words_stand.read s W a i (meets a i false p.0 p.1)), quiet (read a i) h refl still))

  look_stands : (a : ℕ) → refusal (meaning_of s) (look a) ≡ 0 → Stands (look a)
  unfolding after
  look_stands a h =
      let l : a < s.count = count_below a (allowed (look a) h) in (
        W,
        (
          ⊎_elim
              (λ e. cond-true (eqb (get_or s.slots a 0) 0) (known 0 0) (known (number s (held_at s a)) (kind_at s (held_at s a))) (eq-eqb (get_or s.slots a 0) 0 e) ∙ sym (words_stand.look_empty s W a l e))
              (λ ne. cond-false (eqb (get_or s.slots a 0) 0) (known 0 0) (known (number s (held_at s a)) (kind_at s (held_at s a))) (ne_eqb (get_or s.slots a 0) 0 ne) ∙ sym (words_stand.look s W a l (omega arith)))
              (cases_eq (get_or s.slots a 0) 0),
          quiet (look a) h refl still,
        ),
      )

  make_stands : (a k : ℕ) → length s.book ≤ 16 → refusal (meaning_of s) (make a k) ≡ 0 → Stands (make a k)
  make_stands a k few h =
      let f = fitting a k h in
      let kk = f.kind in
      let x = make_accepted s S K a k (omega arith) kk f.charge f.slot in
      (x.0, (ap word (sym graph_next), fine (make a k) (words_after s (make a k)) h x.1))

  spare_stands : Stands spare
  unfolding after
  spare_stands = (W, (refl, quiet spare refl refl still))

  -- The calls stand.
  pub stands : length s.book ≤ 16 → (c : Call) → refusal (meaning_of s) c ≡ 0 → Stands c
  stands few (make a k) h = make_stands a k few h
  stands few (read a i) h = read_stands a i h
  stands few (write a i v) h =
      let p = allowed (write a i v) h in
      let m = meets a i false p.0 p.1 in
      let x = words_stand.write s W a i v m in
      (x.0, (refl, fine (write a i v) (words_after s (write a i v)) h x.1))
  stands few (follow a i b) h =
      let p = allowed (follow a i b) h in
      let m = meets a i true p.0 p.2 in
      let x = words_stand.follow s W a i b m (count_below b p.1) in
      (x.0, (refl, fine (follow a i b) (words_after s (follow a i b)) h x.1))
  stands few (link a i b) h =
      let p = allowed (link a i b) h in
      let m = meets a i true p.0 p.2 in
      let x = words_stand.link s W a i b m (count_below b p.1) in
      (x.0, (refl, fine (link a i b) (words_after s (link a i b)) h x.1))
  stands few (hold a b) h =
      let p = allowed (hold a b) h in
      let x = words_stand.hold s W a b (count_below a p.0) (count_below b p.1) in
      (x.0, (refl, fine (hold a b) (words_after s (hold a b)) h x.1))
  stands few (drop a) h =
      let x = words_stand.drop s W a (count_below a (allowed (drop a) h)) in
      (x.0, (refl, fine (drop a) (words_after s (drop a)) h x.1))
  stands few (look a) h = look_stands a h
  stands few spare h = spare_stands
