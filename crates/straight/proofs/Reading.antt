-- What the words of a whole state show: its view is placed, its slots and records are those of the graph.
use Rattle.std.proofs.Common.{◌≡◌, ℕ, ◌+◌, ◌-◌, ◌<◌, ◌≤◌, true, eqb, List, [], ◌∷◌, length, get_or, take, sym, refl, ap, ◌∙◌, subst, arith}
use Rattle.std.proofs.lemmas.Bool.{eqb-true, eq-eqb, cond-true, false≢true}
use Rattle.std.proofs.lemmas.List.{length-take-le}
use Rattle.graph.specs.Graph.{Record, ◌∈◌, size, refers}
use Rattle.graph.specs.Calls.{no_record, slot, held}
use Rattle.graph.specs.Sound.{Sound}
use Rattle.graph.specs.View.{View, record_at, Found, Placed}
use Rattle.graph.proofs.Reach.{any_found, any_from}
use Rattle.graph.proofs.Prune.{prune_slots, prune_next}
use Rattle.graph.proofs.Changes.{find_none, held_prune}
use Rattle.graph.proofs.Views.{placed_sound, held_at, raw_slots, raw_next}
use Rattle.straight.specs.Words.{State, reference, place, word_at}
use Rattle.straight.specs.Layout.{places, name, shown, view, names, raw_of, meaning_of}
use Rattle.straight.specs.Whole.{Whole, Leads, among}
use Rattle.straight.proofs.Walk.{laid_once, place_below}
use Rattle.std.proofs.lemmas.Grind.{common_steps}

-- membership as a test
pub among_in : (x : ℕ) (xs : List ℕ) → among x xs ≡ true → x ∈ xs
among_in x [] h = absurd (false≢true h)
among_in x (y ∷ ys) h = let t = any_found (λ (z : ℕ). eqb z x) (y ∷ ys) h in subst (λ z. z ∈ (y ∷ ys)) (eqb-true t.0 x t.2) t.1

pub in_among : (x : ℕ) (xs : List ℕ) → x ∈ xs → among x xs ≡ true
in_among x xs i = any_from (λ (z : ℕ). eqb z x) xs x i (eq-eqb x x refl)

-- the name of a reference
pub name_full : (mem : List ℕ) (x : ℕ) → 0 < x → name mem x ≡ get_or mem (x - 1) 0
name_full mem x z = grind (arith, common_steps)

pub name_some : (mem : List ℕ) (x : ℕ) → 0 < name mem x → 0 < x
name_some mem x = grind (arith, common_steps)

module _ (s : State) (w : Whole s) where
  abbrev pub ps : List ℕ
  ps = places s.book s.memory s.top

  abbrev pub vw : View
  vw = view s.book s.memory s.top

  pub taken_length : length (take s.count s.slots) ≡ s.count
  taken_length = length-take-le s.count s.slots w.array

  pub names_length : length (names s) ≡ s.count
  names_length = grind (arith, common_steps)

  pub slot_name : (a : ℕ) → a < s.count → get_or (names s) a 0 ≡ name s.memory (reference s a)
  slot_name a l = grind (arith, common_steps)

  -- a reference that leads to a record, and shows n
  found : (x : ℕ) → Leads ps x → 0 < name s.memory x → Found vw (name s.memory x)
  unfolding view
  found x f z =
      let y : 0 < x = name_some s.memory x z in
      (x - 1, among_in (x - 1) ps (f y), sym (name_full s.memory x y))

  pub placed_view : Placed s.book vw (names s) s.next
  unfolding view
  placed_view =
      record {
        once = laid_once s.book s.memory s.top w.laid;
        first = λ l. w.first (subst (λ n. 0 < n) names_length l);
        kinds = w.records.kinds;
        given = w.records.given;
        apart = w.records.apart;
        from_slots = λ a l z.
            let k : a < s.count = subst (λ n. a < n) names_length l in
            subst (Found vw) (sym (slot_name a k)) (found (reference s a) (w.slots a k) (subst (λ n. 0 < n) (slot_name a k) z));
        from_fields = λ p i j l t z.
            let x = get_or s.memory (p + 2 + j) 0 in
            let e : shown s.book s.memory p j ≡ name s.memory x = cond-true (refers s.book (get_or s.memory (p + 1) 0) j) (name s.memory x) x t in
            subst (Found vw) (sym e) (found x (w.records.fields p i j l t) (subst (λ n. 0 < n) e z));
      }

  pub sound : Sound s.book (raw_of s)
  sound = placed_sound s.book vw (names s) s.next placed_view

  -- slots of the list and of the graph
  pub raw_slot : (a : ℕ) → a < s.count → slot (raw_of s) a ≡ name s.memory (reference s a)
  raw_slot a l = ap (λ xs. get_or xs a 0) (raw_slots s.book vw (names s) s.next) ∙ slot_name a l

  pub graph_slot : (a : ℕ) → slot (meaning_of s).graph a ≡ slot (raw_of s) a
  graph_slot a = ap (λ xs. get_or xs a 0) (prune_slots s.book (raw_of s))

  pub graph_slots : length (meaning_of s).graph.slots ≡ s.count
  graph_slots = ap length (prune_slots s.book (raw_of s)) ∙ ap length (raw_slots s.book vw (names s) s.next) ∙ names_length

  pub graph_next : (meaning_of s).graph.next ≡ s.next
  graph_next = prune_next s.book (raw_of s) ∙ raw_next s.book vw (names s) s.next

  pub graph_held : (a : ℕ) → held (meaning_of s).graph a ≡ held (raw_of s) a
  graph_held a = rw prune_slots (held_prune s.book (raw_of s) sound a)

  -- the record that a slot holds
  pub slot_place : (a : ℕ) → a < s.count → 0 < reference s a → place s a ∈ ps
  slot_place a l z = among_in (place s a) ps (w.slots a l z)

  pub slot_number : (a : ℕ) → a < s.count → 0 < reference s a → get_or (names s) a 0 ≡ word_at s (place s a)
  slot_number a l z = grind (arith, common_steps)

  pub held_place : (a : ℕ) → a < s.count → 0 < reference s a → held (raw_of s) a ≡ record_at s.book vw (place s a)
  unfolding view
  held_place a l z = held_at s.book vw (names s) s.next placed_view a (place s a) (slot_place a l z) (slot_number a l z)

  pub held_kind : (a : ℕ) → a < s.count → 0 < reference s a → (held (raw_of s) a).kind ≡ word_at s (place s a + 1)
  unfolding view
  held_kind a l z = ap (λ (r : Record). r.kind) (held_place a l z)

  -- a full slot of the graph is full, an empty one empty
  pub slot_full : (a : ℕ) → a < s.count → 0 < reference s a → 0 < slot (raw_of s) a
  slot_full a l z =
      subst (λ n. 0 < n) (sym (raw_slot a l ∙ name_full s.memory (reference s a) z)) (w.records.given (place s a) (slot_place a l z)).0

  pub full_slot : (a : ℕ) → a < s.count → 0 < slot (raw_of s) a → 0 < reference s a
  full_slot a l z = name_some s.memory (reference s a) (subst (λ n. 0 < n) (raw_slot a l) z)

  pub slot_empty : (a : ℕ) → a < s.count → reference s a ≡ 0 → slot (raw_of s) a ≡ 0
  slot_empty a l e = raw_slot a l ∙ ap (name s.memory) e

  pub held_none : (a : ℕ) → a < s.count → reference s a ≡ 0 → held (raw_of s) a ≡ no_record
  held_none a l e =
      find_none (raw_of s).records (slot (raw_of s) a)
      (λ r i p. let g : 0 < r.number = (sound.given r i).0 in let z : slot (raw_of s) a ≡ 0 = slot_empty a l e in let y : 0 < 0 = subst (λ n. 0 < n) (p ∙ z) g in omega arith)

  -- the words that a record covers lie below the top
  pub fields_below : (a : ℕ) → a < s.count → 0 < reference s a → place s a + 2 + size s.book (word_at s (place s a + 1)) ≤ s.top
  fields_below a l z = place_below s.book s.memory s.top (place s a) w.laid (slot_place a l z)
