-- What holds of the lists of records from which graphs come, and what an accepted call may rely on.
use Rattle.std.specs.Prelude.{◌≡◌, ℕ, ◌<◌, Bool, true, false, List, [], ◌∷◌, length, ◌≢◌}
use Rattle.kinds.specs.Shapes.{Shape}
use Rattle.graph.specs.Graph.{Record, Graph, ◌∈◌, size, refers, Reached}
use Rattle.graph.specs.Calls.{Call, make, read, write, follow, link, hold, drop, look, spare, slot, held}

-- No two records have one number.
abbrev pub Distinct : List Record → Type 0
Distinct [] = Unit {0}
Distinct (r ∷ rs) = ((s : Record) → s ∈ rs → r.number ≢ s.number) × Distinct rs

-- Each record's number is above those before it.
abbrev pub Rising : List Record → Type 0
Rising [] = Unit {0}
Rising (r ∷ rs) = ((s : Record) → s ∈ rs → r.number < s.number) × Rising rs

-- There is a record that is numbered n.
abbrev pub Has : List Record → ℕ → Type 0
Has rs n = (r : Record) × (r ∈ rs) × (r.number ≡ n)

-- A list of records, garbage included, that means a graph: numbers apart and given out before, kinds of the book,
-- and every number that is reached is a record's.
pub record Sound (book : List Shape) (g : Graph) : Type 0 where
  pub distinct : Distinct g.records
  pub given : (r : Record) → r ∈ g.records → (0 < r.number) × (r.number < g.next)
  pub shaped : (r : Record) → r ∈ g.records → (r.kind < length book) × (length r.fields ≡ size book r.kind)
  pub whole : (n : ℕ) → Reached book g n → Has g.records n
  pub first : 0 < length g.slots → 0 < g.next

-- Two lists of records that agree on what is reached: they mean one graph.
pub record Same (book : List Shape) (g h : Graph) : Type 0 where
  pub slots : g.slots ≡ h.slots
  pub next : g.next ≡ h.next
  pub there : (r : Record) → r ∈ g.records → Reached book g r.number → r ∈ h.records
  pub back : (r : Record) → r ∈ h.records → Reached book g r.number → r ∈ g.records

-- What an accepted call finds: its slots are there, and so is its field, of the wanted sort.
abbrev pub Slot : Graph → ℕ → Type 0
Slot g a = a < length g.slots

pub record Field (book : List Shape) (g : Graph) (a i : ℕ) (reference : Bool) : Type 0 where
  pub full : 0 < slot g a
  pub below : i < size book (held g a).kind
  pub sort : refers book (held g a).kind i ≡ reference

abbrev pub Allowed : List Shape → Graph → Call → Type 0
Allowed book g (make a k) = Slot g a × (k < length book)
Allowed book g (read a i) = Slot g a × Field book g a i false
Allowed book g (write a i w) = Slot g a × Field book g a i false
Allowed book g (follow a i b) = Slot g a × Slot g b × Field book g a i true
Allowed book g (link a i b) = Slot g a × Slot g b × Field book g a i true
Allowed book g (hold a b) = Slot g a × Slot g b
Allowed book g (drop a) = Slot g a
Allowed book g (look a) = Slot g a
Allowed book g spare = Unit {0}

-- A canonical graph: its records are reached, one by one in the order of their numbers, which lie below the next number.
pub record Canonical (book : List Shape) (g : Graph) : Type 0 where
  pub sound : Sound book g
  pub rising : Rising g.records
  pub reached : (r : Record) → r ∈ g.records → Reached book g r.number
