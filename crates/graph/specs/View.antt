-- How a heap's words are read as a list of records: by the addresses at which records lie, and by what stands there.
use Rattle.std.specs.Prelude.{◌≡◌, ℕ, ◌<◌, true, ◌⊎◌, List, [], ◌∷◌, map, length, ◌≢◌, slice_index}
use Rattle.std.specs.List.{range_with_len}
use Rattle.kinds.specs.Shapes.{Shape}
use Rattle.graph.specs.Graph.{Record, Graph, ◌∈◌, size, refers}

-- The addresses of the records; of each its number and kind, and its fields as the graph has them:
-- a reference field shows the number of the record that it names, or 0.
pub record View : Type 0 where
  pub places : List ℕ
  pub number : ℕ → ℕ
  pub kind : ℕ → ℕ
  pub shown : ℕ → ℕ → ℕ

abbrev pub record_at : List Shape → View → ℕ → Record
record_at book v p = record { number = v.number p; kind = v.kind p; fields = map (v.shown p) (range_with_len 0 (size book (v.kind p))) }

-- The list of records that a view shows, garbage included; slots by the numbers that they hold.
unfoldable pub raw : List Shape → View → List ℕ → ℕ → Graph
raw book v slots next = record { slots = slots; next = next; records = map (record_at book v) v.places }

abbrev pub Once : List ℕ → Type 0
Once [] = Unit {0}
Once (p ∷ ps) = (p ∈ ps → ⊥) × Once ps

-- Some record has the number n.
abbrev pub Found : View → ℕ → Type 0
Found v n = (p : ℕ) × (p ∈ v.places) × (v.number p ≡ n)

-- What a heap keeps of its view.
pub record Placed (book : List Shape) (v : View) (slots : List ℕ) (next : ℕ) : Type 0 where
  pub once : Once v.places
  pub first : 0 < length slots → 0 < next
  pub kinds : (p : ℕ) → p ∈ v.places → v.kind p < length book
  pub given : (p : ℕ) → p ∈ v.places → (0 < v.number p) × (v.number p < next)
  pub apart : (p q : ℕ) → p ∈ v.places → q ∈ v.places → v.number p ≡ v.number q → p ≡ q
  pub from_slots : (a : ℕ) → a < length slots → 0 < slice_index slots a → Found v (slice_index slots a)
  pub from_fields : (p : ℕ) → p ∈ v.places → (i : ℕ) → i < size book (v.kind p) → refers book (v.kind p) i ≡ true → 0 < v.shown p i → Found v (v.shown p i)

-- The one difference is field i of the record at p, which shows w.
pub record Wrote (book : List Shape) (v v' : View) (p i w : ℕ) : Type 0 where
  pub places : v'.places ≡ v.places
  pub number : (q : ℕ) → q ∈ v.places → v'.number q ≡ v.number q
  pub kind : (q : ℕ) → q ∈ v.places → v'.kind q ≡ v.kind q
  pub here : v'.shown p i ≡ w
  pub other : (q j : ℕ) → q ∈ v.places → j < size book (v.kind q) → (q ≡ p → j ≢ i) → v'.shown q j ≡ v.shown q j

-- The one difference is a new record of kind k at p, numbered n, with nothing in its fields.
pub record Made (book : List Shape) (v v' : View) (p k n : ℕ) : Type 0 where
  pub into : (q : ℕ) → q ∈ v'.places → (q ≡ p) ⊎ (q ∈ v.places)
  pub new : p ∈ v'.places
  pub old : (q : ℕ) → q ∈ v.places → q ∈ v'.places
  pub once : Once v'.places
  pub number : (q : ℕ) → q ∈ v.places → v'.number q ≡ v.number q
  pub kind : (q : ℕ) → q ∈ v.places → v'.kind q ≡ v.kind q
  pub shown : (q j : ℕ) → q ∈ v.places → j < size book (v.kind q) → v'.shown q j ≡ v.shown q j
  pub numbered : v'.number p ≡ n
  pub kinded : v'.kind p ≡ k
  pub empty : (j : ℕ) → j < size book k → v'.shown p j ≡ 0
