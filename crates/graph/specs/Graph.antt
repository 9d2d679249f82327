-- The abstract graph of linked records: what is reached in it, and its canonical form.
use Rattle.std.specs.Prelude.{◌≡◌, ℕ, suc, ◌<◌, Bool, true, false, cond, ◌&&◌, ◌||◌, ◌⊎◌, List, [], ◌∷◌, map, length, ◌==◌, nat_le, nat_lt, slice_index, slice_index_or}
use Rattle.kinds.specs.Shapes.{Shape, no_shape, within}

-- A record: its number, its kind, and its fields. A reference field holds the number of the record that it names,
-- or 0 where it is empty; no record has the number 0.
pub record Record : Type 0 where
  pub number : ℕ
  pub kind : ℕ
  pub fields : List ℕ

-- A graph: what each slot holds (a number, or 0 where it is empty), the number that the next record gets, and the records.
pub record Graph : Type 0 where
  pub slots : List ℕ
  pub next : ℕ
  pub records : List Record

infix 45 ◌∈◌
abbrev pub ◌∈◌ : {X : Type 0} → X → List X → Type 0
x ∈ [] = ⊥
x ∈ (y ∷ ys) = (x ≡ y) ⊎ (x ∈ ys)

-- How many fields the records of kind k have, and which of them are references.
abbrev pub size : List Shape → ℕ → ℕ
size book k = (slice_index_or book k no_shape).fields

abbrev pub refers : List Shape → ℕ → ℕ → Bool
refers book k i = within (slice_index_or book k no_shape).runs i

-- A reference field of r holds n.
pub record Names (book : List Shape) (r : Record) (n : ℕ) : Type 0 where
  pub place : ℕ
  pub below : place < length r.fields
  pub reference : refers book r.kind place ≡ true
  pub is : slice_index_or r.fields place 0 ≡ n

-- A record is reached if a slot or a reference field of a reached record holds it.
pub data Reached (book : List Shape) (g : Graph) : ℕ → Type 0 where
  by_slot : {n : ℕ} (a : ℕ) → a < length g.slots → slice_index g.slots a ≡ n → 0 < n → Reached book g n
  by_field : {n : ℕ} (r : Record) → r ∈ g.records → Reached book g r.number → Names book r n → 0 < n → Reached book g n

-- The same as a test. `path e ms i j`: from i to j along edges of e, with only numbers of ms between.
abbrev pub any : {X : Type 0} → (X → Bool) → List X → Bool
any p [] = false
any p (x ∷ xs) = p x || any p xs

abbrev pub holds : (ℕ → Bool) → List ℕ → ℕ → Bool
holds at [] n = false
holds at (x ∷ xs) n = (at 0 && x == n) || holds (λ i. at (suc i)) xs n

abbrev pub names : List Shape → Record → ℕ → Bool
names book r n = holds (refers book r.kind) r.fields n

unfoldable pub edge : List Shape → List Record → ℕ → ℕ → Bool
edge book rs i j = nat_lt 0 j && any (λ r. (r.number == i) && names book r j) rs

unfoldable pub path : (ℕ → ℕ → Bool) → List ℕ → ℕ → ℕ → Bool
path e [] i j = e i j
path e (m ∷ ms) i j = path e ms i j || (path e ms i m && path e ms m j)

abbrev pub number : Record → ℕ
number r = r.number

unfoldable pub reached : List Shape → Graph → ℕ → Bool
reached book g n = any (λ s. nat_lt 0 s && (s == n || path (edge book g.records) (map number g.records) s n)) g.slots

-- Records in the order of their numbers.
abbrev pub insert : Record → List Record → List Record
insert r [] = r ∷ []
insert r (s ∷ ss) = cond (nat_le r.number s.number) (r ∷ s ∷ ss) (s ∷ insert r ss)

unfoldable pub sort : List Record → List Record
sort [] = []
sort (r ∷ rs) = insert r (sort rs)

-- The records that pass a test.
abbrev pub select : (Record → Bool) → List Record → List Record
select p [] = []
select p (r ∷ rs) = cond (p r) (r ∷ select p rs) (select p rs)

-- The canonical graph: the reached records alone, in the order of their numbers.
unfoldable pub prune : List Shape → Graph → Graph
prune book g = record { slots = g.slots; next = g.next; records = sort (select (λ r. reached book g r.number) g.records) }
