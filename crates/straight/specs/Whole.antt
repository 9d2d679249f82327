-- What holds of the straight heap's words between any two calls.
use Rattle.std.specs.Prelude.{◌≡◌, ℕ, ◌+◌, ◌-◌, ◌<◌, ◌≤◌, Bool, true, List, length, nat_eq, slice_index}
use Rattle.kinds.specs.Shapes.{Shape}
use Rattle.graph.specs.Graph.{size, refers, any, ◌∈◌}
use Rattle.straight.specs.Words.{State, reference}
use Rattle.straight.specs.Layout.{end_of, places}

-- Is x among the numbers of a list?
abbrev pub among : ℕ → List ℕ → Bool
among x xs = any (λ y. nat_eq y x) xs

-- A reference is empty or leads to a record of the list.
abbrev pub Leads : List ℕ → ℕ → Type 0
Leads ps x = 0 < x → among (x - 1) ps ≡ true

-- The records: their kinds are in the book, their numbers apart and given out before, and their references lead to records.
pub record Records (book : List Shape) (mem : List ℕ) (ps : List ℕ) (next : ℕ) : Type 0 where
  pub kinds : (p : ℕ) → p ∈ ps → slice_index mem (p + 1) < length book
  pub given : (p : ℕ) → p ∈ ps → (0 < slice_index mem p) × (slice_index mem p < next)
  pub apart : (p q : ℕ) → p ∈ ps → q ∈ ps → slice_index mem p ≡ slice_index mem q → p ≡ q
  pub fields : (p : ℕ) → p ∈ ps → (i : ℕ) → i < size book (slice_index mem (p + 1)) → refers book (slice_index mem (p + 1)) i ≡ true → Leads ps (slice_index mem (p + 2 + i))

pub record Whole (s : State) : Type 0 where
  pub few : s.count ≤ 64
  pub array : s.count ≤ length s.slots
  pub inside : s.top ≤ s.room
  pub fits : s.room ≤ length s.memory
  pub small : s.room ≤ 16384
  pub numbers : s.next ≤ 4294967296
  pub first : 0 < s.count → 0 < s.next
  pub kinds : length s.book ≤ 16
  pub laid : end_of s.book s.memory 0 (places s.book s.memory s.top) ≡ s.top
  pub records : Records s.book s.memory (places s.book s.memory s.top) s.next
  pub slots : (a : ℕ) → a < s.count → Leads (places s.book s.memory s.top) (reference s a)
