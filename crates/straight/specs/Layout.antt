-- How the straight heap's words are read: the records one after another, and the graph that they mean.
use Rattle.std.specs.Prelude.{ℕ, zero, suc, ◌+◌, ◌-◌, cond, List, [], ◌∷◌, map, take, ◌==◌, nat_lt, slice_index}
use Rattle.kinds.specs.Shapes.{Shape}
use Rattle.graph.specs.Graph.{Graph, size, refers, prune}
use Rattle.graph.specs.View.{View, raw}
use Rattle.graph.specs.Meaning.{Meaning, headed_charges}
use Rattle.straight.specs.Words.{State}

-- The words of the record at p.
unfoldable pub span : List Shape → List ℕ → ℕ → ℕ
span book mem p = 2 + size book (slice_index mem (p + 1))

-- The addresses of the records from p up to the top, in at most so many steps, and where they end.
unfoldable pub starts : List Shape → List ℕ → ℕ → ℕ → ℕ → List ℕ
starts book mem zero top p = []
starts book mem (suc f) top p = cond (nat_lt p top) (p ∷ starts book mem f top (p + span book mem p)) []

unfoldable pub end_of : List Shape → List ℕ → ℕ → List ℕ → ℕ
end_of book mem p [] = p
end_of book mem p (q ∷ qs) = end_of book mem (p + span book mem p) qs

abbrev pub places : List Shape → List ℕ → ℕ → List ℕ
places book mem top = starts book mem top top 0

-- The number of the record that a reference leads to, or 0; a field as the graph has it.
abbrev pub name : List ℕ → ℕ → ℕ
name mem x = cond (x == 0) 0 (slice_index mem (x - 1))

abbrev pub shown : List Shape → List ℕ → ℕ → ℕ → ℕ
shown book mem p i = cond (refers book (slice_index mem (p + 1)) i) (name mem (slice_index mem (p + 2 + i))) (slice_index mem (p + 2 + i))

unfoldable pub view : List Shape → List ℕ → ℕ → View
view book mem top = record { places = places book mem top; number = λ p. slice_index mem p; kind = λ p. slice_index mem (p + 1); shown = shown book mem }

-- The slots by the numbers that they hold.
abbrev pub names : State → List ℕ
names s = map (name s.memory) (take s.count s.slots)

abbrev pub raw_of : State → Graph
raw_of s = raw s.book (view s.book s.memory s.top) (names s) s.next

-- The meaning: capacity is the room; a charge is 2 + fields; due and kept are 0, and one fixed step stands where none is ever made.
abbrev pub meaning_of : State → Meaning
meaning_of s = record { graph = prune s.book (raw_of s); book = s.book; charges = headed_charges s.book; capacity = s.room; fixed = 1; spare = s.room - s.top; due = 0; kept = 0 }
