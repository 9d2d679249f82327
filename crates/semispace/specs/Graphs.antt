-- The graph of a state, and the whole invariant.
use Rattle.std.specs.Prelude.{◌≡◌, ℕ, ◌+◌, ◌<◌, Bool, true, false, map, length, take, nat_eq}
use Rattle.std.specs.List.{range_with_len}
use Rattle.graph.specs.Graph.{Record, Graph, prune}
use Rattle.semispace.specs.Layout.{mem}
use Rattle.semispace.specs.Reach.{some}
use Rattle.semispace.specs.Words.{State, kind_at, place_of, word_at, fields_at, resting}
use Rattle.semispace.specs.Sound.{the_olds, the_places, number, name, shown, Sound}
use Rattle.semispace.specs.Dues.{objects}

-- The record at a, as calls see it; all records, garbage included; and the graph.
unfoldable pub record_of : State → ℕ → Record
record_of s a = record { number = number s a; kind = kind_at s a; fields = map (shown s a) (range_with_len 0 (fields_at s a)) }

unfoldable pub raw_of : State → Graph
raw_of s = record { slots = map (name s) (take s.count s.slots); next = s.next; records = map (record_of s) (objects s) }

unfoldable pub graph_of : State → Graph
graph_of s = prune s.book (raw_of s)

-- Has the place at p an old record?
unfoldable pub has_source : State → ℕ → Bool
has_source s p = some (λ o. nat_eq (place_of s o) (p + 1)) (the_olds s)

-- The old record of a place.
pub record Sourced (s : State) (p : ℕ) : Type 0 where
  pub from : ℕ
  pub old : mem from (the_olds s) ≡ true
  pub place : place_of s from ≡ p + 1

-- What besides holds of the records: numbers apart and given out before, kinds of the book, and no place without an old record.
pub record Known (s : State) : Type 0 where
  pub first : 0 < s.count → 0 < s.next
  pub apart : (a b : ℕ) → mem a (objects s) ≡ true → mem b (objects s) ≡ true → word_at s a ≡ word_at s b → a ≡ b
  pub given : (a : ℕ) → mem a (objects s) ≡ true → (0 < word_at s a) × (word_at s a < s.next)
  pub kinds : (a : ℕ) → mem a (objects s) ≡ true → kind_at s a < length s.book
  pub sourced : resting s.collector ≡ false → (p : ℕ) → mem p (the_places s) ≡ true → has_source s p ≡ true

-- The whole invariant.
pub record Whole (s : State) : Type 0 where
  pub sound : Sound s
  pub known : Known s
