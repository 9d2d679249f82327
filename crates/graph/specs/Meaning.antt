-- What a heap means, and what a call on it answers and leaves.
use Rattle.std.specs.Prelude.{◌≡◌, ℕ, ◌+◌, ◌<◌, ◌≤◌, List, [], map, length, replicate}
use Rattle.kinds.specs.Shapes.{Shape}
use Rattle.graph.specs.Graph.{Graph}
use Rattle.graph.specs.Calls.{Call, Answer, refusal_in, answer_in, after, paid, live}

-- The meaning of a heap as one value: the graph; the book, a list of kinds; the charge of each kind in words;
-- the capacity K in words; the fixed steps F of a cycle; the spare words; due, at most so many steps are left of the
-- cycle that is open, and 0 at rest; kept, at most so many words are in use when it ends. Due and kept are 0 in a heap that is not collected.
pub record Meaning : Type 0 where
  pub graph : Graph
  pub book : List Shape
  pub charges : List ℕ
  pub capacity : ℕ
  pub fixed : ℕ
  pub spare : ℕ
  pub due : ℕ
  pub kept : ℕ

-- What holds of every heap's numbers.
pub record Bounded (m : Meaning) : Type 0 where
  pub capacity : m.capacity ≤ 65535
  pub fixed_some : 1 ≤ m.fixed
  pub fixed : m.fixed ≤ 65535
  pub spare : m.spare ≤ m.capacity

-- The number with which a call is refused, or 0; what it answers if it is not; the live words.
abbrev pub refusal : Meaning → Call → ℕ
refusal m c = refusal_in m.book m.charges m.spare m.graph c

abbrev pub answer : Meaning → Call → Answer
answer m c = answer_in m.spare m.graph c

abbrev pub live_words : Meaning → ℕ
live_words m = live m.book m.charges m.graph

-- What a call gave: an answer, or a refusal's number.
pub data Reply : Type 0 where
  gave : Answer → Reply
  refused : ℕ → Reply

-- What an accepted call leaves.
pub record Accepted (m : Meaning) (c : Call) (n : Meaning) : Type 0 where
  pub fine : refusal m c ≡ 0
  pub graph : n.graph ≡ after m.book m.graph c
  pub book : n.book ≡ m.book
  pub charges : n.charges ≡ m.charges
  pub capacity : n.capacity ≡ m.capacity
  pub fixed : n.fixed ≡ m.fixed
  pub spare : n.spare + paid m.charges c ≡ m.spare
  pub due : n.due ≤ m.due
  pub still : 0 < m.due → 0 < n.due
  pub kept : n.kept ≤ m.kept + paid m.charges c

-- A call: from the meaning m it gave the reply and left the meaning n. A refusal has the table's number and leaves everything.
abbrev pub Called : Meaning → Call → Reply → Meaning → Type 0
Called m c (gave x) n = (x ≡ answer m c) × Accepted m c n
Called m c (refused k) n = (refusal m c ≡ k) × (0 < k) × (n ≡ m)

-- A heap just opened with a first number: every slot empty, no records, the next number is the first, nothing used, at rest.
pub record Opened (first : ℕ) (m : Meaning) : Type 0 where
  pub slots : m.graph.slots ≡ replicate (length m.graph.slots) 0
  pub records : m.graph.records ≡ []
  pub next : m.graph.next ≡ first
  pub spare : m.spare ≡ m.capacity
  pub due : m.due ≡ 0

-- The charge of a kind in a heap that keeps number and kind in two words before the fields.
abbrev pub headed_charges : List Shape → List ℕ
headed_charges book = map (λ k. 2 + k.fields) book
