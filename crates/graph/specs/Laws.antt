-- The laws of the graph, in its own words, and worked examples.
use Rattle.std.specs.Prelude.{◌≡◌, ℕ, ◌+◌, ◌≤◌, true, ◌⊎◌, List, [], ◌∷◌, replicate}
use Rattle.kinds.specs.Shapes.{Shape}
use Rattle.graph.specs.Graph.{Record, Graph, ◌∈◌, Reached, reached, prune}
use Rattle.graph.specs.Calls.{Call, Makes, make, write, follow, link, drop, refusal_in, after, total, live, paid}
use Rattle.graph.specs.Sound.{Distinct, Sound, Same, Canonical}

-- A graph with S empty slots and no records.
abbrev pub empty : ℕ → ℕ → Graph
empty S first = record { slots = replicate S 0; next = first; records = [] }

-- For every book and all charges and spares. `stays`, `reaches` and `rises` speak of a call that is not refused, on a canonical graph;
-- the others speak of any graph, of sound lists of records, or of the empty graph.
pub record Laws : Type 0 where
  -- the test of being reached decides the relation
  pub decided : (book : List Shape) (g : Graph) (n : ℕ) → (reached book g n ≡ true → Reached book g n) × (Reached book g n → reached book g n ≡ true)
  -- the canonical graph has just the records that are reached
  pub keeps : (book : List Shape) (g : Graph) (r : Record) → (r ∈ (prune book g).records → (r ∈ g.records) × Reached book g r.number) × (r ∈ g.records → Reached book g r.number → r ∈ (prune book g).records)
  -- lists of records that agree on what is reached have one canonical graph, which is one
  pub one : (book : List Shape) (g h : Graph) → Sound book g → Sound book h → Same book g h → prune book g ≡ prune book h
  pub canonical : (book : List Shape) (g : Graph) → Sound book g → Canonical book (prune book g)
  -- an empty graph is canonical, and a call leaves a canonical graph: numbers are distinct, in order, and below the next number
  pub opens : (book : List Shape) (S first : ℕ) → 1 ≤ first → Canonical book (empty S first)
  pub stays : (book : List Shape) (charges : List ℕ) (left : ℕ) (g : Graph) (c : Call) → Canonical book g → refusal_in book charges left g c ≡ 0 → Canonical book (after book g c)
  -- a call never makes an unreached record reached, but for the new one of a make
  pub reaches : (book : List Shape) (charges : List ℕ) (left : ℕ) (g : Graph) (c : Call) → Canonical book g → refusal_in book charges left g c ≡ 0 → (n : ℕ) → Reached book (after book g c) n → Reached book g n ⊎ (Makes c × (n ≡ g.next))
  -- live words rise only by a make, and then by at most the charge; garbage does not count
  pub rises : (book : List Shape) (charges : List ℕ) (left : ℕ) (g : Graph) (c : Call) → Canonical book g → refusal_in book charges left g c ≡ 0 → live book charges (after book g c) ≤ live book charges g + paid charges c
  -- live words are the charges of any list that has each reached record once
  pub weighs : (book : List Shape) (charges : List ℕ) (g : Graph) (rs : List Record) → Sound book g → Distinct rs → ((r : Record) → r ∈ rs → (r ∈ g.records) × Reached book g r.number) → ((r : Record) → r ∈ g.records → Reached book g r.number → r ∈ rs) → live book charges g ≡ total charges rs
  pub counts : (book : List Shape) (charges : List ℕ) (g : Graph) → Sound book g → live book charges (prune book g) ≡ live book charges g

-- Calls one after another, none refused.
abbrev pub run : List Shape → Graph → List Call → Graph
run book g [] = g
run book g (c ∷ cs) = run book (after book g c) cs

abbrev pub two_kinds : List Shape
two_kinds = record { fields = 2; runs = [] } ∷ record { fields = 3; runs = (1, 2) ∷ [] } ∷ []

pub record Examples : Type 0 where
  pub chain : run two_kinds (empty 2 1) (make 0 1 ∷ write 0 0 7 ∷ make 1 0 ∷ link 0 1 1 ∷ drop 1 ∷ follow 0 1 1 ∷ []) ≡ record { slots = 1 ∷ 2 ∷ []; next = 3; records = record { number = 1; kind = 1; fields = 7 ∷ 2 ∷ 0 ∷ [] } ∷ record { number = 2; kind = 0; fields = 0 ∷ 0 ∷ [] } ∷ [] }
  pub ring : run two_kinds (empty 2 1) (make 0 1 ∷ link 0 1 0 ∷ drop 0 ∷ []) ≡ record { slots = 0 ∷ 0 ∷ []; next = 2; records = [] }
