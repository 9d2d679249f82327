-- The steps of a collected heap: what each of them, and an idle of many, leaves of the meaning.
use Rattle.std.specs.Prelude.{◌≡◌, ℕ, suc, ◌+◌, ◌-◌, ◌<◌, ◌≤◌, Bool, true, false}
use Rattle.graph.specs.Meaning.{Meaning, live_words}

-- The words in use.
abbrev pub in_use : Meaning → ℕ
in_use m = m.capacity - m.spare

-- One step. At rest (due is 0) it is a start: with V the live words then, it leaves due at most F + V - 1 and kept at most V.
-- Any other lowers due and does not raise kept. Where due comes to 0 the cycle ends, and the words in use are at most kept.
pub record Step (m n : Meaning) : Type 0 where
  pub graph : n.graph ≡ m.graph
  pub book : n.book ≡ m.book
  pub charges : n.charges ≡ m.charges
  pub capacity : n.capacity ≡ m.capacity
  pub fixed : n.fixed ≡ m.fixed
  pub spare : m.spare ≤ n.spare
  pub bound : n.spare ≤ n.capacity
  pub start : m.due ≡ 0 → (n.due + 1 ≤ m.fixed + live_words m) × (n.kept ≤ live_words m)
  pub other : 0 < m.due → (n.due < m.due) × (n.kept ≤ m.kept)
  pub end : n.due ≡ 0 → in_use n ≤ n.kept

-- An idle of `count` steps: it makes them all, but stops with the step that ends a cycle. It tells the steps made and whether a cycle ended.
pub data Idled : Meaning → ℕ → ℕ → Bool → Meaning → Type 0 where
  stop : {m : Meaning} → Idled m 0 0 false m
  last : {m n : Meaning} {count : ℕ} → Step m n → n.due ≡ 0 → Idled m (suc count) 1 true n
  more : {m n o : Meaning} {count made : ℕ} {ended : Bool} → Step m n → 0 < n.due → Idled n count made ended o → Idled m (suc count) (suc made) ended o
