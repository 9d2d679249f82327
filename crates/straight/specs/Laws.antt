-- The laws of the straight heap's words, over any heap before and after a call.
use Rattle.std.specs.Prelude.{◌≡◌, ℕ, ◌+◌, ◌≤◌, length, ◌≢◌}
use Rattle.graph.specs.Graph.{◌∈◌}
use Rattle.graph.specs.Calls.{Call, write, link}
use Rattle.graph.specs.Meaning.{Reply, Called}
use Rattle.straight.specs.declared.heap.Straight.{Straight}
use Rattle.straight.specs.Stored.{state}
use Rattle.straight.specs.Words.{State, spot, word_at, Acted}
use Rattle.straight.specs.Layout.{places, meaning_of}

-- The words and registers of a heap, and where its records lie.
abbrev pub words : Straight → State
words h = state h.store

abbrev pub records : Straight → ℕ → Type 0
records h p = p ∈ places (words h).book (words h).memory (words h).top

-- What every call promises: from the heap h it gave the reply r and left the heap k.
pub record Promised (h : Straight) (c : Call) (r : Reply) (k : Straight) : Type 0 where
  pub means : Called (meaning_of (words h)) c r (meaning_of (words k))
  pub acts : Acted (words h) c r (words k)

pub record StraightLaws : Type 0 where
  -- memory stays as long as it was, and no word at or past the capacity changes
  pub long : (h k : Straight) (c : Call) (r : Reply) → Promised h c r k → length (words k).memory ≡ length (words h).memory
  pub outside : (h k : Straight) (c : Call) (r : Reply) → Promised h c r k → (p : ℕ) → (words h).room ≤ p → word_at (words k) p ≡ word_at (words h) p
  -- a write and a link change one word
  pub write_one : (h k : Straight) (a i w : ℕ) (r : Reply) → Promised h (write a i w) r k → (p : ℕ) → (p ≢ spot (words h) a i) → word_at (words k) p ≡ word_at (words h) p
  pub link_one : (h k : Straight) (a i b : ℕ) (r : Reply) → Promised h (link a i b) r k → (p : ℕ) → (p ≢ spot (words h) a i) → word_at (words k) p ≡ word_at (words h) p
  -- nothing is freed or moved: a record stays at its address, with its number and its kind
  pub stays : (h k : Straight) (c : Call) (r : Reply) → Promised h c r k → (p : ℕ) → records h p → records k p × (word_at (words k) p ≡ word_at (words h) p) × (word_at (words k) (p + 1) ≡ word_at (words h) (p + 1))
  -- a heap without slots, as after a bad opening, keeps every word and register
  pub none : (h k : Straight) (c : Call) (r : Reply) → Promised h c r k → (words h).count ≡ 0 → words k ≡ words h
