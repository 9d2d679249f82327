-- The laws of the copying heap's words.
use Rattle.std.specs.Prelude.{◌≡◌, ℕ, ◌+◌, ◌<◌, ◌≤◌, Bool, true, false, length, slice_index}
use Rattle.graph.specs.Calls as GC
use Rattle.graph.specs.Cycle.{Step, Idled}
use Rattle.semispace.specs.Words.{State, fields_of, fields_at, kind_at, refers, stepped, idle_made, idle_ended, idle_state}
use Rattle.semispace.specs.Sound.{value, number}
use Rattle.semispace.specs.Graphs.{Whole, graph_of}
use Rattle.semispace.specs.Collected.{Accepted, meaning_of}
use Rattle.semispace.specs.Callings.{held_at, dropped, holding, followed, wrote, linked, made_in}

-- Field i of slot a's record is there, and is a reference or not.
pub record Meets (s : State) (a i : ℕ) (test : Bool) : Type 0 where
  pub slot : a < s.count
  pub full : 0 < slice_index s.slots a
  pub below : i < fields_at s (held_at s a)
  pub fits : refers s.book (kind_at s (held_at s a)) i ≡ test

abbrev pub Leaves : State → GC.Call → State → Type 0
Leaves s c t = Whole t × Accepted (meaning_of s) c (meaning_of t)

-- Steps and calls of the copying heap, at the level of words.
pub record Stands : Type 0 where
  pub step : (s : State) → Whole s → Whole (stepped s) × Step (meaning_of s) (meaning_of (stepped s))
  pub idle : (n : ℕ) (s : State) → Whole s → Idled (meaning_of s) n (idle_made n s) (idle_ended n s) (meaning_of (idle_state n s))
  pub hold : (s : State) → Whole s → (a b : ℕ) → a < s.count → b < s.count → Leaves s (GC.hold a b) (holding s a b)
  pub drop : (s : State) → Whole s → (a : ℕ) → a < s.count → Leaves s (GC.drop a) (dropped s a)
  pub follow : (s : State) → Whole s → (a i b : ℕ) → Meets s a i true → b < s.count → Leaves s (GC.follow a i b) (followed s a i b)
  pub write : (s : State) → Whole s → (a i w : ℕ) → Meets s a i false → Leaves s (GC.write a i w) (wrote s a i w)
  pub link : (s : State) → Whole s → (a i b : ℕ) → Meets s a i true → b < s.count → Leaves s (GC.link a i b) (linked s a i b)
  pub read : (s : State) → Whole s → (a i : ℕ) → Meets s a i false → GC.answer_in s.spare (graph_of s) (GC.read a i) ≡ GC.word (value s (held_at s a) i)
  pub look : (s : State) → Whole s → (a : ℕ) → a < s.count → 0 < slice_index s.slots a → GC.answer_in s.spare (graph_of s) (GC.look a) ≡ GC.known (number s (held_at s a)) (kind_at s (held_at s a))
  pub look_empty : (s : State) → Whole s → (a : ℕ) → a < s.count → slice_index s.slots a ≡ 0 → GC.answer_in s.spare (graph_of s) (GC.look a) ≡ GC.known 0 0
  pub make : (s : State) → Whole s → (a k : ℕ) → a < s.count → k < 16 → k < length s.book → 2 + fields_of s.book k ≤ s.spare → Leaves s (GC.make a k) (made_in s a k)
