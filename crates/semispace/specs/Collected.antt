-- The meaning of a copying heap's state, and what an accepted call leaves of it.
use Rattle.std.specs.Prelude.{◌≡◌, ℕ, ◌+◌, ◌<◌, ◌≤◌}
use Rattle.graph.specs.Calls as GC
use Rattle.graph.specs.Meaning.{Meaning, headed_charges, live_words}
use Rattle.semispace.specs.Words.{State}
use Rattle.semispace.specs.Dues.{due, kept}
use Rattle.semispace.specs.Graphs.{graph_of}

abbrev pub meaning_of : State → Meaning
meaning_of s = record { graph = graph_of s; book = s.book; charges = headed_charges s.book; capacity = s.halves.size; fixed = 2 + s.count; spare = s.spare; due = due s; kept = kept s }

abbrev pub live : Meaning → ℕ
live m = live_words m

-- What an accepted call leaves.
pub record Accepted (m : Meaning) (c : GC.Call) (n : Meaning) : Type 0 where
  pub graph : n.graph ≡ GC.after m.book m.graph c
  pub book : n.book ≡ m.book
  pub charges : n.charges ≡ m.charges
  pub capacity : n.capacity ≡ m.capacity
  pub fixed : n.fixed ≡ m.fixed
  pub spare : n.spare + GC.paid m.charges c ≡ m.spare
  pub due : n.due ≤ m.due
  pub still : 0 < m.due → 0 < n.due
  pub kept : n.kept ≤ m.kept + GC.paid m.charges c
