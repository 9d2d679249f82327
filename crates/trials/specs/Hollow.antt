-- The meaning of a heap of no slots and no words.
use Rattle.std.specs.Prelude.{ℕ, []}
use Rattle.std.proofs.Common.{arith}
use Rattle.graph.specs.Meaning.{Meaning, Bounded}

abbrev pub hollow : ℕ → Meaning
hollow first = record { graph = record { slots = []; next = first; records = [] }; book = []; charges = []; capacity = 0; fixed = 2; spare = 0; due = 0; kept = 0 }

pub hollow_bounded : (first : ℕ) → Bounded (hollow first)
hollow_bounded first = record { capacity = omega arith; fixed_some = omega arith; fixed = omega arith; spare = omega arith }
