-- How large a straight heap's numbers are: the proof that every heap's meaning is bounded.
use Rattle.std.specs.Prelude.{◌≤◌}
use Rattle.std.proofs.Math.Logic.{∥∥₁_elim}
use Rattle.std.proofs.Math.Bridge.{le_prop}
use Rattle.std.proofs.Common.{arith}
use Rattle.graph.specs.Meaning.{Bounded}
use Rattle.straight.specs.Words.{State}
use Rattle.straight.specs.Layout.{meaning_of}
use Rattle.straight.specs.Whole.{Whole}

small : (s : State) → ∥ Whole s ∥₁ → s.room ≤ 16384
small s h = ∥∥₁_elim h le_prop (λ w. w.small)

pub numbers_bounded : (s : State) → ∥ Whole s ∥₁ → Bounded (meaning_of s)
numbers_bounded s h =
    let a : s.room ≤ 16384 = small s h in
    record { capacity = omega arith; fixed_some = omega arith; fixed = omega arith; spare = omega arith }
