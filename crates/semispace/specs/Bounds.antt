-- How large a copying heap's numbers are: the proof that every heap's meaning is bounded.
use Rattle.std.specs.Prelude.{◌≡◌, ◌≤◌, Bool, true, false, refl}
use Rattle.std.proofs.Math.Logic.{∥∥₁_elim}
use mathlib.Core.HLevel.{×₃_prop}
use Rattle.std.proofs.Math.Bridge.{le_prop}
use Rattle.std.proofs.Common.{arith}
use Rattle.graph.specs.Meaning.{Bounded}
use Rattle.semispace.specs.Words.{State, resting}
use Rattle.semispace.specs.Graphs.{Whole}
use Rattle.semispace.specs.Collected.{meaning_of}

either : {X : Type 0} (b : Bool) → (b ≡ true → X) → (b ≡ false → X) → X
either true f g = f refl
either false f g = g refl

spare_within : (s : State) → Whole s → s.spare ≤ s.halves.size
spare_within s w =
    let t = w.sound.bounds.top in
    either (resting s.collector)
    (λ e. let r = w.sound.rest e in omega arith)
    (λ e. let r = (w.sound.cycle e).room in omega arith)

numbers : (s : State) → ∥ Whole s ∥₁ → (s.halves.size ≤ 8192) × (s.count ≤ 64) × (s.spare ≤ s.halves.size)
numbers s h = ∥∥₁_elim h (×₃_prop le_prop le_prop le_prop) (λ w. (w.sound.bounds.small, w.sound.bounds.few, spare_within s w))

pub numbers_bounded : (s : State) → ∥ Whole s ∥₁ → Bounded (meaning_of s)
numbers_bounded s h =
    let n = numbers s h in
    let a = n.0 in
    let b = n.1 in
    let c = n.2 in
    record { capacity = omega arith; fixed_some = omega arith; fixed = omega arith; spare = c }
