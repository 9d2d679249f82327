-- What a step and an idle report: the equations of their contracts give the sentences on the meaning.
use Rattle.std.proofs.Common.{◌≡◌, ℕ, Bool, sym, subst}
use Rattle.graph.specs.Cycle.{Step, Idled}
use Rattle.semispace.specs.Words.{State, stepped, idle_made, idle_ended, idle_state}
use Rattle.semispace.specs.Graphs.{Whole}
use Rattle.semispace.specs.Collected.{meaning_of}
use Rattle.semispace.proofs.Wholes.{whole}
use Rattle.semispace.proofs.Collecting.{step_means, idle_means}

pub step_report : (s t : State) → ∥ Whole s ∥₁ → t ≡ stepped s → Step (meaning_of s) (meaning_of t)
step_report s t w e =
    let P : State → Type 0 = λ t. Step (meaning_of s) (meaning_of t) in
    subst P (sym e) (let W = whole s w in step_means s W.sound W.known)

pub idle_report : (n : ℕ) (s u : State) (a : ℕ) (b : Bool) → ∥ Whole s ∥₁ → a ≡ idle_made n s → b ≡ idle_ended n s → u ≡ idle_state n s → Idled (meaning_of s) n a b (meaning_of u)
idle_report n s u a b w p q r =
    let P : ℕ → Type 0 = λ a. Idled (meaning_of s) n a b (meaning_of u) in
    let Q : Bool → Type 0 = λ b. Idled (meaning_of s) n (idle_made n s) b (meaning_of u) in
    let R : State → Type 0 = λ u. Idled (meaning_of s) n (idle_made n s) (idle_ended n s) (meaning_of u) in
    subst P (sym p) (subst Q (sym q) (subst R (sym r) (let W = whole s w in idle_means n s W.sound W.known)))
