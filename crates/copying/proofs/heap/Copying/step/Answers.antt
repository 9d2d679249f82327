use Rattle.std.proofs.Common.{sym, subst}
use mathlib.Core.Logic.{∥∥₁_elim, ∥∥₁_map}
use Rattle.semispace.specs.Words.{State}
use Rattle.semispace.specs.View.{view}
use Rattle.semispace.specs.Graphs.{Whole}
use Rattle.semispace.proofs.Stepping.{step_sound}
use Rattle.semispace.proofs.Knowing.{step_known}
use Rattle.semispace.proofs.Readying.{step_ready, ready_prop}
use Rattle.semispace.proofs.Reporting.{step_report}
use Rattle.copying.proofs.heap.Copying.step.Goals as goal

pub step-requires : goal.step-requires
step-requires c =
    let s = view c.args.self.now.store in
    ∥∥₁_elim c.args.self.now.whole (ready_prop s) (λ W. step_ready s W.sound)

pub invariant_of-self : goal.invariant_of-self
invariant_of-self c =
    let P : State → Type 0 = λ s. ∥ Whole s ∥₁ in
    let s = view c.args.self.now.store in
    record { whole = subst P (sym c.step.ensures.after) (∥∥₁_map c.args.self.now.whole (λ W. record { sound = step_sound s W.sound; known = step_known s W.sound W.known })) }

pub returns : goal.returns
returns c = record { after = c.step.ensures.after; ended = c.step.ensures.ended; means = step_report (view c.args.self.now.store) _ c.args.self.now.whole c.step.ensures.after }
