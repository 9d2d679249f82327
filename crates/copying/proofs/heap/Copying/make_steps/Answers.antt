use Rattle.std.proofs.Common.{◌≡◌, true, false, ◌+◌, arith}
use Rattle.semispace.specs.Words.{resting, idle_made, idle_ended, idle_state}
use Rattle.semispace.specs.View.{view}
use Rattle.semispace.proofs.Idling.{idle_stop, idle_go, idle_none}
use Rattle.semispace.proofs.Reporting.{idle_report}
use Rattle.copying.proofs.heap.Copying.make_steps.Goals as goal

pub returns-then-step : goal.returns-then-step
returns-then-step c =
    let r : resting (view c.step.new.self.store).collector ≡ true = cc in
    let k = idle_stop c.args.n c.loop-made.made (view c.loop-made.self.store) (view c.step.new.self.store) (omega arith) c.step.ensures.after r in
    let i = c.loop-made.invariant in
    let steps : c.loop-made.made + 1 ≡ idle_made c.args.n (view c.args.self.now.store) = omega arith in
    let ended : true ≡ idle_ended c.args.n (view c.args.self.now.store) = cc in
    let after : view c.step.new.self.store ≡ idle_state c.args.n (view c.args.self.now.store) = cc in
    record { steps = steps; ended = ended; after = after; means = idle_report c.args.n (view c.args.self.now.store) _ _ _ c.args.self.now.whole steps ended after }

pub loop-made-preserved : goal.loop-made-preserved
loop-made-preserved c =
    let r : resting (view c.step.new.self.store).collector ≡ false = cc in
    let k = idle_go c.args.n c.loop-made.made (view c.loop-made.self.store) (view c.step.new.self.store) (omega arith) c.step.ensures.after r in
    let i = c.loop-made.invariant in
    record { made = omega arith; ended = cc; after = cc }

pub returns : goal.returns
returns c =
    let k = idle_none c.args.n c.loop-made.made (view c.loop-made.self.store) (omega arith) in
    let i = c.loop-made.invariant in
    let steps : c.args.n ≡ idle_made c.args.n (view c.args.self.now.store) = omega arith in
    let ended : false ≡ idle_ended c.args.n (view c.args.self.now.store) = cc in
    let after : view c.loop-made.self.store ≡ idle_state c.args.n (view c.args.self.now.store) = cc in
    record { steps = steps; ended = ended; after = after; means = idle_report c.args.n (view c.args.self.now.store) _ _ _ c.args.self.now.whole steps ended after }
