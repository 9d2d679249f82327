use Rattle.std.proofs.Common.{eqb, ap, ◌∙◌}
use Rattle.semispace.specs.View.{view}
use Rattle.semispace.proofs.Answering.{vacant_is}
use Rattle.copying.proofs.heap.space.CopyingSpace.vacant.Goals as goal

pub returns : goal.returns
returns c = ap (λ n. eqb n 0) c.slot.ensures ∙ vacant_is (view c.args.self.now.store) c.args.self.now.whole c.args.slot c.requires
