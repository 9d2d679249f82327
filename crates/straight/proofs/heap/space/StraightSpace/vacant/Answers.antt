use Rattle.std.proofs.Common.{eqb, ap, ◌∙◌}
use Rattle.straight.specs.Stored.{state}
use Rattle.straight.proofs.Answering.{vacant_is}
use Rattle.straight.proofs.heap.space.StraightSpace.vacant.Goals as goal

pub returns : goal.returns
returns c = ap (λ n. eqb n 0) c.get.ensures ∙ vacant_is (state c.args.self.now.store) c.args.self.now.whole c.args.slot c.requires
