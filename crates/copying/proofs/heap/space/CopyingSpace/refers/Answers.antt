use Rattle.std.proofs.Common.{ap, ◌∙◌}
use Rattle.graph.specs.Graph.{refers}
use Rattle.semispace.specs.View.{view}
use Rattle.semispace.proofs.Answering.{full_from, kind_is}
use Rattle.copying.proofs.heap.space.CopyingSpace.refers.Goals as goal

pub refers_held-requires : goal.refers_held-requires
refers_held-requires c = full_from (view c.args.self.now.store) c.args.self.now.whole c.args.slot c.requires.slot c.requires.full

pub returns : goal.returns
returns c = c.refers_held.ensures ∙ ap (λ n. refers (view c.args.self.now.store).book n c.args.field) (kind_is (view c.args.self.now.store) c.args.self.now.whole c.args.slot c.requires.slot c.requires.full)
