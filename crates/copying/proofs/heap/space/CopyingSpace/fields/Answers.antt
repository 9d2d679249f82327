use Rattle.std.proofs.Common.{ap, ◌∙◌}
use Rattle.graph.specs.Graph.{size}
use Rattle.semispace.specs.View.{view}
use Rattle.semispace.proofs.Answering.{full_from, kind_is}
use Rattle.copying.proofs.heap.space.CopyingSpace.fields.Goals as goal

pub fields_held-requires : goal.fields_held-requires
fields_held-requires c = full_from (view c.args.self.now.store) c.args.self.now.whole c.args.slot c.requires.slot c.requires.full

pub returns : goal.returns
returns c = c.fields_held.ensures ∙ ap (λ n. size (view c.args.self.now.store).book n) (kind_is (view c.args.self.now.store) c.args.self.now.whole c.args.slot c.requires.slot c.requires.full)
