use Rattle.std.proofs.Common.{ap, ◌∙◌}
use Rattle.graph.specs.Graph.{refers}
use Rattle.straight.specs.Stored.{state}
use Rattle.straight.proofs.Answering.{full_from, kind_is}
use Rattle.straight.proofs.heap.space.StraightSpace.refers.Goals as goal

pub kind_held-requires : goal.kind_held-requires
kind_held-requires c = full_from (state c.args.self.now.store) c.args.self.now.whole c.args.slot c.requires.slot c.requires.full

pub returns : goal.returns
returns c =
    let s = state c.args.self.now.store in
    c.refers.ensures ∙ ap (λ n. refers s.book n c.args.field) (c.kind_held.ensures ∙ kind_is s c.args.self.now.whole c.args.slot c.requires.slot c.requires.full)
