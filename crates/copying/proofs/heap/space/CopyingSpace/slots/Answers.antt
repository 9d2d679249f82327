use Rattle.std.proofs.Common.{◌∙◌}
use Rattle.semispace.specs.View.{view}
use Rattle.semispace.proofs.Answering.{count_is}
use Rattle.copying.proofs.heap.space.CopyingSpace.slots.Goals as goal

pub returns : goal.returns
returns c = c.count.ensures ∙ count_is (view c.args.self.now.store) c.args.self.now.whole
