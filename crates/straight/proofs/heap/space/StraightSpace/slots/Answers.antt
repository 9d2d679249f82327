use Rattle.std.proofs.Common.{◌∙◌}
use Rattle.straight.specs.Stored.{state}
use Rattle.straight.proofs.Answering.{count_is}
use Rattle.straight.proofs.heap.space.StraightSpace.slots.Goals as goal

pub returns : goal.returns
returns c = c.count.ensures ∙ count_is (state c.args.self.now.store) c.args.self.now.whole
