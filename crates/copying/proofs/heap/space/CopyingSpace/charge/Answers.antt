use Rattle.std.proofs.Common.{sym, ◌∙◌}
use Rattle.semispace.specs.View.{view}
use Rattle.semispace.proofs.Calling.{charge_is}
use Rattle.copying.proofs.heap.space.CopyingSpace.charge.Goals as goal

pub returns : goal.returns
returns c = c.charge.ensures ∙ sym (charge_is (view c.args.self.now.store).book c.args.kind c.requires)
