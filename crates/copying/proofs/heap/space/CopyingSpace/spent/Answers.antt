use Rattle.std.proofs.Common.{ltb, sym, ap}
use Rattle.semispace.specs.View.{view}
use Rattle.semispace.proofs.Wholes.{whole}
use Rattle.semispace.proofs.Calling.{graph_next}
use Rattle.copying.proofs.heap.space.CopyingSpace.spent.Goals as goal

pub returns : goal.returns
returns c = ap (λ n. ltb 4294967295 n) (sym (graph_next (view c.args.self.now.store) (whole (view c.args.self.now.store) c.args.self.now.whole)))
