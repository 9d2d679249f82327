use Rattle.std.proofs.Common.{ltb, sym, ap}
use Rattle.straight.specs.Stored.{state}
use Rattle.straight.proofs.Wholes.{whole}
use Rattle.straight.proofs.Reading.{graph_next}
use Rattle.straight.proofs.heap.space.StraightSpace.spent.Goals as goal

pub returns : goal.returns
returns c = let s = state c.args.self.now.store in ap (λ n. ltb 4294967295 n) (sym (graph_next s (whole s c.args.self.now.whole)))
