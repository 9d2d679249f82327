use Rattle.std.proofs.Common.{refl}
use Rattle.graph.specs.Calls.{drop, done}
use Rattle.straight.proofs.Called.{kept, called}
use Rattle.straight.proofs.heap.space.StraightSpace.clear_slot.Goals as goal

pub invariant_of-self : goal.invariant_of-self
invariant_of-self c = record { whole = kept c.args.self.now (drop c.args.slot) c.requires c.empty.ensures }

pub returns-clause-means : goal.returns-clause-means
returns-clause-means c = called c.args.self.now (drop c.args.slot) c.requires done refl c.empty.ensures
