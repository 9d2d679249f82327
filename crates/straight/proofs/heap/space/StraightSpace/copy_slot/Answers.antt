use Rattle.std.proofs.Common.{refl}
use Rattle.graph.specs.Calls.{hold, done}
use Rattle.straight.proofs.Called.{kept, called}
use Rattle.straight.proofs.heap.space.StraightSpace.copy_slot.Goals as goal

pub invariant_of-self : goal.invariant_of-self
invariant_of-self c = record { whole = kept c.args.self.now (hold c.args.slot c.args.to) c.requires c.hold.ensures }

pub returns-clause-means : goal.returns-clause-means
returns-clause-means c = called c.args.self.now (hold c.args.slot c.args.to) c.requires done refl c.hold.ensures
