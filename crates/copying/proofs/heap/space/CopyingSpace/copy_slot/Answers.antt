use Rattle.std.proofs.Common.{refl}
use Rattle.graph.specs.Calls.{hold, done}
use Rattle.semispace.specs.View.{view}
use Rattle.semispace.proofs.Answering.{hold_led}
use Rattle.copying.proofs.Called.{kept, called}
use Rattle.copying.proofs.heap.space.CopyingSpace.copy_slot.Goals as goal

pub hold-requires : goal.hold-requires
hold-requires c = hold_led (view c.args.self.now.store) c.args.self.now.whole c.args.slot c.args.to c.requires

pub invariant_of-self : goal.invariant_of-self
invariant_of-self c = record { whole = kept c.args.self.now (hold c.args.slot c.args.to) c.requires c.hold.ensures }

pub returns-clause-means : goal.returns-clause-means
returns-clause-means c = called c.args.self.now (hold c.args.slot c.args.to) c.requires done refl c.hold.ensures
