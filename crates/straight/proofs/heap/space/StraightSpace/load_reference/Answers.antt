use Rattle.std.proofs.Common.{refl}
use Rattle.graph.specs.Calls.{follow, done}
use Rattle.straight.specs.Stored.{state}
use Rattle.straight.proofs.Answering.{follow_held}
use Rattle.straight.proofs.Called.{kept, called}
use Rattle.straight.proofs.heap.space.StraightSpace.load_reference.Goals as goal

pub follow-requires : goal.follow-requires
follow-requires c = follow_held (state c.args.self.now.store) c.args.self.now.whole c.args.slot c.args.field c.args.to c.requires

pub invariant_of-self : goal.invariant_of-self
invariant_of-self c = record { whole = kept c.args.self.now (follow c.args.slot c.args.field c.args.to) c.requires c.follow.ensures }

pub returns-clause-means : goal.returns-clause-means
returns-clause-means c = called c.args.self.now (follow c.args.slot c.args.field c.args.to) c.requires done refl c.follow.ensures
