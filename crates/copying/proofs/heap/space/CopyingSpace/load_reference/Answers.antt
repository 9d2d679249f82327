use Rattle.std.proofs.Common.{refl}
use Rattle.graph.specs.Calls.{follow, done}
use Rattle.semispace.specs.View.{view}
use Rattle.semispace.proofs.Answering.{follow_held}
use Rattle.copying.proofs.Called.{kept, called}
use Rattle.copying.proofs.heap.space.CopyingSpace.load_reference.Goals as goal

pub follow-requires : goal.follow-requires
follow-requires c = let h = follow_held (view c.args.self.now.store) c.args.self.now.whole c.args.slot c.args.field c.args.to c.requires in record { held = h.0; led = h.1 }

pub invariant_of-self : goal.invariant_of-self
invariant_of-self c = record { whole = kept c.args.self.now (follow c.args.slot c.args.field c.args.to) c.requires c.follow.ensures }

pub returns-clause-means : goal.returns-clause-means
returns-clause-means c = called c.args.self.now (follow c.args.slot c.args.field c.args.to) c.requires done refl c.follow.ensures
