use Rattle.std.proofs.Common.{refl}
use Rattle.graph.specs.Calls.{link, done}
use Rattle.straight.specs.Stored.{state}
use Rattle.straight.proofs.Answering.{link_held}
use Rattle.straight.proofs.Called.{kept, called}
use Rattle.straight.proofs.heap.space.StraightSpace.store_reference.Goals as goal

pub link-requires : goal.link-requires
link-requires c = link_held (state c.args.self.now.store) c.args.self.now.whole c.args.slot c.args.field c.args.from c.requires

pub invariant_of-self : goal.invariant_of-self
invariant_of-self c = record { whole = kept c.args.self.now (link c.args.slot c.args.field c.args.from) c.requires c.link.ensures }

pub returns-clause-means : goal.returns-clause-means
returns-clause-means c = called c.args.self.now (link c.args.slot c.args.field c.args.from) c.requires done refl c.link.ensures
