use Rattle.std.proofs.Common.{refl}
use Rattle.graph.specs.Calls.{write, done}
use Rattle.semispace.specs.View.{view}
use Rattle.semispace.proofs.Answering.{write_held}
use Rattle.copying.proofs.Called.{kept, called}
use Rattle.copying.proofs.heap.space.CopyingSpace.store.Goals as goal

pub write-requires : goal.write-requires
write-requires c = write_held (view c.args.self.now.store) c.args.self.now.whole c.args.slot c.args.field c.args.word c.requires

pub invariant_of-self : goal.invariant_of-self
invariant_of-self c = record { whole = kept c.args.self.now (write c.args.slot c.args.field c.args.word) c.requires c.write.ensures }

pub returns-clause-means : goal.returns-clause-means
returns-clause-means c = called c.args.self.now (write c.args.slot c.args.field c.args.word) c.requires done refl c.write.ensures
