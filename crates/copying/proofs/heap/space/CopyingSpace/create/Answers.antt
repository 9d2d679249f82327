use Rattle.std.proofs.Common.{ap}
use Rattle.graph.specs.Calls.{make, word}
use Rattle.semispace.specs.View.{view}
use Rattle.semispace.proofs.Answering.{make_room}
use Rattle.copying.proofs.Called.{kept, called}
use Rattle.copying.proofs.heap.space.CopyingSpace.create.Goals as goal

pub make-requires : goal.make-requires
make-requires c = make_room (view c.args.self.now.store) c.args.self.now.whole c.args.slot c.args.kind c.requires

pub invariant_of-self : goal.invariant_of-self
invariant_of-self c = record { whole = kept c.args.self.now (make c.args.slot c.args.kind) c.requires c.make.ensures.after }

pub returns-clause-means : goal.returns-clause-means
returns-clause-means c = called c.args.self.now (make c.args.slot c.args.kind) c.requires (word c.make.result) (ap word c.make.ensures.number) c.make.ensures.after
