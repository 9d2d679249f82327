use Rattle.std.proofs.Common.{ap}
use Rattle.graph.specs.Calls.{make, word}
use Rattle.straight.specs.Stored.{state}
use Rattle.straight.proofs.Answering.{make_room}
use Rattle.straight.proofs.Called.{kept, called}
use Rattle.straight.proofs.heap.space.StraightSpace.create.Goals as goal

pub lay-requires : goal.lay-requires
lay-requires c = make_room (state c.args.self.now.store) c.args.self.now.whole c.args.slot c.args.kind c.requires

pub invariant_of-self : goal.invariant_of-self
invariant_of-self c = record { whole = kept c.args.self.now (make c.args.slot c.args.kind) c.requires c.lay.ensures.after }

pub returns-clause-means : goal.returns-clause-means
returns-clause-means c = called c.args.self.now (make c.args.slot c.args.kind) c.requires (word c.lay.result) (ap word c.lay.ensures.number) c.lay.ensures.after
