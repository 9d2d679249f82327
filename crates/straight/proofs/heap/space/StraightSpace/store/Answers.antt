use Rattle.std.proofs.Common.{refl}
use Rattle.graph.specs.Calls.{write, done}
use Rattle.straight.specs.Stored.{state}
use Rattle.straight.proofs.Answering.{write_held}
use Rattle.straight.proofs.Called.{kept, called}
use Rattle.straight.proofs.heap.space.StraightSpace.store.Goals as goal

pub put_field-requires : goal.put_field-requires
put_field-requires c = write_held (state c.args.self.now.store) c.args.self.now.whole c.args.slot c.args.field c.args.word c.requires

pub invariant_of-self : goal.invariant_of-self
invariant_of-self c = record { whole = kept c.args.self.now (write c.args.slot c.args.field c.args.word) c.requires c.put_field.ensures }

pub returns-clause-means : goal.returns-clause-means
returns-clause-means c = called c.args.self.now (write c.args.slot c.args.field c.args.word) c.requires done refl c.put_field.ensures
