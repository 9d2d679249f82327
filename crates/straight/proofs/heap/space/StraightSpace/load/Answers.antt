use Rattle.std.proofs.Common.{refl, ap}
use Rattle.graph.specs.Calls.{read, word}
use Rattle.straight.specs.Stored.{state}
use Rattle.straight.proofs.Answering.{read_held}
use Rattle.straight.proofs.Called.{called}
use Rattle.straight.proofs.heap.space.StraightSpace.load.Goals as goal

pub field-requires : goal.field-requires
field-requires c = read_held (state c.args.self.now.store) c.args.self.now.whole c.args.slot c.args.field c.requires

pub returns-clause-means : goal.returns-clause-means
returns-clause-means c = called c.args.self.now (read c.args.slot c.args.field) c.requires (word c.field.result) (ap word c.field.ensures) refl
