use Rattle.std.proofs.Common.{refl, ap}
use Rattle.graph.specs.Calls.{read, word}
use Rattle.semispace.specs.View.{view}
use Rattle.semispace.proofs.Answering.{read_held}
use Rattle.copying.proofs.Called.{called}
use Rattle.copying.proofs.heap.space.CopyingSpace.load.Goals as goal

pub read-requires : goal.read-requires
read-requires c = read_held (view c.args.self.now.store) c.args.self.now.whole c.args.slot c.args.field c.requires

pub returns-clause-means : goal.returns-clause-means
returns-clause-means c = called c.args.self.now (read c.args.slot c.args.field) c.requires (word c.read.result) (ap word c.read.ensures) refl
