use Rattle.std.proofs.Common.{refl}
use Rattle.graph.specs.Calls.{spare, word}
use Rattle.semispace.specs.View.{view}
use Rattle.copying.proofs.Called.{called}
use Rattle.copying.proofs.heap.space.CopyingSpace.left.Goals as goal

pub returns-clause-means : goal.returns-clause-means
returns-clause-means c = let s = view c.args.self.now.store in called c.args.self.now spare refl (word s.spare) refl refl
