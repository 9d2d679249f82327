use Rattle.std.proofs.Common.{◌-◌, refl}
use Rattle.graph.specs.Calls.{spare, word}
use Rattle.straight.specs.Stored.{state}
use Rattle.straight.proofs.Answering.{top_inside}
use Rattle.straight.proofs.Called.{called}
use Rattle.straight.proofs.heap.space.StraightSpace.left.Goals as goal

pub overflow_sub-result : goal.overflow_sub-result
overflow_sub-result c = top_inside (state c.args.self.now.store) c.args.self.now.whole

pub returns-clause-means : goal.returns-clause-means
returns-clause-means c = let s = state c.args.self.now.store in called c.args.self.now spare refl (word (s.room - s.top)) refl refl
