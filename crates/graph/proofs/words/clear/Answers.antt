use Rattle.std.proofs.Common.{arith}
use Rattle.graph.proofs.Clearing.{cleared_filled}
use Rattle.graph.proofs.words.clear.Goals as goal

pub returns : goal.returns
returns c = cleared_filled c.args.memory.now c.args.at c.args.n c.fill.new.self (omega arith) (c.fill.ensures.after (λ y e. e))
