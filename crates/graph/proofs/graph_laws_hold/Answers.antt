use Rattle.graph.proofs.Shown.{laws, examples}
use Rattle.graph.proofs.graph_laws_hold.Goals as goal

pub returns : goal.returns
returns c = record { laws = laws; examples = examples }
