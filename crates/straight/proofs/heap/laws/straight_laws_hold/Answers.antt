use Rattle.straight.proofs.Keeping.{straight_laws}
use Rattle.straight.proofs.heap.laws.straight_laws_hold.Goals as goal

pub returns : goal.returns
returns c = straight_laws
