use Rattle.semispace.proofs.Standing.{stands}
use Rattle.semispace.proofs.semispace_laws_hold.Goals as goal

pub returns : goal.returns
returns c = stands
