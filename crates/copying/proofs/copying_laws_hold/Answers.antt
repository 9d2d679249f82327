use Rattle.semispace.proofs.Standing.{stands}
use Rattle.copying.proofs.copying_laws_hold.Goals as goal

pub returns : goal.returns
returns c = stands
