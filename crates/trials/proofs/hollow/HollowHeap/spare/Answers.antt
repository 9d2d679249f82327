use Rattle.std.proofs.Common.{refl}
use Rattle.trials.proofs.Hollows.{spare_called}
use Rattle.trials.proofs.hollow.HollowHeap.spare.Goals as goal

pub returns : goal.returns
returns c = record { means = spare_called c.args.self.now.first; acts = refl }
