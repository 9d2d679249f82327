use Rattle.std.proofs.Common.{refl}
use Rattle.trials.proofs.Hollows.{none_idled, one_idled}
use Rattle.trials.proofs.hollow.HollowCollected.idle.Goals as goal

pub returns-then-count-eq0 : goal.returns-then-count-eq0
returns-then-count-eq0 c = record { means = none_idled c.args.self.now.first c.args.count c.if-count-eq0.true; acts = refl }

pub returns-else-count-eq0 : goal.returns-else-count-eq0
returns-else-count-eq0 c = record { means = one_idled c.args.self.now.first c.args.count c.if-count-eq0.false; acts = refl }
