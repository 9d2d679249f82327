use Rattle.std.proofs.Common.{refl}
use Rattle.kinds.proofs.Ruling.{keeps, passes, below, accepts, only}
use Rattle.kinds.proofs.laws.kind_rules_hold.Goals as goal

pub returns : goal.returns
returns c = record { keeps = keeps; passes = passes; below = below; accepts = accepts; only = only; two_runs = refl; touching = refl; past_end = refl }
