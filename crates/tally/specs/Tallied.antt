-- The counts that a tally holds.
use Rattle.tally.specs.declared.counts.Counts.{Counts}
use Rattle.tally.specs.declared.tallied.Tally.{Tally}

abbrev pub counts : {H : Type 0} → Tally H → Counts
counts t = t.counts
