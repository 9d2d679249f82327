-- What a tally counts, and how each call changes it.
use Rattle.std.specs.Prelude.{ℕ, ◌+◌, min, max}
use Rattle.graph.specs.Calls.{Call, make, read, write, follow, link, hold, drop, look, spare}
use Rattle.graph.specs.Meaning.{Meaning, Reply, gave, refused}
use Rattle.graph.specs.Cycle.{in_use}
use Rattle.tally.specs.declared.counts.Counts.{Counts}

-- Each count stops here.
abbrev pub most : ℕ
most = 4294967295

abbrev pub plus : ℕ → ℕ → ℕ
plus n more = min (n + more) most

-- At the setting up.
abbrev pub started : Meaning → Counts
started m = record { makes = 0; refusals = 0; steps = 0; highest = in_use m }

-- One refusal more; one make more, with the words in use after it.
abbrev pub one_refused : Counts → Counts
one_refused c = record { makes = c.makes; refusals = plus c.refusals 1; steps = c.steps; highest = c.highest }

abbrev pub one_made : Counts → Meaning → Counts
one_made c m = record { makes = plus c.makes 1; refusals = c.refusals; steps = c.steps; highest = max c.highest (in_use m) }

-- After an accepted call that left the meaning m: words in use rise only by a make.
abbrev pub accepted_counts : Counts → Call → Meaning → Counts
accepted_counts c (make a k) m = one_made c m
accepted_counts c (read a i) m = c
accepted_counts c (write a i w) m = c
accepted_counts c (follow a i b) m = c
accepted_counts c (link a i b) m = c
accepted_counts c (hold a b) m = c
accepted_counts c (drop a) m = c
accepted_counts c (look a) m = c
accepted_counts c spare m = c

abbrev pub counts_after : Counts → Call → Reply → Meaning → Counts
counts_after c call (gave x) m = accepted_counts c call m
counts_after c call (refused n) m = one_refused c

-- After an idle that made so many steps.
abbrev pub idled_counts : Counts → ℕ → Counts
idled_counts c made = record { makes = c.makes; refusals = c.refusals; steps = plus c.steps made; highest = c.highest }
