use Rattle.std.proofs.Common.{◌≡◌, ℕ, List, ◌++◌, length}
use Rattle.std.specs.Option.{option_map}
use Rattle.kinds.specs.Rows.{row_runs}
use Rattle.kinds.specs.Written.{pairs, passing}
use Rattle.kinds.specs.Read.{has_row, taken}
use Rattle.kinds.proofs.row.Row.read.Given as goal

-- The runs so far and those that the rest writes are the kind's runs.
abbrev pub invariant-loop-rest : goal.invariant-loop-rest
invariant-loop-rest l = passing has_row l.row.fields (option_map (λ (runs : List (ℕ × ℕ)). row_runs l.row ++ runs) (pairs l.rest)) ≡ taken l.numbers

abbrev pub decreases-loop-rest : goal.decreases-loop-rest
decreases-loop-rest l = length l.rest
