use Rattle.std.proofs.Common.{◌≡◌, drop, map}
use Rattle.kinds.specs.Shapes.{runs_fit}
use Rattle.kinds.specs.Runs.{run_pair}
use Rattle.kinds.specs.Rows.{row_runs}
use Rattle.kinds.proofs.row.Row.runs_fit.Given as goal

-- The runs fit just if those that are left fit from `low` on.
abbrev pub invariant-loop-run : goal.invariant-loop-run
invariant-loop-run l = runs_fit l.low l.self.fields (map run_pair (drop l.run-index l.run-items)) ≡ runs_fit 0 l.self.fields (row_runs l.self)
