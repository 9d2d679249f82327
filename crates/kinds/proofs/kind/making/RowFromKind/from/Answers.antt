use Rattle.std.proofs.Common.{◌≤◌, ap}
use Rattle.std.specs.Coded.{le_prop}
use Rattle.kinds.specs.declared.kind.Kind.{Kind}
use Rattle.kinds.specs.declared.row.Row.{Row}
use Rattle.kinds.specs.Numbered.{four_runs}
use Rattle.kinds.proofs.kind.making.RowFromKind.from.Goals as goal

-- The row of a kind, with any proof that its runs are four at most.
abbrev row_with : (k : Kind) → k.runs ≤ 4 → Row
row_with k few = record { fields = k.fields; runs = record { places = four_runs k.offset_0 k.length_0 k.offset_1 k.length_1 k.offset_2 k.length_2 k.offset_3 k.length_3; count = k.runs; few = few } }

pub returns : goal.returns
returns c = rw (c.new.ensures, c.new-2.ensures, c.new-3.ensures, c.new-4.ensures) (ap (row_with c.args.kind) (le_prop _ _))
