-- The shape that a row stands for.
use Rattle.std.specs.Prelude.{◌≡◌, ℕ, Bool, true, List, map, All}
use Rattle.kinds.specs.declared.row.Row.{Row}
use Rattle.kinds.specs.Shapes.{Shape, lawful}
use Rattle.kinds.specs.Items.{items}
use Rattle.kinds.specs.Runs.{run_pair}

abbrev pub row_runs : Row → List (ℕ × ℕ)
row_runs r = map run_pair (items r.runs)

abbrev pub row_shape : Row → Shape
row_shape r = record { fields = r.fields; runs = row_runs r }

-- The rules, as a row keeps them: its shape is lawful.
abbrev pub row_lawful : Row → Bool
row_lawful r = lawful (row_shape r)

-- Each row keeps the rules.
abbrev pub LawfulRows : List Row → Type 0
LawfulRows rows = All (λ r. row_lawful r ≡ true) rows
