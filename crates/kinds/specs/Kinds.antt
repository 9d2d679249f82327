-- The shape of a kind, and which kinds are accepted.
use Rattle.std.specs.Prelude.{ℕ, cond, Some, None, Ok, Err, Option, Result}
use Rattle.kinds.specs.declared.kind.Kind.{Kind}
use Rattle.kinds.specs.declared.row.Row.{Row}
use Rattle.kinds.specs.Shapes.{Shape}
use Rattle.kinds.specs.Numbered.{four_runs}
use Rattle.kinds.specs.Rows.{row_shape, row_lawful}

-- The row of a kind's numbers, and its shape.
abbrev pub kind_row : Kind → Row
kind_row k = record { fields = k.fields; runs = record { places = four_runs k.offset_0 k.length_0 k.offset_1 k.length_1 k.offset_2 k.length_2 k.offset_3 k.length_3; count = k.runs; few = k.few } }

abbrev pub shape_of : Kind → Shape
shape_of k = row_shape (kind_row k)

-- A shape is accepted; where there is none, the refusal has the number 11.
abbrev pub accepted : Option Shape → Result Shape ℕ
accepted (Some s) = Ok s
accepted None = Err 11

-- The shape of a row that keeps the rules.
abbrev pub row_kind : Row → Option Shape
row_kind r = cond (row_lawful r) (Some (row_shape r)) None
