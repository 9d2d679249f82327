-- What reading a row from numbers gives.
use Rattle.std.specs.Prelude.{ℕ, Bool, List, length, Some, None, Option, nat_le}
use Rattle.kinds.specs.declared.row.Row.{Row}
use Rattle.kinds.specs.Shapes.{Shape}
use Rattle.kinds.specs.Rows.{row_shape}
use Rattle.kinds.specs.Written.{read_by}

-- A shape with at most four runs has a row.
abbrev pub has_row : Shape → Bool
has_row s = nat_le (length s.runs) 4

-- The shape that the numbers write, if it has a row.
abbrev pub taken : List ℕ → Option Shape
taken numbers = read_by has_row numbers

abbrev pub row_read : Option Row → Option Shape
row_read None = None
row_read (Some r) = Some (row_shape r)
