-- The shape that the numbers of a kind stand for.
use Rattle.std.specs.Prelude.{ℕ, List, [], ◌∷◌, map, take}
use Rattle.kinds.specs.declared.run.Run.{Run}
use Rattle.kinds.specs.Shapes.{Shape}
use Rattle.kinds.specs.Runs.{run_pair, run_of}

-- Four runs from their numbers.
abbrev pub four_runs : (offset0 length0 offset1 length1 offset2 length2 offset3 length3 : ℕ) → List Run
four_runs offset0 length0 offset1 length1 offset2 length2 offset3 length3 = run_of offset0 length0 ∷ run_of offset1 length1 ∷ run_of offset2 length2 ∷ run_of offset3 length3 ∷ []

-- So many fields, and the first of the four runs, so many as `runs` says.
abbrev pub shape_from : (fields runs offset0 length0 offset1 length1 offset2 length2 offset3 length3 : ℕ) → Shape
shape_from fields runs offset0 length0 offset1 length1 offset2 length2 offset3 length3 = record { fields = fields; runs = map run_pair (take runs (four_runs offset0 length0 offset1 length1 offset2 length2 offset3 length3)) }
