-- What a slice of numbers says of a kind: the number of fields, then pairs of offset and length.
use Rattle.std.specs.Prelude.{ℕ, Bool, cond, List, [], ◌∷◌, Some, None, Option}
use Rattle.kinds.specs.Shapes.{Shape, lawful}

-- One more run before those that follow, if those can be read.
abbrev pub preceded : ℕ × ℕ → Option (List (ℕ × ℕ)) → Option (List (ℕ × ℕ))
preceded r None = None
preceded r (Some rs) = Some (r ∷ rs)

-- The pairs that the numbers are; none if the last number stands alone.
abbrev pub pairs : List ℕ → Option (List (ℕ × ℕ))
pairs [] = Some []
pairs (offset ∷ []) = None
pairs (offset ∷ (length ∷ rest)) = preceded (offset, length) (pairs rest)

-- The shape of these runs, if they could be read and the shape passes the test.
abbrev pub passing : (Shape → Bool) → ℕ → Option (List (ℕ × ℕ)) → Option Shape
passing test fields None = None
passing test fields (Some runs) = cond (test (record { fields = fields; runs = runs })) (Some (record { fields = fields; runs = runs })) None

-- The shape that the numbers write, if they write one and it passes the test.
abbrev pub read_by : (Shape → Bool) → List ℕ → Option Shape
read_by test [] = None
read_by test (fields ∷ rest) = passing test fields (pairs rest)

-- The kind that the numbers write; none if they write no kind.
abbrev pub written : List ℕ → Option Shape
written numbers = read_by lawful numbers
