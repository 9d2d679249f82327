-- What a kind says of its records, and the rules that every kind keeps.
use Rattle.std.specs.Prelude.{ℕ, ◌+◌, Bool, true, false, ◌&&◌, ◌||◌, List, [], ◌∷◌, length, nat_le, nat_lt}

-- A kind: its number of fields, and its runs of reference fields, each an offset and a length. All other fields are word fields.
pub record Shape : Type 0 where
  pub fields : ℕ
  pub runs : List (ℕ × ℕ)

-- What a look-up past the end of a list of kinds gives.
abbrev pub no_shape : Shape
no_shape = record { fields = 0; runs = [] }

-- Does field i lie in one of the runs?
abbrev pub within : List (ℕ × ℕ) → ℕ → Bool
within [] i = false
within (r ∷ rs) i = (nat_le r.0 i && nat_lt i (r.0 + r.1)) || within rs i

-- Each run has a field, begins at `low` or later, and ends inside the fields; the next one begins past its end.
abbrev pub runs_fit : ℕ → ℕ → List (ℕ × ℕ) → Bool
runs_fit low fields [] = true
runs_fit low fields (r ∷ rs) = nat_le low r.0 && (nat_le 1 r.1 && (nat_le (r.0 + r.1) fields && runs_fit (r.0 + r.1 + 1) fields rs))

-- The rules: at most 62 fields, at most four runs, and the runs fit.
abbrev pub lawful : Shape → Bool
lawful s = nat_le s.fields 62 && (nat_le (length s.runs) 4 && runs_fit 0 s.fields s.runs)
