-- The rules in plain words, and what is proved of them and of sealed books.
use Rattle.std.specs.Prelude.{◌≡◌, ℕ, suc, ◌+◌, ◌<◌, ◌≤◌, true, List, [], ◌∷◌, length, get_or, Some, None, slice_index_or}
use Rattle.kinds.specs.declared.book.SealedBook.{SealedBook}
use Rattle.kinds.specs.Shapes.{Shape, no_shape, within, lawful}
use Rattle.kinds.specs.Written.{written}
use Rattle.kinds.specs.Books.{kinds_of}

-- Run j of a shape: where it begins, how many fields it has, and where it ends.
abbrev pub offset_at : Shape → ℕ → ℕ
offset_at s j = (get_or s.runs j (0, 0)).0

abbrev pub length_at : Shape → ℕ → ℕ
length_at s j = (get_or s.runs j (0, 0)).1

abbrev pub end_at : Shape → ℕ → ℕ
end_at s j = offset_at s j + length_at s j

-- At most 62 fields and four runs; each run has a field and ends inside the fields; each later run begins past the end of the run before.
pub record Lawful (s : Shape) : Type 0 where
  pub few_fields : s.fields ≤ 62
  pub few_runs : length s.runs ≤ 4
  pub not_empty : (j : ℕ) → j < length s.runs → 1 ≤ length_at s j
  pub inside : (j : ℕ) → j < length s.runs → end_at s j ≤ s.fields
  pub apart : (j : ℕ) → suc j < length s.runs → end_at s j < offset_at s (suc j)

-- The numbers that write a shape: the number of fields, then the pairs.
abbrev pub flat : List (ℕ × ℕ) → List ℕ
flat [] = []
flat (r ∷ rs) = r.0 ∷ (r.1 ∷ flat rs)

abbrev pub numbers_of : Shape → List ℕ
numbers_of s = s.fields ∷ flat s.runs

-- The test `lawful` is the rules; a reference field is a field; numbers write a kind just if they are those of a shape that keeps the rules.
pub record KindRules : Type 0 where
  pub keeps : (s : Shape) → lawful s ≡ true → Lawful s
  pub passes : (s : Shape) → Lawful s → lawful s ≡ true
  pub below : (s : Shape) (i : ℕ) → lawful s ≡ true → within s.runs i ≡ true → i < s.fields
  pub accepts : (s : Shape) → Lawful s → written (numbers_of s) ≡ Some s
  pub only : (numbers : List ℕ) (s : Shape) → written numbers ≡ Some s → (numbers ≡ numbers_of s) × Lawful s
  pub two_runs : written (3 ∷ 0 ∷ 1 ∷ 2 ∷ 1 ∷ []) ≡ Some (record { fields = 3; runs = (0, 1) ∷ (2, 1) ∷ [] })
  pub touching : written (3 ∷ 0 ∷ 2 ∷ 2 ∷ 1 ∷ []) ≡ None
  pub past_end : written (3 ∷ 2 ∷ 2 ∷ []) ≡ None

-- A sealed book has at most 16 kinds, and each keeps the rules.
pub record SealedRules : Type 0 where
  pub few_kinds : (b : SealedBook) → length (kinds_of b) ≤ 16
  pub keep : (b : SealedBook) (k : ℕ) → k < length (kinds_of b) → Lawful (slice_index_or (kinds_of b) k no_shape)
