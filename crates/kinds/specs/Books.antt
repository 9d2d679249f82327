-- The kinds of a book in their order, and what calls on a book answer.
use Rattle.std.specs.Prelude.{ℕ, cond, List, [], ◌∷◌, ◌++◌, map, length, Ok, Err, Result, nat_lt, slice_index_or}
use Rattle.kinds.specs.declared.book.Book.{Book}
use Rattle.kinds.specs.declared.book.SealedBook.{SealedBook}
use Rattle.kinds.specs.declared.book.rows.Rows.{Rows}
use Rattle.kinds.specs.Shapes.{Shape, no_shape}
use Rattle.kinds.specs.Items.{items}
use Rattle.kinds.specs.Rows.{row_shape}

abbrev pub listed : Rows → List Shape
listed rows = map row_shape (items rows.list)

abbrev pub book_list : Book → List Shape
book_list b = listed b.rows

abbrev pub kinds_of : SealedBook → List Shape
kinds_of b = listed b.rows

-- The number that an accepted kind gets in a book of these kinds. A full book refuses it, by 11.
abbrev pub numbered : List Shape → Result Shape ℕ → Result ℕ ℕ
numbered kinds (Ok s) = cond (nat_lt (length kinds) 16) (Ok (length kinds)) (Err 11)
numbered kinds (Err n) = Err n

-- The kinds after it. A refused kind leaves them as they were.
abbrev pub extended : List Shape → Result Shape ℕ → List Shape
extended kinds (Ok s) = cond (nat_lt (length kinds) 16) (kinds ++ (s ∷ [])) kinds
extended kinds (Err n) = kinds

-- The kind of a number; 2 where the book has none.
abbrev pub looked_up : List Shape → ℕ → Result Shape ℕ
looked_up kinds k = cond (nat_lt k (length kinds)) (Ok (slice_index_or kinds k no_shape)) (Err 2)
