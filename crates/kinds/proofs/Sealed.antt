-- The kinds of a sealed book keep the rules.
use Rattle.std.proofs.Common.{◌≡◌, ℕ, zero, suc, ◌<◌, ◌≤◌, true, List, [], ◌∷◌, map, length, get_or, length-take, arith}
use Rattle.std.proofs.lemmas.List.{length-map}
use Rattle.std.specs.List.{All}
use Rattle.kinds.specs.declared.row.Row.{Row}
use Rattle.kinds.specs.declared.book.SealedBook.{SealedBook}
use Rattle.kinds.specs.Shapes.{no_shape, lawful}
use Rattle.kinds.specs.Rows.{row_shape, row_lawful}
use Rattle.kinds.specs.Books.{kinds_of}
use Rattle.kinds.specs.Laws.{Lawful}
use Rattle.kinds.proofs.Ruling.{keeps, passes}

pub few_kinds : (b : SealedBook) → length (kinds_of b) ≤ 16
few_kinds b = simp (length-map, length-take) (omega (arith, b.rows.list.few))

lawful_at : (rs : List Row) (k : ℕ) → All (λ r. row_lawful r ≡ true) rs → k < length (map row_shape rs) → Lawful (get_or (map row_shape rs) k no_shape)
lawful_at [] k h l = absurd (omega arith)
lawful_at (r ∷ rs) zero h l = keeps (row_shape r) (h 0 r (omega arith))
lawful_at (r ∷ rs) (suc k) h l = lawful_at rs k (λ j d m. h (suc j) d (omega arith)) (omega arith)

pub lawful_kind : (b : SealedBook) (k : ℕ) → k < length (kinds_of b) → Lawful (get_or (kinds_of b) k no_shape)
lawful_kind b k l = lawful_at _ k b.rows.sound l

pub lawful_shape : (b : SealedBook) (k : ℕ) → k < length (kinds_of b) → lawful (get_or (kinds_of b) k no_shape) ≡ true
lawful_shape b k l = passes (get_or (kinds_of b) k no_shape) (lawful_kind b k l)

pub few_fields : (b : SealedBook) (k : ℕ) → k < length (kinds_of b) → (get_or (kinds_of b) k no_shape).fields ≤ 62
few_fields b k l = (lawful_kind b k l).few_fields
