-- A look-up that is refused: the book has no such kind.
use Rattle.std.proofs.Common.{◌≡◌, ℕ, ◌<◌, ltb, List, length, get_or, Ok, Err, Result, ⊎_elim, arith}
use Rattle.std.proofs.lemmas.Bool.{cases_lt, cond-true, lt-ltb}
use Rattle.std.proofs.lemmas.List.{get_or_past}
use Rattle.kinds.specs.Shapes.{Shape, no_shape}
use Rattle.kinds.specs.Books.{looked_up}

pub no_kind : (kinds : List Shape) (k n : ℕ) → ◌≡◌ {A = Result Shape ℕ} (Err n) (looked_up kinds k) → get_or kinds k no_shape ≡ no_shape
no_kind kinds k n e =
    ⊎_elim
    (λ (l : k < length kinds).
    let f : ◌≡◌ {A = Result Shape ℕ} (looked_up kinds k) (Ok (get_or kinds k no_shape)) = cond-true (ltb k (length kinds)) (Ok (get_or kinds k no_shape)) (Err 2) (lt-ltb k (length kinds) l) in
    absurd (let z : ◌≡◌ {A = ℕ} 0 1 = cc in omega arith))
    (λ l. get_or_past kinds k no_shape l)
    (cases_lt k (length kinds))
