-- Words that are cleared.
use Rattle.std.specs.Prelude.{ℕ, zero, suc, ◌+◌, List, slice_set}

-- n words from p on become 0.
unfoldable pub cleared : List ℕ → ℕ → ℕ → List ℕ
cleared m p zero = m
cleared m p (suc n) = slice_set (cleared m p n) (p + n) 0
