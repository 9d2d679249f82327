-- Where records lie in the two halves.
use Rattle.std.specs.Prelude.{◌≡◌, ℕ, zero, suc, ◌+◌, ◌-◌, ◌/◌, ◌%◌, ◌≤◌, Bool, true, false, cond, ◌||◌, List, [], ◌∷◌, ◌++◌, length, ◌==◌, nat_lt, slice_index}
use Rattle.kinds.specs.Shapes.{Shape}
use Rattle.graph.specs.Graph.{size}
use Rattle.semispace.specs.declared.halves.Halves.{Halves}

-- The words that the record at `a` covers, by its tag.
unfoldable pub size_at : List Shape → List ℕ → ℕ → ℕ
size_at b m a = 2 + size b (slice_index m (a + 1) % 16)

abbrev pub mem : ℕ → List ℕ → Bool
mem a [] = false
mem a (x ∷ xs) = a == x || mem a xs

-- Where the records begin that lie one after another from `a` up to `to`.
unfoldable pub starts : List Shape → List ℕ → ℕ → ℕ → ℕ → List ℕ
starts b m zero a to = []
starts b m (suc f) a to = cond (nat_lt a to) (a ∷ starts b m f (a + size_at b m a) to) []

-- Records in rising order, apart, from `a` on, and none beyond `to`.
abbrev pub Spread : List Shape → List ℕ → ℕ → ℕ → List ℕ → Type 0
Spread b m a to [] = a ≤ to
Spread b m a to (x ∷ xs) = (a ≤ x) × Spread b m (x + size_at b m x) to xs

abbrev pub total : List Shape → List ℕ → List ℕ → ℕ
total b m [] = 0
total b m (x ∷ xs) = size_at b m x + total b m xs

-- The words of those records that have a place.
abbrev pub placed : List Shape → List ℕ → List ℕ → ℕ
placed b m [] = 0
placed b m (x ∷ xs) = cond (slice_index m (x + 1) / 16 == 0) 0 (size_at b m x) + placed b m xs

-- The records of the four areas, by their addresses.
abbrev pub old_base : Halves → ℕ
old_base h = h.size - h.base

abbrev pub lows : List Shape → List ℕ → Halves → List ℕ
lows b m h = starts b m (h.size + 1) (old_base h) (old_base h + h.old_low)

abbrev pub highs : List Shape → List ℕ → Halves → List ℕ
highs b m h = starts b m (h.size + 1) (old_base h + h.old_high) (old_base h + h.size)

abbrev pub places : List Shape → List ℕ → Halves → List ℕ
places b m h = starts b m (h.size + 1) h.base (h.base + h.low)

abbrev pub mades : List Shape → List ℕ → Halves → List ℕ
mades b m h = starts b m (h.size + 1) (h.base + h.high) (h.base + h.size)

abbrev pub olds : List Shape → List ℕ → Halves → List ℕ
olds b m h = lows b m h ++ highs b m h

abbrev pub news : List Shape → List ℕ → Halves → List ℕ
news b m h = places b m h ++ mades b m h

-- Each area is filled by its records.
pub record Laid (b : List Shape) (m : List ℕ) (h : Halves) : Type 0 where
  pub fits : h.size + h.size ≤ length m
  pub side : (h.base == 0 || h.base == h.size) ≡ true
  pub ends : h.low ≤ h.high
  pub top : h.high ≤ h.size
  pub old_ends : h.old_low ≤ h.old_high
  pub old_top : h.old_high ≤ h.size
  pub lows_fill : old_base h + total b m (lows b m h) ≡ old_base h + h.old_low
  pub highs_fill : old_base h + h.old_high + total b m (highs b m h) ≡ old_base h + h.size
  pub places_fill : h.base + total b m (places b m h) ≡ h.base + h.low
  pub mades_fill : h.base + h.high + total b m (mades b m h) ≡ h.base + h.size
