-- Reaching over a list of addresses.
use Rattle.std.specs.Prelude.{ℕ, zero, suc, ◌+◌, Bool, false, cond, ◌&&◌, ◌||◌, List, [], ◌∷◌, length}

-- Does the test pass for some element?
abbrev pub some : (ℕ → Bool) → List ℕ → Bool
some p [] = false
some p (x ∷ xs) = p x || some p xs

-- What roots reach over the edges out of the elements of a list, in at most so many rounds.
unfoldable pub reach_in : List ℕ → (ℕ → ℕ → Bool) → (ℕ → Bool) → ℕ → ℕ → Bool
reach_in u e r zero x = r x
reach_in u e r (suc k) x = reach_in u e r k x || some (λ y. reach_in u e r k y && e y x) u

-- As many rounds as there are elements suffice.
unfoldable pub reached : List ℕ → (ℕ → ℕ → Bool) → (ℕ → Bool) → ℕ → Bool
reached u e r x = reach_in u e r (length u) x

abbrev pub sum_where : (ℕ → Bool) → (ℕ → ℕ) → List ℕ → ℕ
sum_where p f [] = 0
sum_where p f (x ∷ xs) = cond (p x) (f x) 0 + sum_where p f xs
