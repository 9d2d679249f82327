-- A full book refuses a kind.
use Rattle.std.proofs.Common.{◌≡◌, ℕ, ◌≤◌, ltb, List, length, Ok, Err, Result, sym, ap, ◌∙◌}
use Rattle.std.proofs.lemmas.Bool.{cond-false, le-ltb}
use Rattle.kinds.specs.Shapes.{Shape}
use Rattle.kinds.specs.Books.{numbered, extended}

pub full_answer : (kinds : List Shape) (s : Shape) (w : Result Shape ℕ) → 16 ≤ length kinds → Ok s ≡ w → Err 11 ≡ numbered kinds w
full_answer kinds s w h e = sym (cond-false (ltb (length kinds) 16) _ _ (le-ltb (length kinds) 16 h)) ∙ ap (numbered kinds) e

pub full_list : (kinds : List Shape) (s : Shape) (w : Result Shape ℕ) → 16 ≤ length kinds → Ok s ≡ w → kinds ≡ extended kinds w
full_list kinds s w h e = sym (cond-false (ltb (length kinds) 16) _ _ (le-ltb (length kinds) 16 h)) ∙ ap (extended kinds) e
