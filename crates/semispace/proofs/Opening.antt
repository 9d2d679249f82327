-- A heap just opened: its state keeps the invariant, and it means an empty graph.
use Rattle.std.proofs.Common.{rules, ◌≡◌, ℕ, zero, suc, ◌+◌, ◌-◌, ◌<◌, ◌≤◌, true, eqb, List, [], ◌∷◌, ◌++◌, map, length, get_or, replicate, refl, ap, ◌∙◌, ap₂, arith}
use Rattle.std.proofs.lemmas.List.{get_or-replicate, take-replicate}
use Rattle.std.proofs.lemmas.Bool.{or_left, true≢false, false≢true}
use Rattle.kinds.specs.Shapes.{Shape}
use Rattle.graph.specs.Graph.{prune, sort}
use Rattle.semispace.specs.Layout.{mem}
use Rattle.semispace.specs.Opening.{opening}
use Rattle.semispace.specs.Words.{State}
use Rattle.semispace.specs.Reach.{sum_where}
use Rattle.semispace.specs.Sound.{the_news, size_of, name, Sound}
use Rattle.semispace.specs.Dues.{objects, lives, kept, due}
use Rattle.semispace.specs.Graphs.{raw_of, graph_of, Known}
use Rattle.semispace.proofs.Spreads.{starts_none}
use Rattle.semispace.proofs.SlotSound.{good_none}
use Rattle.semispace.proofs.Knowing.{objects_rest}

names_zero : (s : State) (n : ℕ) → map (name s) (replicate n 0) ≡ replicate n 0
unfolding name
names_zero s zero = refl
names_zero s (suc n) = ap (λ xs. 0 ∷ xs) (names_zero s n)

-- Halves of h words over the memory m, with count slots.
module _ (m : List ℕ) (h : ℕ) (count : ℕ) (b : List Shape) (first : ℕ) (fits : h + h ≤ length m) (small : h ≤ 8192) (few : count ≤ 64) where
  pub no_news : the_news (opening m h count b first) ≡ []
  no_news = ap₂ (λ xs ys. xs ++ ys) (starts_none b m (h + 1) 0 (0 + 0) (omega arith)) (starts_none b m (h + 1) (0 + h) (0 + h) (omega arith))

  pub opening_sound : Sound (opening m h count b first)
  opening_sound = record {
    bounds = omega arith;
    laid = record {
      fits = omega arith;
      side = or_left (eqb 0 0) (eqb 0 h) refl;
      ends = omega arith;
      top = omega arith;
      old_ends = omega arith;
      old_top = omega arith;
      lows_fill = rw (starts_none b m (h + 1) (h - 0) (h - 0 + 0) (omega arith)) (omega arith);
      highs_fill = rw (starts_none b m (h + 1) (h - 0 + h) (h - 0 + h) (omega arith)) (omega arith);
      places_fill = rw (starts_none b m (h + 1) 0 (0 + 0) (omega arith)) (omega arith);
      mades_fill = rw (starts_none b m (h + 1) (0 + h) (0 + h) (omega arith)) (omega arith);
    };
    enough = few;
    at = tt;
    rest = λ r. omega arith;
    cycle = λ r. absurd (true≢false r);
    news_refer = λ x n m0 q o r. let k : mem x [] ≡ true = rw no_news at m0 in absurd (false≢true k);
    slots_passed = λ n q u. good_none (the_news (opening m h count b first)) (get_or (replicate 64 0) n 0) (get_or-replicate 64 n 0 0 (omega arith));
    plain = λ x m0. let k : mem x [] ≡ true = rw no_news at m0 in absurd (false≢true k);
  }

  none : (a : ℕ) → mem a (objects (opening m h count b first)) ≡ true → ⊥
  none a k = search (rules, arith, objects_rest, no_news)

  pub opening_known : (0 < count → 0 < first) → Known (opening m h count b first)
  opening_known l = search (rules, arith, none)

  no_objects : objects (opening m h count b first) ≡ []
  no_objects = objects_rest (opening m h count b first) refl ∙ no_news

  pub opening_graph : graph_of (opening m h count b first) ≡ record { slots = replicate count 0; next = first; records = [] }
  unfolding graph_of raw_of prune sort
  opening_graph = search (rules, arith, take-replicate, names_zero, no_objects)

  pub opening_kept : kept (opening m h count b first) ≡ 0
  unfolding kept
  opening_kept = ap (λ xs. sum_where (lives (opening m h count b first)) (size_of (opening m h count b first)) xs) no_objects

  pub opening_due : due (opening m h count b first) ≡ 0
  unfolding due
  opening_due = refl
