-- Openings, good and bad: the state is whole, and what it means.
use Rattle.std.proofs.Common.{rules, ◌≡◌, ℕ, ◌+◌, ◌/◌, ◌<◌, ◌≤◌, Bool, true, false, cond, ◌||◌, eqb, ltb, List, length, refl, zero-le, arith}
use Rattle.std.proofs.lemmas.Bool.{or_parts, ltb-false, eqb-false, ne_eqb, cond-false}
use Rattle.std.proofs.lemmas.List.{length-replicate}
use Rattle.kinds.specs.Shapes.{Shape}
use Rattle.graph.specs.Meaning.{Opened}
use Rattle.semispace.specs.Words.{State}
use Rattle.semispace.specs.Graphs.{Whole}
use Rattle.semispace.specs.Collected.{meaning_of}
use Rattle.graph.specs.Opening.{bad_opening, unless_bad}
use Rattle.semispace.specs.Opening.{opened, opened_meaning}
use Rattle.semispace.proofs.Opening.{opening_sound, opening_known, opening_graph, opening_kept, opening_due}

record Good (words slots first : ℕ) : Type 0 where
  pub small : words ≤ 16384
  pub some : 0 < slots
  pub few : slots ≤ 64
  pub above : 0 < first

good : (words slots first : ℕ) → bad_opening words slots first ≡ false → Good words slots first
good words slots first e =
    let a = or_parts (ltb 16384 words) (eqb slots 0 || (ltb 64 slots || eqb first 0)) e in
    let b = or_parts (eqb slots 0) (ltb 64 slots || eqb first 0) a.1 in
    let c = or_parts (ltb 64 slots) (eqb first 0) b.1 in
    let y : slots ≡ 0 → ⊥ = eqb-false slots 0 b.0 in
    let z : first ≡ 0 → ⊥ = eqb-false first 0 c.1 in
    record { small = ltb-false 16384 words a.0; some = omega arith; few = ltb-false 64 slots c.0; above = omega arith }

-- what holds of the count and the half, be the opening good or bad
pub record Sized (words slots first : ℕ) (bad : Bool) : Type 0 where
  pub few : unless_bad bad slots ≤ 64
  pub fits : unless_bad bad (words / 2) + unless_bad bad (words / 2) ≤ words
  pub small : unless_bad bad (words / 2) ≤ 8192
  pub numbered : 0 < unless_bad bad slots → 0 < first
  pub answers : ◌≡◌ {A = ℕ} (cond (eqb (unless_bad bad slots) 0) 10 0) (cond bad 10 0)

sized_by : (words slots first : ℕ) (bad : Bool) → (bad ≡ false → Good words slots first) → Sized words slots first bad
sized_by words slots first true f = record { few = zero-le; fits = zero-le; small = zero-le; numbered = λ z. absurd (omega arith); answers = refl }
sized_by words slots first false f =
    let g = f refl in
    let z : 0 < slots = g.some in
    let l : words ≤ 16384 = g.small in
    record { few = g.few; fits = omega arith; small = omega arith; numbered = λ _. g.above; answers = cond-false (eqb slots 0) 10 0 (ne_eqb slots 0 (λ e. omega arith)) }

pub sized : (words slots first : ℕ) → Sized words slots first (bad_opening words slots first)
sized words slots first = sized_by words slots first (bad_opening words slots first) (good words slots first)

module _ (memory : List ℕ) (slots : ℕ) (book : List Shape) (first : ℕ) where
  abbrev s : State
  s = opened memory slots book first

  abbrev half : ℕ
  half = unless_bad (bad_opening (length memory) slots first) (length memory / 2)

  abbrev count : ℕ
  count = unless_bad (bad_opening (length memory) slots first) slots

  pub opened_whole : Whole s
  opened_whole =
      let z = sized (length memory) slots first in
      record { sound = opening_sound memory half count book first z.fits z.small z.few; known = opening_known memory half count book first z.fits z.small z.few z.numbered }

  pub opened_means : meaning_of s ≡ opened_meaning (length memory) slots book first
  opened_means = grind (arith, sized, opening_graph, opening_kept, opening_due)

  pub opened_opened : Opened first (meaning_of s)
  opened_opened = search (rules, arith, opened_means, length-replicate)
