-- A heap just opened: its state is whole, and it means an empty graph.
use Rattle.std.proofs.Common.{◌≡◌, ℕ, zero, suc, ◌-◌, ◌<◌, ◌≤◌, Bool, true, false, cond, eqb, List, [], ◌∷◌, map, length, get_or, replicate, sym, refl, ap, ◌∙◌, subst, zero-le, arith}
use Rattle.std.proofs.lemmas.List.{take-replicate, length-replicate}
use Rattle.kinds.specs.Shapes.{Shape}
use Rattle.graph.specs.Graph.{◌∈◌, prune, sort}
use Rattle.graph.specs.View.{View, raw}
use Rattle.graph.specs.Meaning.{Opened, headed_charges}
use Rattle.straight.specs.Words.{State, reference}
use Rattle.straight.specs.Layout.{places, name, view, names, raw_of, meaning_of}
use Rattle.straight.specs.Whole.{Whole}
use Rattle.graph.specs.Opening.{bad_opening, unless_bad}
use Rattle.straight.specs.Opening.{opened, opened_meaning}
use Rattle.straight.proofs.Walk.{none_laid}
use Rattle.std.proofs.lemmas.Grind.{common_steps}

record Good (words slots first : ℕ) : Type 0 where
  pub small : words ≤ 16384
  pub some : 0 < slots
  pub few : slots ≤ 64
  pub above : 0 < first

good : (words slots first : ℕ) → bad_opening words slots first ≡ false → Good words slots first
good words slots first e = grind (arith, common_steps)

-- what holds of the count and the room, be the opening good or bad
pub record Sized (words slots first : ℕ) (bad : Bool) : Type 0 where
  pub few : unless_bad bad slots ≤ 64
  pub fits : unless_bad bad words ≤ words
  pub small : unless_bad bad words ≤ 16384
  pub numbered : 0 < unless_bad bad slots → 0 < first
  pub answers : ◌≡◌ {A = ℕ} (cond (eqb (unless_bad bad slots) 0) 10 0) (cond bad 10 0)

sized_by : (words slots first : ℕ) (bad : Bool) → (bad ≡ false → Good words slots first) → Sized words slots first bad
sized_by words slots first true f = grind (arith, common_steps)
sized_by words slots first false f = grind (arith, common_steps)

pub sized : (words slots first : ℕ) → Sized words slots first (bad_opening words slots first)
sized words slots first = grind (arith, common_steps)

zeros : (n a : ℕ) → ◌≡◌ {A = ℕ} (get_or (replicate n 0) a 0) 0
zeros n a = grind (arith, common_steps)

module _ (memory : List ℕ) (slots : ℕ) (book : List Shape) (first : ℕ) where
  abbrev s : State
  s = opened memory slots book first

  nowhere : {X : Type 0} (p : ℕ) → p ∈ places book memory 0 → X
  nowhere p i = absurd (subst (λ xs. p ∈ xs) (none_laid book memory).1 i)

  pub opened_whole : length book ≤ 16 → first ≤ 4294967296 → Whole s
  opened_whole k f =
      let z = sized (length memory) slots first in
      record {
        few = z.few;
        array = z.few;
        inside = zero-le;
        fits = z.fits;
        small = z.small;
        numbers = f;
        first = z.numbered;
        kinds = k;
        laid = (none_laid book memory).0;
        records = record { kinds = λ p i. nowhere p i; given = λ p i. nowhere p i; apart = λ p q i j. nowhere p i; fields = λ p i. nowhere p i };
        slots = λ a l y. let e : reference s a ≡ 0 = zeros 64 a in let x : 0 < 0 = subst (λ n. 0 < n) e y in absurd (omega arith);
      }

  names_zero : (n : ℕ) → map (name memory) (replicate n 0) ≡ replicate n 0
  names_zero zero = refl
  names_zero (suc n) = ap (λ xs. 0 ∷ xs) (names_zero n)

  nothing : (v : View) (xs : List ℕ) → v.places ≡ [] → prune book (raw book v xs first) ≡ record { slots = xs; next = first; records = [] }
  unfolding prune raw sort
  nothing v xs e = grind (arith, common_steps)

  pub opened_means : meaning_of s ≡ opened_meaning (length memory) slots book first
  unfolding view
  opened_means =
      let n = unless_bad (bad_opening (length memory) slots first) slots in
      let e : names s ≡ replicate n 0 = ap (map (name memory)) (take-replicate n 64 0 (sized (length memory) slots first).few) ∙ names_zero n in
      let g : prune book (raw_of s) ≡ record { slots = replicate n 0; next = first; records = [] } = nothing (view book memory 0) (names s) (none_laid book memory).1 ∙ ap (λ xs. record { slots = xs; next = first; records = [] }) e in
      let r : s.room - 0 ≡ s.room = omega arith in
      λ i. record { graph = g i; book = book; charges = headed_charges book; capacity = s.room; fixed = 1; spare = r i; due = 0; kept = 0 }

  pub opened_opened : Opened first (meaning_of s)
  opened_opened =
      subst (Opened first) (sym opened_means)
      (record { slots = ap (λ n. replicate n 0) (sym (length-replicate (unless_bad (bad_opening (length memory) slots first) slots) 0)); records = refl; next = refl; spare = refl; due = refl })
