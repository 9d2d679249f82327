-- What an idle of many steps does, from what each step does.
use Rattle.std.proofs.Common.{◌≡◌, ℕ, suc, ◌+◌, ◌<◌, ◌≤◌, Bool, true, false, ◌&&◌, eqb, ltb, refl, ap, ◌∙◌, arith}
use Rattle.std.proofs.lemmas.Bool.Decides.{nat_tests}
use Rattle.graph.specs.Meaning.{Meaning, live_words}
use Rattle.graph.specs.Cycle.{Idled}
use Rattle.graph.specs.Cycle.{stop, last, more}

-- What any idle does.
pub record Went (m : Meaning) (made : ℕ) (ended : Bool) (o : Meaning) : Type 0 where
  pub graph : o.graph ≡ m.graph
  pub book : o.book ≡ m.book
  pub charges : o.charges ≡ m.charges
  pub capacity : o.capacity ≡ m.capacity
  pub fixed : o.fixed ≡ m.fixed
  pub spare : m.spare ≤ o.spare
  pub resting : m.due ≡ 0 → made ≡ 0 → o.due ≡ 0
  pub start : m.due ≡ 0 → 0 < made → (made + o.due ≤ m.fixed + live_words m) × (o.kept ≤ live_words m)
  pub going : 0 < m.due → (made + o.due ≤ m.due) × (o.kept ≤ m.kept)
  pub on_made : ended ≡ false → 0 < made → 0 < o.due
  pub on : ended ≡ false → 0 < m.due → 0 < o.due
  pub end : ended ≡ true → (o.due ≡ 0) × (o.capacity ≤ o.spare + o.kept) × (0 < made)

pub went : {m : Meaning} {n made : ℕ} {ended : Bool} {o : Meaning} → Idled m n made ended o → Went m made ended o
went stop = grind arith
went (last st p) = grind arith
went (more st p r) =
    let w = went r in
    let g = w.going p in
    record { graph = w.graph ∙ st.graph; book = w.book ∙ st.book; charges = w.charges ∙ st.charges; capacity = w.capacity ∙ st.capacity; fixed = w.fixed ∙ st.fixed; spare = omega arith; resting = λ h k. omega arith; start = λ h k. let s = st.start h in omega arith; going = λ h. let s = st.other h in omega arith; on_made = λ e h. w.on e p; on = λ e h. w.on e p; end = λ e. let s = w.end e in omega arith }

-- An idle that ends no cycle makes all its steps.
pub whole : {m : Meaning} {n made : ℕ} {ended : Bool} {o : Meaning} → Idled m n made ended o → ended ≡ false → made ≡ n
whole stop e = refl
whole (last st p) e = cc
whole (more st p r) e = ap suc (whole r e)

-- Whether a cycle ended can be read from the steps and from what is due.
pub tells : {m : Meaning} {n made : ℕ} {ended : Bool} {o : Meaning} → Idled m n made ended o → ended ≡ (ltb 0 made && eqb o.due 0)
tells i = let w = went i in grind (arith, nat_tests)
