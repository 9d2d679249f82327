-- A heap of no words has the meaning of a collected heap.
use Rattle.std.proofs.Common.{◌≡◌, ℕ, zero, suc, true, false, sym, refl, subst, arith}
use Rattle.graph.specs.Graph.{prune, sort}
use Rattle.graph.specs.Calls.{spare, word, after, live}
use Rattle.graph.specs.Meaning.{gave, Called}
use Rattle.graph.specs.Cycle.{Step, Idled, stop, last}
use Rattle.trials.specs.Hollow.{hollow}

pub spare_called : (first : ℕ) → Called (hollow first) spare (gave (word 0)) (hollow first)
unfolding after prune sort
spare_called first =
    (refl, record { fine = refl; graph = refl; book = refl; charges = refl; capacity = refl; fixed = refl; spare = refl; due = omega arith; still = λ z. absurd (omega arith); kept = omega arith })

step : (first : ℕ) → Step (hollow first) (hollow first)
unfolding live
step first =
    record {
      graph = refl;
      book = refl;
      charges = refl;
      capacity = refl;
      fixed = refl;
      spare = omega arith;
      bound = omega arith;
      start = λ _. (omega arith, omega arith);
      other = λ z. absurd (omega arith);
      end = λ _. omega arith;
    }

pub none_idled : (first count : ℕ) → count ≡ 0 → Idled (hollow first) count 0 false (hollow first)
none_idled first count e = subst (λ n. Idled (hollow first) n 0 false (hollow first)) (sym e) stop

pub one_idled : (first count : ℕ) → (count ≡ 0 → ⊥) → Idled (hollow first) count 1 true (hollow first)
one_idled first zero ne = absurd (ne refl)
one_idled first (suc count) ne = last (step first) refl
