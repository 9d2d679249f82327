-- The old record of a place, from the test and back.
use Rattle.std.proofs.Common.{◌≡◌, ℕ, ◌+◌, true, eqb}
use Rattle.std.proofs.lemmas.Bool.{eqb-true, eq-eqb}
use Rattle.semispace.specs.Words.{State, place_of}
use Rattle.semispace.specs.Sound.{the_olds}
use Rattle.semispace.specs.Graphs.{Sourced, has_source}
use Rattle.semispace.proofs.Reaching.{some_from, some_is}

pub source_of : (s : State) (p : ℕ) → has_source s p ≡ true → Sourced s p
unfolding has_source
source_of s p h =
    let r = some_is (λ o. eqb (place_of s o) (p + 1)) (the_olds s) h in
    record { from = r.0; old = r.1; place = eqb-true (place_of s r.0) (p + 1) r.2 }

pub has_from : (s : State) (p : ℕ) → Sourced s p → has_source s p ≡ true
unfolding has_source
has_from s p q = some_from (λ o. eqb (place_of s o) (p + 1)) (the_olds s) q.from q.old (eq-eqb (place_of s q.from) (p + 1) q.place)
