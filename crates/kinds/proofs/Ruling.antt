-- The test of the rules is the rules.
use Rattle.std.proofs.Common.{◌≡◌, ℕ, zero, suc, ◌+◌, ◌<◌, ◌≤◌, true, List, [], ◌∷◌, length, get_or, Some, None, Option, sym, refl, ap, ◌∙◌, arith}
use Rattle.std.proofs.lemmas.Bool.{false≢true, cond-true}
use Rattle.std.proofs.lemmas.Bool.Decides.{nat_tests}
use Rattle.std.proofs.lemmas.Option.{cond_some}
use Rattle.kinds.specs.Shapes.{Shape, within, runs_fit, lawful}
use Rattle.kinds.specs.Written.{preceded, pairs, passing, written}
use Rattle.kinds.specs.Laws.{Lawful, flat, numbers_of}

parts : (low fields : ℕ) (r : ℕ × ℕ) (rs : List (ℕ × ℕ)) → runs_fit low fields (r ∷ rs) ≡ true → (low ≤ r.0) × (1 ≤ r.1) × (r.0 + r.1 ≤ fields) × (runs_fit (r.0 + r.1 + 1) fields rs ≡ true)
parts low fields r rs h = grind (arith, nat_tests)

-- Run j begins at `low` or later, has a field, ends inside the fields, and before the next one begins.
fits_at : (low fields : ℕ) (rs : List (ℕ × ℕ)) → runs_fit low fields rs ≡ true → (j : ℕ) → j < length rs → (low ≤ (get_or rs j (0, 0)).0) × (1 ≤ (get_or rs j (0, 0)).1) × ((get_or rs j (0, 0)).0 + (get_or rs j (0, 0)).1 ≤ fields) × (suc j < length rs → (get_or rs j (0, 0)).0 + (get_or rs j (0, 0)).1 < (get_or rs (suc j) (0, 0)).0)
fits_at low fields [] h j l = absurd (omega arith)
fits_at low fields (r ∷ rs) h zero l =
    let p = parts low fields r rs h in
    (p.0, p.1, p.2, λ n. omega (arith, (fits_at (r.0 + r.1 + 1) fields rs p.3 0 (omega arith)).0))
fits_at low fields (r ∷ rs) h (suc j) l =
    let p = parts low fields r rs h in
    let q = fits_at (r.0 + r.1 + 1) fields rs p.3 j (omega arith) in
    (omega (arith, p.0, q.0), q.1, q.2, λ n. q.3 (omega arith))

fit_from : (low fields : ℕ) (rs : List (ℕ × ℕ)) → (0 < length rs → low ≤ (get_or rs 0 (0, 0)).0) → ((j : ℕ) → j < length rs → 1 ≤ (get_or rs j (0, 0)).1) → ((j : ℕ) → j < length rs → (get_or rs j (0, 0)).0 + (get_or rs j (0, 0)).1 ≤ fields) → ((j : ℕ) → suc j < length rs → (get_or rs j (0, 0)).0 + (get_or rs j (0, 0)).1 < (get_or rs (suc j) (0, 0)).0) → runs_fit low fields rs ≡ true
fit_from low fields [] first some inside apart = refl
fit_from low fields (r ∷ rs) first some inside apart =
    let rest = fit_from (r.0 + r.1 + 1) fields rs (λ l. omega (arith, apart 0 (omega arith))) (λ j l. some (suc j) (omega arith)) (λ j l. inside (suc j) (omega arith)) (λ j l. apart (suc j) (omega arith)) in
    grind (arith, nat_tests, first, some 0, inside 0)

below_of : (low fields : ℕ) (rs : List (ℕ × ℕ)) (i : ℕ) → runs_fit low fields rs ≡ true → within rs i ≡ true → i < fields
below_of low fields [] i h w = absurd (false≢true w)
below_of low fields (r ∷ rs) i h w = grind (arith, nat_tests, parts low fields r rs h, below_of (r.0 + r.1 + 1) fields rs i)

pub keeps : (s : Shape) → lawful s ≡ true → Lawful s
keeps s h =
    let fits = fits_at 0 s.fields s.runs (grind (arith, nat_tests)) in
    record {
      few_fields = grind (arith, nat_tests);
      few_runs = grind (arith, nat_tests);
      not_empty = λ j l. (fits j l).1;
      inside = λ j l. (fits j l).2;
      apart = λ j l. (fits j (omega arith)).3 l;
    }

pub passes : (s : Shape) → Lawful s → lawful s ≡ true
passes s h =
    let fits = fit_from 0 s.fields s.runs (λ l. omega arith) h.not_empty h.inside h.apart in
    grind (arith, nat_tests, h.few_fields, h.few_runs)

pub below : (s : Shape) (i : ℕ) → lawful s ≡ true → within s.runs i ≡ true → i < s.fields
below s i h w = below_of 0 s.fields s.runs i (grind (arith, nat_tests)) w

-- Numbers and the runs that they write.
pairs_flat : (rs : List (ℕ × ℕ)) → pairs (flat rs) ≡ Some rs
pairs_flat [] = refl
pairs_flat (r ∷ rs) = ap (preceded r) (pairs_flat rs)

two_more : (x y : ℕ) (ns : List ℕ) (o : Option (List (ℕ × ℕ))) (rs : List (ℕ × ℕ)) → ((qs : List (ℕ × ℕ)) → o ≡ Some qs → ns ≡ flat qs) → preceded (x, y) o ≡ Some rs → x ∷ (y ∷ ns) ≡ flat rs
two_more x y ns None rs ih e = cc
two_more x y ns (Some qs) rs ih e =
    let p : (x, y) ∷ qs ≡ rs = cc in
    ap (λ zs. x ∷ (y ∷ zs)) (ih qs refl) ∙ ap flat p

flat_of : (ns : List ℕ) (rs : List (ℕ × ℕ)) → pairs ns ≡ Some rs → ns ≡ flat rs
flat_of [] rs e = let p : [] ≡ rs = cc in ap flat p
flat_of (x ∷ []) rs e = cc
flat_of (x ∷ (y ∷ ns)) rs e = two_more x y ns (pairs ns) rs (λ qs p. flat_of ns qs p) e

pub accepts : (s : Shape) → Lawful s → written (numbers_of s) ≡ Some s
accepts s h = ap (passing lawful s.fields) (pairs_flat s.runs) ∙ cond-true (lawful s) _ _ (passes s h)

only_runs : (n : ℕ) (ns : List ℕ) (o : Option (List (ℕ × ℕ))) (s : Shape) → pairs ns ≡ o → passing lawful n o ≡ Some s → (n ∷ ns ≡ numbers_of s) × Lawful s
only_runs n ns None s p e = absurd cc
only_runs n ns (Some rs) s p e =
    let made : Shape = record { fields = n; runs = rs } in
    let h = cond_some (lawful made) made s e in
    (ap (λ zs. n ∷ zs) (flat_of ns rs p) ∙ ap numbers_of h.1, keeps s (ap lawful (sym h.1) ∙ h.0))

pub only : (numbers : List ℕ) (s : Shape) → written numbers ≡ Some s → (numbers ≡ numbers_of s) × Lawful s
only [] s e = absurd cc
only (n ∷ ns) s e = only_runs n ns (pairs ns) s refl e
