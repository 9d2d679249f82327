-- Lists of records: membership, order by number, what is selected, and totals.
use Rattle.std.proofs.Common.{◌≡◌, ℕ, ◌+◌, ◌<◌, ◌≤◌, Bool, true, leb, ◌⊎◌, List, [], ◌∷◌, get_or, sym, refl, ap, ◌∙◌, subst, inl, inr, ⊎_elim, zero-le, arith}
use Rattle.std.proofs.lemmas.Bool.{cond_both, cond-true, leb-true, leb-false}
use Rattle.graph.specs.Graph.{Record, ◌∈◌, insert, sort, select}
use Rattle.graph.specs.Calls.{total}
use Rattle.graph.specs.Sound.{Distinct, Rising}
use Rattle.std.proofs.lemmas.Grind.{common_steps}

-- two rising lists with the same records are one list
apart : (r s : Record) → r.number < s.number → s ≡ r → ⊥
apart r s l e = grind (arith, common_steps)

heads : (x y : Record) (xs ys : List Record) → Rising (x ∷ xs) → Rising (y ∷ ys) → (x ≡ y) ⊎ (x ∈ ys) → (y ≡ x) ⊎ (y ∈ xs) → x ≡ y
heads x y xs ys a b (inl e) q = e
heads x y xs ys a b (inr i) (inl e) = sym e
heads x y xs ys a b (inr i) (inr j) = grind (arith, common_steps)

tails : (x y : Record) (xs ys : List Record) → Rising (x ∷ xs) → x ≡ y → ((r : Record) → r ∈ (x ∷ xs) → r ∈ (y ∷ ys)) → (r : Record) → r ∈ xs → r ∈ ys
tails x y xs ys a e f r i = grind (arith, common_steps)

pub rising_same : (xs ys : List Record) → Rising xs → Rising ys → ((r : Record) → r ∈ xs → r ∈ ys) → ((r : Record) → r ∈ ys → r ∈ xs) → xs ≡ ys
rising_same [] [] a b f h = refl
rising_same [] (y ∷ ys) a b f h = absurd (h y (inl refl))
rising_same (x ∷ xs) [] a b f h = absurd (f x (inl refl))
rising_same (x ∷ xs) (y ∷ ys) a b f h =
    let e : x ≡ y = heads x y xs ys a b (f x (inl refl)) (h y (inl refl)) in
    let rest : xs ≡ ys = rising_same xs ys a.1 b.1 (tails x y xs ys a e f) (tails y x ys xs b (sym e) h) in
    cc

pub in_insert : (r : Record) (ss : List Record) (t : Record) → t ∈ insert r ss → (t ≡ r) ⊎ (t ∈ ss)
in_insert r [] t h = h
in_insert r (s ∷ ss) t h =
    cond_both (leb r.number s.number) (r ∷ s ∷ ss) (s ∷ insert r ss) (λ l. t ∈ l → (t ≡ r) ⊎ (t ∈ (s ∷ ss)))
    (λ _ k. k)
    (λ _. ⊎_elim (λ e. inr (inl e)) (λ i. ⊎_elim (λ e. inl e) (λ k. inr (inr k)) (in_insert r ss t i)))
    h

pub insert_in : (r : Record) (ss : List Record) (t : Record) → (t ≡ r) ⊎ (t ∈ ss) → t ∈ insert r ss
insert_in r [] t h = h
insert_in r (s ∷ ss) t h =
    cond_both (leb r.number s.number) (r ∷ s ∷ ss) (s ∷ insert r ss) (λ l. t ∈ l)
    (λ _. h)
    (λ _. ⊎_elim (λ e. inr (insert_in r ss t (inl e))) (⊎_elim (λ e. inl e) (λ k. inr (insert_in r ss t (inr k)))) h)

pub insert_rising : (r : Record) (ss : List Record) → Rising ss → ((s : Record) → s ∈ ss → r.number ≡ s.number → ⊥) → Rising (insert r ss)
insert_rising r [] a f = ((λ s i. absurd i), tt)
insert_rising r (s ∷ ss) a f =
    cond_both (leb r.number s.number) (r ∷ s ∷ ss) (s ∷ insert r ss) Rising
    (λ e. let l : r.number ≤ s.number = leb-true r.number s.number e in
    let n : r.number ≡ s.number → ⊥ = f s (inl refl) in
    let k : r.number < s.number = omega arith in
    ((λ t. ⊎_elim (λ p. subst (λ (q : Record). r.number < q.number) (sym p) k) (λ i. let m : s.number < t.number = a.0 t i in omega arith)), a))
    (λ e. let l : s.number < r.number = leb-false r.number s.number e in
    ((λ t i. ⊎_elim (λ p. subst (λ (q : Record). s.number < q.number) (sym p) l) (λ k. a.0 t k) (in_insert r ss t i)), insert_rising r ss a.1 (λ t i. f t (inr i))))

pub in_sort : (rs : List Record) (t : Record) → t ∈ sort rs → t ∈ rs
unfolding sort
in_sort [] t h = h
in_sort (r ∷ rs) t h = ⊎_elim (λ e. inl e) (λ i. inr (in_sort rs t i)) (in_insert r (sort rs) t h)

pub sort_in : (rs : List Record) (t : Record) → t ∈ rs → t ∈ sort rs
unfolding sort
sort_in [] t h = h
sort_in (r ∷ rs) t h = insert_in r (sort rs) t (⊎_elim (λ e. inl e) (λ i. inr (sort_in rs t i)) h)

pub sort_rising : (rs : List Record) → Distinct rs → Rising (sort rs)
unfolding sort
sort_rising [] d = tt
sort_rising (r ∷ rs) d = insert_rising r (sort rs) (sort_rising rs d.1) (λ s i. d.0 s (in_sort rs s i))

pub rising_distinct : (rs : List Record) → Rising rs → Distinct rs
rising_distinct [] a = tt
rising_distinct (r ∷ rs) a = ((λ s i e. let l : r.number < s.number = a.0 s i in omega arith), rising_distinct rs a.1)

pub in_select : (p : Record → Bool) (rs : List Record) (t : Record) → t ∈ select p rs → (t ∈ rs) × (p t ≡ true)
in_select p [] t h = absurd h
in_select p (r ∷ rs) t h =
    cond_both (p r) (r ∷ select p rs) (select p rs) (λ l. t ∈ l → (t ∈ (r ∷ rs)) × (p t ≡ true))
    (λ b. ⊎_elim (λ e. (inl e, subst (λ q. p q ≡ true) (sym e) b)) (λ i. let k = in_select p rs t i in (inr k.0, k.1)))
    (λ _ i. let k = in_select p rs t i in (inr k.0, k.1))
    h

pub select_in : (p : Record → Bool) (rs : List Record) (t : Record) → t ∈ rs → p t ≡ true → t ∈ select p rs
select_in p [] t i b = absurd i
select_in p (r ∷ rs) t (inl e) b = rw (cond-true (p r) (r ∷ select p rs) (select p rs) (subst (λ q. p q ≡ true) e b)) (inl e)
select_in p (r ∷ rs) t (inr i) b = cond_both (p r) (r ∷ select p rs) (select p rs) (λ l. t ∈ l) (λ _. inr (select_in p rs t i b)) (λ _. select_in p rs t i b)

pub select_distinct : (p : Record → Bool) (rs : List Record) → Distinct rs → Distinct (select p rs)
select_distinct p [] d = tt
select_distinct p (r ∷ rs) d =
    cond_both (p r) (r ∷ select p rs) (select p rs) Distinct
    (λ _. ((λ s i. d.0 s (in_select p rs s i).0), select_distinct p rs d.1))
    (λ _. select_distinct p rs d.1)

-- totals
pub total_insert : (cs : List ℕ) (r : Record) (ss : List Record) → total cs (insert r ss) ≡ get_or cs r.kind 0 + total cs ss
total_insert cs r [] = refl
total_insert cs r (s ∷ ss) =
    cond_both (leb r.number s.number) (r ∷ s ∷ ss) (s ∷ insert r ss) (λ l. total cs l ≡ get_or cs r.kind 0 + total cs (s ∷ ss))
    (λ _. refl)
    (λ _. let h : total cs (insert r ss) ≡ get_or cs r.kind 0 + total cs ss = total_insert cs r ss in omega arith)

pub total_sort : (cs : List ℕ) (rs : List Record) → total cs (sort rs) ≡ total cs rs
unfolding sort
total_sort cs [] = refl
total_sort cs (r ∷ rs) = total_insert cs r (sort rs) ∙ ap (λ n. get_or cs r.kind 0 + n) (total_sort cs rs)

-- A wider test keeps no less.
pub total_select : (cs : List ℕ) (p q : Record → Bool) (rs : List Record) → ((r : Record) → r ∈ rs → p r ≡ true → q r ≡ true) → total cs (select p rs) ≤ total cs (select q rs)
total_select cs p q [] f = zero-le
total_select cs p q (r ∷ rs) f =
    let h : total cs (select p rs) ≤ total cs (select q rs) = total_select cs p q rs (λ s i. f s (inr i)) in
    cond_both (p r) (r ∷ select p rs) (select p rs) (λ l. total cs l ≤ total cs (select q (r ∷ rs)))
    (λ b. rw (cond-true (q r) (r ∷ select q rs) (select q rs) (f r (inl refl) b)) (omega arith))
    (λ _. cond_both (q r) (r ∷ select q rs) (select q rs) (λ l. total cs (select p rs) ≤ total cs l) (λ _. omega arith) (λ _. h))

pub total_select_all : (cs : List ℕ) (p : Record → Bool) (rs : List Record) → total cs (select p rs) ≤ total cs rs
total_select_all cs p [] = zero-le
total_select_all cs p (r ∷ rs) =
    let h : total cs (select p rs) ≤ total cs rs = total_select_all cs p rs in
    cond_both (p r) (r ∷ select p rs) (select p rs) (λ l. total cs l ≤ total cs (r ∷ rs)) (λ _. omega arith) (λ _. omega arith)
