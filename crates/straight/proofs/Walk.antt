-- Records one after another: what the walk over the words finds, and what a write and a new record leave of it.
use Rattle.std.proofs.Common.{◌≡◌, ℕ, zero, suc, ◌+◌, ◌*◌, ◌<◌, ◌≤◌, ltb, ◌⊎◌, List, [], ◌∷◌, ◌++◌, length, get_or, set, sym, refl, ap, ◌∙◌, subst, inl, inr, ⊎_elim, arith}
use Rattle.std.proofs.lemmas.Bool.{cond_both, cond-true, cond-false, le-ltb, lt-ltb}
use Rattle.std.proofs.lemmas.List.{get_or-set_other}
use Rattle.kinds.specs.Shapes.{Shape}
use Rattle.graph.specs.Graph.{size, ◌∈◌}
use Rattle.graph.specs.View.{Once}
use Rattle.straight.specs.Layout.{span, starts, end_of, places}

module _ (book : List Shape) where
  abbrev Run : List ℕ → ℕ → List ℕ → ℕ → Type 0
  Run mem p [] top = p ≡ top
  Run mem p (q ∷ qs) top = (q ≡ p) × Run mem (p + span book mem p) qs top

  span_is : (mem : List ℕ) (p : ℕ) → span book mem p ≡ 2 + size book (get_or mem (p + 1) 0)
  unfolding span
  span_is mem p = refl

  starts_run : (mem : List ℕ) (f top p : ℕ) → end_of book mem p (starts book mem f top p) ≡ top → Run mem p (starts book mem f top p) top
  unfolding starts end_of
  starts_run mem zero top p e = e
  starts_run mem (suc f) top p e =
      cond_both (ltb p top) (p ∷ starts book mem f top (p + span book mem p)) [] (λ l. end_of book mem p l ≡ top → Run mem p l top)
      (λ _ d. (refl, starts_run mem f top (p + span book mem p) d)) (λ _ d. d) e

  run_end : (mem : List ℕ) (qs : List ℕ) (p top : ℕ) → Run mem p qs top → end_of book mem p qs ≡ top
  unfolding end_of
  run_end mem [] p top r = r
  run_end mem (q ∷ qs) p top r = run_end mem qs (p + span book mem p) top r.1

  run_long : (mem : List ℕ) (qs : List ℕ) (p top : ℕ) → Run mem p qs top → p + 2 * length qs ≤ top
  run_long mem [] p top r = omega arith
  run_long mem (q ∷ qs) p top r =
      let h : p + span book mem p + 2 * length qs ≤ top = run_long mem qs (p + span book mem p) top r.1 in
      let s : span book mem p ≡ 2 + size book (get_or mem (p + 1) 0) = span_is mem p in
      omega arith

  run_starts : (mem : List ℕ) (qs : List ℕ) (p f top : ℕ) → Run mem p qs top → length qs ≤ f → starts book mem f top p ≡ qs
  unfolding starts
  run_starts mem [] p zero top r l = refl
  run_starts mem [] p (suc f) top r l = cond-false (ltb p top) (p ∷ starts book mem f top (p + span book mem p)) [] (le-ltb p top (omega arith))
  run_starts mem (q ∷ qs) p zero top r l = absurd (omega arith)
  run_starts mem (q ∷ qs) p (suc f) top r l =
      let h : p + 2 * length (q ∷ qs) ≤ top = run_long mem (q ∷ qs) p top r in
      let e : q ≡ p = r.0 in
      let t : starts book mem f top (p + span book mem p) ≡ qs = run_starts mem qs (p + span book mem p) f top r.1 (omega arith) in
      cond-true (ltb p top) (p ∷ starts book mem f top (p + span book mem p)) [] (lt-ltb p top (omega arith)) ∙ cc

  run_in : (mem : List ℕ) (qs : List ℕ) (p top q : ℕ) → Run mem p qs top → q ∈ qs → (p ≤ q) × (q + span book mem q ≤ top)
  run_in mem [] p top q r i = absurd i
  run_in mem (x ∷ xs) p top q r (inl e) =
      let h : p + span book mem p + 2 * length xs ≤ top = run_long mem xs (p + span book mem p) top r.1 in
      let d : q ≡ p = e ∙ r.0 in
      subst (λ y. (p ≤ y) × (y + span book mem y ≤ top)) (sym d) (omega arith, omega arith)
  run_in mem (x ∷ xs) p top q r (inr i) =
      let h : (p + span book mem p ≤ q) × (q + span book mem q ≤ top) = run_in mem xs (p + span book mem p) top q r.1 i in
      (omega arith, h.1)

  run_apart : (mem : List ℕ) (qs : List ℕ) (p top q r : ℕ) → Run mem p qs top → q ∈ qs → r ∈ qs → (q ≡ r) ⊎ ((q + span book mem q ≤ r) ⊎ (r + span book mem r ≤ q))
  run_apart mem [] p top q r s i j = absurd i
  run_apart mem (x ∷ xs) p top q r s (inl a) (inl b) = inl (a ∙ sym b)
  run_apart mem (x ∷ xs) p top q r s (inl a) (inr j) =
      let h : p + span book mem p ≤ r = (run_in mem xs (p + span book mem p) top r s.1 j).0 in
      inr (inl (subst (λ y. y + span book mem y ≤ r) (sym (a ∙ s.0)) h))
  run_apart mem (x ∷ xs) p top q r s (inr i) (inl b) =
      let h : p + span book mem p ≤ q = (run_in mem xs (p + span book mem p) top q s.1 i).0 in
      inr (inr (subst (λ y. y + span book mem y ≤ q) (sym (b ∙ s.0)) h))
  run_apart mem (x ∷ xs) p top q r s (inr i) (inr j) = run_apart mem xs (p + span book mem p) top q r s.1 i j

  run_once : (mem : List ℕ) (qs : List ℕ) (p top : ℕ) → Run mem p qs top → Once qs
  run_once mem [] p top r = tt
  run_once mem (x ∷ xs) p top r = (
    (λ i. let h : p + span book mem p ≤ x = (run_in mem xs (p + span book mem p) top x r.1 i).0 in
        let s : span book mem p ≡ 2 + size book (get_or mem (p + 1) 0) = span_is mem p in
        let e : x ≡ p = r.0 in omega arith),
    run_once mem xs (p + span book mem p) top r.1,
  )

  run_kept : (mem mem' : List ℕ) (qs : List ℕ) (p top : ℕ) → ((q : ℕ) → q ∈ qs → get_or mem' (q + 1) 0 ≡ get_or mem (q + 1) 0) → Run mem p qs top → Run mem' p qs top
  unfolding span
  run_kept mem mem' [] p top f r = r
  run_kept mem mem' (x ∷ xs) p top f r =
      let e : get_or mem' (p + 1) 0 ≡ get_or mem (p + 1) 0 = subst (λ y. get_or mem' (y + 1) 0 ≡ get_or mem (y + 1) 0) r.0 (f x (inl refl)) in
      (r.0, run_kept mem mem' xs (p + span book mem' p) top (λ q i. f q (inr i)) (subst (λ k. Run mem (p + (2 + size book k)) xs top) (sym e) r.1))

  run_push : (mem : List ℕ) (qs : List ℕ) (p top : ℕ) → Run mem p qs top → Run mem p (qs ++ (top ∷ [])) (top + span book mem top)
  run_push mem [] p top r = (sym r, ap (λ x. x + span book mem x) r)
  run_push mem (x ∷ xs) p top r = (r.0, run_push mem xs (p + span book mem p) top r.1)

  abbrev Laid : List ℕ → ℕ → Type 0
  Laid mem top = end_of book mem 0 (places book mem top) ≡ top

  laid_run : (mem : List ℕ) (top : ℕ) → Laid mem top → Run mem 0 (places book mem top) top
  laid_run mem top e = starts_run mem top top 0 e

  run_laid : (mem : List ℕ) (qs : List ℕ) (top : ℕ) → Run mem 0 qs top → (places book mem top ≡ qs) × Laid mem top
  run_laid mem qs top r =
      let h : 0 + 2 * length qs ≤ top = run_long mem qs 0 top r in
      let e : starts book mem top top 0 ≡ qs = run_starts mem qs 0 top top r (omega arith) in
      (e, subst (λ xs. end_of book mem 0 xs ≡ top) (sym e) (run_end mem qs 0 top r))

  pub laid_once : (mem : List ℕ) (top : ℕ) → Laid mem top → Once (places book mem top)
  laid_once mem top e = run_once mem (places book mem top) 0 top (laid_run mem top e)

  -- a record lies below the top
  pub place_below : (mem : List ℕ) (top p : ℕ) → Laid mem top → p ∈ places book mem top → p + 2 + size book (get_or mem (p + 1) 0) ≤ top
  place_below mem top p e i =
      let h : p + span book mem p ≤ top = (run_in mem (places book mem top) 0 top p (laid_run mem top e) i).1 in
      let s : span book mem p ≡ 2 + size book (get_or mem (p + 1) 0) = span_is mem p in
      omega arith

  pub none_laid : (mem : List ℕ) → Laid mem 0 × (places book mem 0 ≡ [])
  unfolding starts end_of
  none_laid mem = (refl, refl)

  -- a field is set
  module _ (mem : List ℕ) (top p i w : ℕ) (e : Laid mem top) (inside : p ∈ places book mem top) (below : i < size book (get_or mem (p + 1) 0)) where
    far : (q x : ℕ) → q ∈ places book mem top → q ≤ x → x < q + 2 + size book (get_or mem (q + 1) 0) → (q ≡ p → x ≡ p + 2 + i → ⊥) → x ≡ p + 2 + i → ⊥
    far q x j a b c d =
        let s : span book mem p ≡ 2 + size book (get_or mem (p + 1) 0) = span_is mem p in
        let t : span book mem q ≡ 2 + size book (get_or mem (q + 1) 0) = span_is mem q in
        ⊎_elim
        (λ y. c y d)
        (⊎_elim (λ (y : q + span book mem q ≤ p). omega arith) (λ (y : p + span book mem p ≤ q). omega arith))
        (run_apart mem (places book mem top) 0 top q p (laid_run mem top e) j inside)

    pub set_number : (q : ℕ) → q ∈ places book mem top → get_or (set mem (p + 2 + i) w) q 0 ≡ get_or mem q 0
    set_number q j = get_or-set_other mem (p + 2 + i) q w 0 (far q q j (omega arith) (omega arith) (λ a b. omega arith))

    pub set_kind : (q : ℕ) → q ∈ places book mem top → get_or (set mem (p + 2 + i) w) (q + 1) 0 ≡ get_or mem (q + 1) 0
    set_kind q j = get_or-set_other mem (p + 2 + i) (q + 1) w 0 (far q (q + 1) j (omega arith) (omega arith) (λ a b. omega arith))

    pub set_field : (q j : ℕ) → q ∈ places book mem top → j < size book (get_or mem (q + 1) 0) → (q ≡ p → j ≡ i → ⊥) → get_or (set mem (p + 2 + i) w) (q + 2 + j) 0 ≡ get_or mem (q + 2 + j) 0
    set_field q j m l ne = get_or-set_other mem (p + 2 + i) (q + 2 + j) w 0 (far q (q + 2 + j) m (omega arith) (omega arith) (λ a b. ne a (omega arith)))

    pub set_laid : (places book (set mem (p + 2 + i) w) top ≡ places book mem top) × Laid (set mem (p + 2 + i) w) top
    set_laid =
        run_laid (set mem (p + 2 + i) w) (places book mem top) top
        (run_kept mem (set mem (p + 2 + i) w) (places book mem top) 0 top set_kind (laid_run mem top e))

  -- a record is put at the top
  module _ (mem mem' : List ℕ) (top k : ℕ) (e : Laid mem top) (under : (x : ℕ) → x < top → get_or mem' x 0 ≡ get_or mem x 0) (kinded : get_or mem' (top + 1) 0 ≡ k) where
    pub low : (q : ℕ) → q ∈ places book mem top → q + 2 + size book (get_or mem (q + 1) 0) ≤ top
    low q j = place_below mem top q e j

    new_run : Run mem' 0 (places book mem top ++ (top ∷ [])) (top + (2 + size book k))
    unfolding span
    new_run =
        let r : Run mem' 0 (places book mem top) top = run_kept mem mem' (places book mem top) 0 top (λ q j. under (q + 1) (let h : q + 2 + size book (get_or mem (q + 1) 0) ≤ top = low q j in omega arith)) (laid_run mem top e) in
        subst (λ x. Run mem' 0 (places book mem top ++ (top ∷ [])) (top + (2 + size book x))) kinded (run_push mem' (places book mem top) 0 top r)

    pub push_laid : (places book mem' (top + (2 + size book k)) ≡ places book mem top ++ (top ∷ [])) × Laid mem' (top + (2 + size book k))
    push_laid = run_laid mem' (places book mem top ++ (top ∷ [])) (top + (2 + size book k)) new_run

pub in_append : (xs ys : List ℕ) (q : ℕ) → q ∈ (xs ++ ys) → (q ∈ xs) ⊎ (q ∈ ys)
in_append [] ys q i = inr i
in_append (x ∷ xs) ys q (inl e) = inl (inl e)
in_append (x ∷ xs) ys q (inr i) = ⊎_elim (λ a. inl (inr a)) (λ b. inr b) (in_append xs ys q i)

pub append_left : (xs ys : List ℕ) (q : ℕ) → q ∈ xs → q ∈ (xs ++ ys)
append_left [] ys q i = absurd i
append_left (x ∷ xs) ys q (inl e) = inl e
append_left (x ∷ xs) ys q (inr i) = inr (append_left xs ys q i)

pub append_right : (xs ys : List ℕ) (q : ℕ) → q ∈ ys → q ∈ (xs ++ ys)
append_right [] ys q i = i
append_right (x ∷ xs) ys q i = inr (append_right xs ys q i)
