-- Live words: what they are after a call, and over parts of a list.
use Rattle.std.proofs.Common.{◌≡◌, ℕ, ◌+◌, ◌<◌, ◌≤◌, Bool, true, not, eqb, List, [], ◌∷◌, map, get_or, sym, refl, ap, ◌∙◌, subst, inl, inr, ⊎_elim, zero-le, arith}
use Rattle.std.proofs.lemmas.Bool.{cond_both, cond-true, cond-false, ne_eqb, eq-eqb, not_from_false, not_from_true}
use Rattle.kinds.specs.Shapes.{Shape}
use Rattle.graph.specs.Graph.{Record, Graph, ◌∈◌, reached, select}
use Rattle.graph.specs.Calls.{Call, make, read, write, follow, link, hold, drop, look, spare, put, fresh, slot, changed, after, total, live, paid}
use Rattle.graph.specs.Sound.{Distinct, Sound, Allowed}
use Rattle.graph.proofs.Reach.{reached_sound, reached_complete}
use Rattle.graph.proofs.Order.{total_select, select_in}
use Rattle.graph.proofs.Prune.{live_prune}
use Rattle.graph.proofs.Changes.{put_number, put_kind}
use Rattle.graph.proofs.Laws.{call_down}

pub total_select_map : (cs : List ℕ) (p q : Record → Bool) (f : Record → Record) (rs : List Record) → ((r : Record) → (f r).kind ≡ r.kind) → ((r : Record) → r ∈ rs → p (f r) ≡ true → q r ≡ true) → total cs (select p (map f rs)) ≤ total cs (select q rs)
total_select_map cs p q f [] same ok = zero-le
total_select_map cs p q f (r ∷ rs) same ok =
    let h : total cs (select p (map f rs)) ≤ total cs (select q rs) = total_select_map cs p q f rs same (λ s i. ok s (inr i)) in
    let e : get_or cs (f r).kind 0 ≡ get_or cs r.kind 0 = ap (λ k. get_or cs k 0) (same r) in
    cond_both (p (f r)) (f r ∷ select p (map f rs)) (select p (map f rs)) (λ l. total cs l ≤ total cs (select q (r ∷ rs)))
    (λ b. rw (cond-true (q r) (r ∷ select q rs) (select q rs) (ok r (inl refl) b)) (omega arith))
    (λ _. cond_both (q r) (r ∷ select q rs) (select q rs) (λ l. total cs (select p (map f rs)) ≤ total cs l) (λ _. omega arith) (λ _. h))

module _ (book : List Shape) (cs : List ℕ) (g : Graph) (s : Sound book g) (c : Call) (p : Allowed book g c) where
  narrow : (r : Record) → r ∈ g.records → reached book (changed book g c) r.number ≡ true → reached book g r.number ≡ true
  narrow r i b =
      ⊎_elim (λ q. reached_complete book g q) (λ e. let l : r.number < g.next = (s.given r i).1 in let d : r.number ≡ g.next = e.1 in absurd (omega arith)) (call_down book g s c p (reached_sound book (changed book g c) r.number b))

  -- what is live among the old records, and among them with one field changed
  same_records : total cs (select (λ (r : Record). reached book (changed book g c) r.number) g.records) ≤ live book cs g
  unfolding live
  same_records = total_select cs (λ r. reached book (changed book g c) r.number) (λ r. reached book g r.number) g.records narrow

  put_records : (n i v : ℕ) → total cs (select (λ (r : Record). reached book (changed book g c) r.number) (map (put n i v) g.records)) ≤ live book cs g
  unfolding live
  put_records n i v =
      total_select_map cs (λ r. reached book (changed book g c) r.number) (λ r. reached book g r.number) (put n i v) g.records (put_kind n i v)
      (λ r j b. narrow r j (subst (λ m. reached book (changed book g c) m ≡ true) (put_number n i v r) b))

raw_live : (book : List Shape) (cs : List ℕ) (g : Graph) → Sound book g → (c : Call) → Allowed book g c → live book cs (changed book g c) ≤ live book cs g + paid cs c
unfolding live
raw_live book cs g s (make a k) p =
    let c = make a k in
    let h : total cs (select (λ (r : Record). reached book (changed book g c) r.number) g.records) ≤ live book cs g = same_records book cs g s c p in
    let P : List Record → Type 0 = λ l. total cs l ≤ live book cs g + get_or cs k 0 in
    cond_both (reached book (changed book g c) g.next) (fresh book g.next k ∷ select (λ (r : Record). reached book (changed book g c) r.number) g.records) (select (λ (r : Record). reached book (changed book g c) r.number) g.records) P (λ _. omega arith) (λ _. omega arith)
raw_live book cs g s (read a i) p = omega arith
raw_live book cs g s (write a i w) p = omega (arith, put_records book cs g s (write a i w) p (slot g a) i w)
raw_live book cs g s (follow a i b) p = omega (arith, same_records book cs g s (follow a i b) p)
raw_live book cs g s (link a i b) p = omega (arith, put_records book cs g s (link a i b) p (slot g a) i (slot g b))
raw_live book cs g s (hold a b) p = omega (arith, same_records book cs g s (hold a b) p)
raw_live book cs g s (drop a) p = omega (arith, same_records book cs g s (drop a) p)
raw_live book cs g s (look a) p = omega arith
raw_live book cs g s spare p = omega arith

-- Live words rise only by what a make pays.
pub call_live : (book : List Shape) (cs : List ℕ) (g : Graph) → Sound book g → (c : Call) → Allowed book g c → live book cs (after book g c) ≤ live book cs g + paid cs c
unfolding after
call_live book cs g s c p = subst (λ n. n ≤ live book cs g + paid cs c) (sym (live_prune book cs (changed book g c))) (raw_live book cs g s c p)

-- Records with distinct numbers, each of which is among others, cost no more than those.
apart_from : (n : ℕ) → Record → Bool
apart_from n r = not (eqb r.number n)

total_apart : (cs : List ℕ) (n : ℕ) (ys : List Record) → total cs (select (apart_from n) ys) ≤ total cs ys
total_apart cs n [] = zero-le
total_apart cs n (y ∷ ys) = let h : total cs (select (apart_from n) ys) ≤ total cs ys = total_apart cs n ys in cond_both (apart_from n y) (y ∷ select (apart_from n) ys) (select (apart_from n) ys) (λ l. total cs l ≤ total cs (y ∷ ys)) (λ _. omega arith) (λ _. omega arith)

total_without : (cs : List ℕ) (n : ℕ) (ys : List Record) (s : Record) → s ∈ ys → s.number ≡ n → total cs (select (apart_from n) ys) + get_or cs s.kind 0 ≤ total cs ys
unfolding apart_from
total_without cs n [] s i e = absurd i
total_without cs n (y ∷ ys) s (inl p) e =
    let h : total cs (select (apart_from n) ys) ≤ total cs ys = total_apart cs n ys in
    let k : get_or cs s.kind 0 ≡ get_or cs y.kind 0 = ap (λ (r : Record). get_or cs r.kind 0) p in
    rw (cond-false (apart_from n y) (y ∷ select (apart_from n) ys) (select (apart_from n) ys) (not_from_true (eqb y.number n) (eq-eqb y.number n (ap (λ (r : Record). r.number) (sym p) ∙ e)))) (omega arith)
total_without cs n (y ∷ ys) s (inr i) e =
    let h : total cs (select (apart_from n) ys) + get_or cs s.kind 0 ≤ total cs ys = total_without cs n ys s i e in
    cond_both (apart_from n y) (y ∷ select (apart_from n) ys) (select (apart_from n) ys) (λ l. total cs l + get_or cs s.kind 0 ≤ total cs (y ∷ ys)) (λ _. omega arith) (λ _. omega arith)

pub total_among : (cs : List ℕ) (xs ys : List Record) → Distinct xs → ((r : Record) → r ∈ xs → (s : Record) × (s ∈ ys) × (s.number ≡ r.number) × (s.kind ≡ r.kind)) → total cs xs ≤ total cs ys
unfolding apart_from
total_among cs [] ys d f = zero-le
total_among cs (x ∷ xs) ys d f =
    let t = f x (inl refl) in
    let rest : total cs xs ≤ total cs (select (apart_from x.number) ys) = total_among cs xs (select (apart_from x.number) ys) d.1 (λ r i. let u = f r (inr i) in (u.0, select_in (apart_from x.number) ys u.0 u.1 (not_from_false (eqb u.0.number x.number) (ne_eqb u.0.number x.number (λ e. d.0 r i (sym e ∙ u.2)))), u.2, u.3)) in
    let h : total cs (select (apart_from x.number) ys) + get_or cs t.0.kind 0 ≤ total cs ys = total_without cs x.number ys t.0 t.1 t.2 in
    let k : get_or cs t.0.kind 0 ≡ get_or cs x.kind 0 = ap (λ n. get_or cs n 0) t.3 in
    omega arith
