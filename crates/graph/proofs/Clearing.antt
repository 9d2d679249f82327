-- Words that are cleared: cited where a new record's fields are filled with 0, and by what that record shows.
use Rattle.std.proofs.Common.{◌≡◌, ℕ, zero, suc, ◌+◌, ◌-◌, ◌<◌, ◌≤◌, ◌≢◌, List, length, get_or, set, take, drop, replicate, refl, sym, ap, ◌∙◌, ⊎_elim, add-one, arith}
use Rattle.std.proofs.lemmas.Bool.{cases_eq}
use Rattle.std.proofs.lemmas.List.{length-set, get_or-set_same, get_or-set_other, length-replicate, length-take, length-drop}
use Rattle.std.proofs.lemmas.List.Edits.{fill_from_more}
use Rattle.std.proofs.lemmas.Slice.{put_mid-paste}
use Rattle.std.proofs.lemmas.Grind.{common_steps}
use Rattle.std.proofs.Math.Seq.{paste}
use borrow.Rule.Slice.PartMut.{put_mid}
use Rattle.graph.specs.Clearing.{cleared}

pub cleared_more : (m : List ℕ) (a n : ℕ) → cleared m a (n + 1) ≡ set (cleared m a n) (a + n) 0
unfolding cleared
cleared_more m a n = rw (add-one n)

pub cleared_none : (m : List ℕ) (a : ℕ) → cleared m a 0 ≡ m
unfolding cleared
cleared_none m a = refl

pub cleared_length : (m : List ℕ) (a n : ℕ) → length (cleared m a n) ≡ length m
unfolding cleared
cleared_length m a zero = refl
cleared_length m a (suc n) = length-set (cleared m a n) (a + n) 0 ∙ cleared_length m a n

pub cleared_under : (m : List ℕ) (a n x : ℕ) → x < a → get_or (cleared m a n) x 0 ≡ get_or m x 0
unfolding cleared
cleared_under m a zero x l = refl
cleared_under m a (suc n) x l = get_or-set_other (cleared m a n) (a + n) x 0 0 (λ e. omega arith) ∙ cleared_under m a n x l

pub cleared_over : (m : List ℕ) (a n x : ℕ) → a + n ≤ x → get_or (cleared m a n) x 0 ≡ get_or m x 0
unfolding cleared
cleared_over m a zero x l = refl
cleared_over m a (suc n) x l = get_or-set_other (cleared m a n) (a + n) x 0 0 (λ e. omega arith) ∙ cleared_over m a n x (omega arith)

pub cleared_at : (m : List ℕ) (a n j : ℕ) → a + n ≤ length m → j < n → get_or (cleared m a n) (a + j) 0 ≡ 0
unfolding cleared
cleared_at m a zero j f l = absurd (omega arith)
cleared_at m a (suc n) j f l =
    let long : length (cleared m a n) ≡ length m = cleared_length m a n in
    ⊎_elim
    (λ (e : j ≡ n). ap (λ k. get_or (set (cleared m a n) (a + n) 0) (a + k) 0) e ∙ get_or-set_same (cleared m a n) (a + n) 0 0 (omega arith))
    (λ (ne : j ≢ n). get_or-set_other (cleared m a n) (a + n) (a + j) 0 0 (λ e. ne (omega arith)) ∙ cleared_at m a n j (omega arith) (omega arith))
    (cases_eq j n)

cleared_paste : (m : List ℕ) (a n : ℕ) → a + n ≤ length m → cleared m a n ≡ paste m a (replicate n 0) n
unfolding cleared
cleared_paste m a zero l = grind (arith, common_steps)
cleared_paste m a (suc n) l =
    let e = cleared_paste m a n (omega arith) in
    rw (e, fill_from_more m a n 0 (omega arith)) (rw (add-one n))

-- a fill with 0 of n words from a on
pub cleared_filled : (m : List ℕ) (a n : ℕ) (ys : List ℕ) → a + n ≤ length m → ys ≡ replicate (length (take (a + n - a) (drop a m))) 0 → put_mid a (a + n - a) m ys ≡ cleared m a n
cleared_filled m a n ys l e =
    let k : length (take (a + n - a) (drop a m)) ≡ n = simp (length-take, length-drop) (omega arith) in
    put_mid-paste a (a + n - a) m ys (replicate n 0) n (e ∙ ap (λ j. replicate j 0) k) (omega arith) (sym (length-replicate n 0)) ∙ sym (cleared_paste m a n l)
