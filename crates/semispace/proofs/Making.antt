-- The words of a make, and what lies beside them.
use Rattle.std.proofs.Common.{◌≡◌, ℕ, zero, suc, ◌+◌, ◌-◌, ◌%◌, ◌<◌, ◌≤◌, true, false, ltb, ◌⊎◌, List, ◌∷◌, length, get_or, set, sym, ap, ◌∙◌, inl, inr, arith}
use Rattle.std.proofs.lemmas.List.{get_or-set_same, get_or-set_other, length-set}
use Rattle.std.proofs.lemmas.Bool.{cases_eq, lt-ltb, le-ltb}
use Rattle.kinds.specs.Shapes.{Shape}
use Rattle.graph.specs.Clearing.{cleared}
use Rattle.graph.specs.Graph.{size}
use Rattle.semispace.specs.Layout.{size_at, mem, starts, total, lows, highs, Laid}
use Rattle.semispace.specs.Words.{State, word_at, fresh, made_at, made_record, fields_of}
use Rattle.semispace.specs.Sound.{the_olds, the_news, the_places, size_of, Sound}
use Rattle.semispace.proofs.Spreads.{by_bool, starts_same, total_same, mem_append, mem_left, mem_right, total_append, size_two, placed_within}
use Rattle.semispace.proofs.Reserving.{places_inside, mades_inside, olds_inside, side_cases}
use Rattle.semispace.proofs.Putting.{all}
use Rattle.semispace.proofs.Like.{the_mades}
use Rattle.graph.proofs.Clearing.{cleared_length, cleared_under, cleared_over, cleared_at}

pub cleared_in : (m : List ℕ) (a n x : ℕ) → a ≤ x → x < a + n → x < length m → get_or (cleared m a n) x 0 ≡ 0
unfolding cleared
cleared_in m a zero x l u q = absurd (omega arith)
cleared_in m a (suc n) x l u q =
    elim (cases_eq x (a + n)) [
      | inl e ↦ rw e (get_or-set_same (cleared m a n) (a + n) 0 0 (let z = cleared_length m a n in omega arith))
      | inr e ↦ get_or-set_other (cleared m a n) (a + n) x 0 0 e ∙ cleared_in m a n x l (omega arith) q
    ]

pub starts_enough : (b : List Shape) (m : List ℕ) (f a to : ℕ) → to ≤ a + f → starts b m (suc f) a to ≡ starts b m f a to
unfolding starts
starts_enough b m zero a to l = let z : ltb a to ≡ false = le-ltb a to (omega arith) in rw z
starts_enough b m (suc f) a to l =
    by_bool (ltb a to)
    (λ e. let ih = starts_enough b m f (a + size_at b m a) to (omega (arith, size_two b m a)) in rw e (ap (λ xs. a ∷ xs) (step e ih)))
    (λ e. rw e)
  where
    step : ltb a to ≡ true → starts b m (suc f) (a + size_at b m a) to ≡ starts b m f (a + size_at b m a) to → starts b m (suc f) (a + size_at b m a) to ≡ starts b m f (a + size_at b m a) to
    step e q = q

-- There is room for what the spare allows.
pub make_room : (s : State) → Sound s → s.halves.low + s.spare ≤ s.halves.high
make_room s S = grind (arith, placed_within, total_append)

module _ (s : State) (S : Sound s) (k n : ℕ) (known : k < 16) (fits : 2 + fields_of s.book k ≤ s.spare) where
  abbrev at : ℕ
  at = made_at s k

  abbrev len : ℕ
  len = 2 + fields_of s.book k

  abbrev after : State
  after = made_record s k n

  room : s.halves.low + len ≤ s.halves.high
  room = let r = make_room s S in omega arith

  at_end : at + len ≡ s.halves.base + s.halves.high
  at_end = let r = room in omega arith

  at_inside : at + len ≤ length s.memory
  at_inside = let r = at_end in let f = S.laid.fits in let t = S.laid.top in elim (side_cases _ _ _ S.laid) [ inl e ↦ omega arith | inr e ↦ omega arith ]

  pub made_other : (x : ℕ) → (x < at) ⊎ (at + len ≤ x) → word_at after x ≡ word_at s x
  made_other x h = grind (arith, cleared_under, cleared_over, get_or-set_other)

  pub made_number : word_at after at ≡ n
  made_number = grind (arith, cleared_under, get_or-set_other, get_or-set_same, at_inside)

  pub made_tag : word_at after (at + 1) ≡ k
  made_tag = grind (arith, cleared_under, get_or-set_same, at_inside, length-set)

  pub made_field : (j : ℕ) → 2 + j < len → word_at after (at + (2 + j)) ≡ 0
  made_field j l =
      let e : at + (2 + j) ≡ at + 2 + j = omega arith in
      let i = at_inside in
      let z = length-set s.memory at n in
      let y = length-set (set s.memory at n) (at + 1) k in
      rw e (cleared_at (fresh s.memory at n k) (at + 2) (fields_of s.book k) j (omega arith) (omega arith))

  -- words of records are as before
  pub made_word : (x j : ℕ) → mem x (all s) ≡ true → j < size_of s x → word_at after (x + j) ≡ word_at s (x + j)
  made_word x j m l = grind (arith, room, at_end, made_other, mem_append, the_mades, places_inside, mades_inside, olds_inside, side_cases)

  pub made_size : (x : ℕ) → mem x (all s) ≡ true → size_of after x ≡ size_of s x
  unfolding size_at
  made_size x m = ap (λ v. 2 + size s.book (v % 16)) (made_word x 1 m (size_two s.book s.memory x))

  pub size_here : size_of after at ≡ len
  unfolding size_at
  size_here = let e : word_at after (at + 1) % 16 ≡ k = let t = made_tag in omega arith in ap (λ v. 2 + size s.book v) e

  pub lows_made : lows s.book after.memory after.halves ≡ lows s.book s.memory s.halves
  lows_made = starts_same s.book s.memory after.memory _ _ _ (λ x m. made_size x (mem_right x (the_news s) (the_olds s) (mem_left x (lows s.book s.memory s.halves) (highs s.book s.memory s.halves) m)))

  pub highs_made : highs s.book after.memory after.halves ≡ highs s.book s.memory s.halves
  highs_made = starts_same s.book s.memory after.memory _ _ _ (λ x m. made_size x (mem_right x (the_news s) (the_olds s) (mem_right x (lows s.book s.memory s.halves) (highs s.book s.memory s.halves) m)))

  pub places_made : the_places after ≡ the_places s
  places_made = starts_same s.book s.memory after.memory _ _ _ (λ x m. made_size x (mem_left x (the_news s) (the_olds s) (mem_left x (the_places s) (the_mades s) m)))

  mades_rest : starts s.book after.memory (s.halves.size + 1) (s.halves.base + s.halves.high) (s.halves.base + s.halves.size) ≡ the_mades s
  mades_rest = starts_same s.book s.memory after.memory _ _ _ (λ x m. made_size x (mem_left x (the_news s) (the_olds s) (mem_right x (the_places s) (the_mades s) m)))

  pub mades_made : the_mades after ≡ at ∷ the_mades s
  mades_made =
      let t = S.laid.top in
      let r = room in
      let e = at_end in
      let z = size_here in
      let top = s.halves.base + s.halves.size in
      let b = s.book in
      let m = after.memory in
      let q1 : starts b m (s.halves.size + 1) at top ≡ starts b m (suc s.halves.size) at top = ap (λ f. starts b m f at top) (omega arith) in
      let l : ltb at top ≡ true = lt-ltb at top (omega arith) in
      let q2 : starts b m (suc s.halves.size) at top ≡ at ∷ starts b m s.halves.size (at + size_of after at) top = first_offset s.halves.size at top l in
      let q3 : at + size_of after at ≡ s.halves.base + s.halves.high = omega arith in
      let q4 : starts b m s.halves.size (s.halves.base + s.halves.high) top ≡ starts b m (suc s.halves.size) (s.halves.base + s.halves.high) top = sym (starts_enough b m s.halves.size (s.halves.base + s.halves.high) top (omega arith)) in
      let q5 : starts b m (suc s.halves.size) (s.halves.base + s.halves.high) top ≡ starts b m (s.halves.size + 1) (s.halves.base + s.halves.high) top = ap (λ f. starts b m f (s.halves.base + s.halves.high) top) (omega arith) in
      q1 ∙ (q2 ∙ ap (λ xs. at ∷ xs) (ap (λ y. starts b m s.halves.size y top) q3 ∙ (q4 ∙ (q5 ∙ mades_rest))))
    where
      first_offset : (f a to : ℕ) → ltb a to ≡ true → starts s.book after.memory (suc f) a to ≡ a ∷ starts s.book after.memory f (a + size_of after a) to
      first_offset f a to l = unfold starts in (rw l)

  pub laid_made : Laid s.book after.memory after.halves
  laid_made =
      let m = after.memory in
      let r = room in
      let e = at_end in
      let z = size_here in
      let len_same : length m ≡ length s.memory = cleared_length (fresh s.memory at n k) (at + 2) (fields_of s.book k) ∙ (length-set (set s.memory at n) (at + 1) k ∙ length-set s.memory at n) in
      let f0 = S.laid.fits in
      let t0 = S.laid.top in
      let tm = total_same s.book s.memory m (the_mades s) (λ x q. made_size x (mem_left x (the_news s) (the_olds s) (mem_right x (the_places s) (the_mades s) q))) in
      let mf = S.laid.mades_fill in
      record {
        fits = omega arith;
        side = S.laid.side;
        ends = omega arith;
        top = omega arith;
        old_ends = S.laid.old_ends;
        old_top = S.laid.old_top;
        lows_fill = rw (lows_made, total_same s.book s.memory m _ (λ x q. made_size x (mem_right x (the_news s) (the_olds s) (mem_left x (lows s.book s.memory s.halves) (highs s.book s.memory s.halves) q)))) S.laid.lows_fill;
        highs_fill = rw (highs_made, total_same s.book s.memory m _ (λ x q. made_size x (mem_right x (the_news s) (the_olds s) (mem_right x (lows s.book s.memory s.halves) (highs s.book s.memory s.halves) q)))) S.laid.highs_fill;
        places_fill = rw (places_made, total_same s.book s.memory m _ (λ x q. made_size x (mem_left x (the_news s) (the_olds s) (mem_left x (the_places s) (the_mades s) q)))) S.laid.places_fill;
        mades_fill = fill_mades mades_made tm;
      }
    where
      fill_mades : the_mades after ≡ at ∷ the_mades s → total s.book after.memory (the_mades s) ≡ total s.book s.memory (the_mades s) → s.halves.base + (s.halves.high - len) + total s.book after.memory (the_mades after) ≡ s.halves.base + s.halves.size
      fill_mades q tm = grind (arith, the_mades, room, size_here)
