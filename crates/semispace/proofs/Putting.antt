-- One word of a record is written: what else stays.
use Rattle.std.proofs.Common.{rules, ◌≡◌, ℕ, ◌+◌, ◌%◌, ◌<◌, ◌≤◌, true, ◌≢◌, List, ◌++◌, sym, ap, ap₂, inl, inr, arith}
use Rattle.std.proofs.lemmas.List.{get_or-set_same, get_or-set_other, length-set}
use Rattle.std.proofs.lemmas.Bool.{cases_eq}
use Rattle.graph.specs.Graph.{size}
use Rattle.semispace.specs.Layout.{size_at, mem, lows, highs, mades, Laid}
use Rattle.semispace.specs.Words.{both_halves, State, put_at, word_at}
use Rattle.semispace.specs.Sound.{the_olds, the_news, the_places, size_of}
use Rattle.semispace.proofs.Spreads.{separate, starts_same, total_same, mem_append, mem_left, mem_right, size_two}
use Rattle.semispace.proofs.Reserving.{places_inside, mades_inside, olds_inside, olds_spread, news_spread, side_cases}

abbrev pub all : State → List ℕ
all s = the_news s ++ the_olds s

pub news_inside : (s : State) (l : Laid s.book s.memory s.halves) (x : ℕ) → mem x (the_news s) ≡ true → (s.halves.base ≤ x) × (x + size_of s x ≤ s.halves.base + s.halves.size)
news_inside s l x k = search (rules, arith, mem_append, places_inside, mades_inside)

-- words of different records are different words
pub apart : (s : State) (l : Laid s.book s.memory s.halves) (x y i j : ℕ) → mem x (all s) ≡ true → mem y (all s) ≡ true → i < size_of s x → j < size_of s y → x ≢ y → x + i ≢ y + j
apart s l x y i j kx ky p q ne =
    elim (mem_append x (the_news s) (the_olds s) kx) [
      | inl a ↦ elim (mem_append y (the_news s) (the_olds s) ky) [
        | inl b ↦ separate s.book s.memory _ _ x y i j (the_news s) (news_spread _ _ _ l) a b p q ne
        | inr b ↦ let u = news_inside s l x a in let v = olds_inside _ _ _ l y b in elim (side_cases _ _ _ l) [ inl e ↦ omega arith | inr e ↦ omega arith ]
      ]
      | inr a ↦ elim (mem_append y (the_news s) (the_olds s) ky) [
        | inl b ↦ let u = news_inside s l y b in let v = olds_inside _ _ _ l x a in elim (side_cases _ _ _ l) [ inl e ↦ omega arith | inr e ↦ omega arith ]
        | inr b ↦ separate s.book s.memory _ _ x y i j (the_olds s) (olds_spread _ _ _ l) a b p q ne
      ]
    ]

pub all_inside : (s : State) (l : Laid s.book s.memory s.halves) (x j : ℕ) → mem x (all s) ≡ true → j < size_of s x → x + j < both_halves s
all_inside s l x j k p = grind (arith, mem_append, news_inside, side_cases, olds_inside)

-- A word of a record is written that is not its tag.
module _ (s : State) (l : Laid s.book s.memory s.halves) (a j w : ℕ) (k : mem a (all s) ≡ true) (p : j < size_of s a) (untagged : j ≢ 1) where
  pub put_same : word_at (put_at s (a + j) w) (a + j) ≡ w
  put_same = get_or-set_same s.memory (a + j) w 0 (let v = all_inside s l a j k p in omega (arith, l.fits))

  pub put_other : (x i : ℕ) → mem x (all s) ≡ true → i < size_of s x → ((x ≡ a) × (i ≡ j) → ⊥) → word_at (put_at s (a + j) w) (x + i) ≡ word_at s (x + i)
  put_other x i m q ne =
      get_or-set_other s.memory (a + j) (x + i) w 0
      (elim (cases_eq x a) [ inl e ↦ λ d. ne (e, omega arith) | inr e ↦ apart s l x a i j m k q p e ])

  pub put_tag : (x : ℕ) → mem x (all s) ≡ true → word_at (put_at s (a + j) w) (x + 1) ≡ word_at s (x + 1)
  put_tag x m = put_other x 1 m (size_two s.book s.memory x) (λ d. untagged (sym d.1))

  pub put_size : (x : ℕ) → mem x (all s) ≡ true → size_of (put_at s (a + j) w) x ≡ size_of s x
  unfolding size_at
  put_size x m = ap (λ v. 2 + size s.book (v % 16)) (put_tag x m)

  in_lows : (x : ℕ) → mem x (lows s.book s.memory s.halves) ≡ true → mem x (all s) ≡ true
  in_lows x m = mem_right x (the_news s) (the_olds s) (mem_left x (lows s.book s.memory s.halves) (highs s.book s.memory s.halves) m)

  in_highs : (x : ℕ) → mem x (highs s.book s.memory s.halves) ≡ true → mem x (all s) ≡ true
  in_highs x m = mem_right x (the_news s) (the_olds s) (mem_right x (lows s.book s.memory s.halves) (highs s.book s.memory s.halves) m)

  in_places : (x : ℕ) → mem x (the_places s) ≡ true → mem x (all s) ≡ true
  in_places x m = mem_left x (the_news s) (the_olds s) (mem_left x (the_places s) (mades s.book s.memory s.halves) m)

  in_mades : (x : ℕ) → mem x (mades s.book s.memory s.halves) ≡ true → mem x (all s) ≡ true
  in_mades x m = mem_left x (the_news s) (the_olds s) (mem_right x (the_places s) (mades s.book s.memory s.halves) m)

  pub lows_put : lows s.book (put_at s (a + j) w).memory s.halves ≡ lows s.book s.memory s.halves
  lows_put = starts_same s.book s.memory (put_at s (a + j) w).memory _ _ _ (λ x m. put_size x (in_lows x m))

  pub highs_put : highs s.book (put_at s (a + j) w).memory s.halves ≡ highs s.book s.memory s.halves
  highs_put = starts_same s.book s.memory (put_at s (a + j) w).memory _ _ _ (λ x m. put_size x (in_highs x m))

  pub places_put : the_places (put_at s (a + j) w) ≡ the_places s
  places_put = starts_same s.book s.memory (put_at s (a + j) w).memory _ _ _ (λ x m. put_size x (in_places x m))

  pub mades_put : mades s.book (put_at s (a + j) w).memory s.halves ≡ mades s.book s.memory s.halves
  mades_put = starts_same s.book s.memory (put_at s (a + j) w).memory _ _ _ (λ x m. put_size x (in_mades x m))

  pub olds_put : the_olds (put_at s (a + j) w) ≡ the_olds s
  olds_put = ap₂ (λ xs ys. xs ++ ys) lows_put highs_put

  pub news_put : the_news (put_at s (a + j) w) ≡ the_news s
  news_put = ap₂ (λ xs ys. xs ++ ys) places_put mades_put

  pub laid_put : Laid s.book (put_at s (a + j) w).memory s.halves
  laid_put = search (rules, arith, length-set, lows_put, total_same, put_size, in_lows, highs_put, in_highs, places_put, in_places, mades_put, in_mades)
