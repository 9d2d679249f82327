-- What holds of words and registers between any two steps.
use Rattle.std.specs.Prelude.{◌≡◌, ℕ, ◌+◌, ◌-◌, ◌<◌, ◌≤◌, Bool, true, false, cond, not, ◌&&◌, ◌||◌, ◌≢◌, List, [], ◌∷◌, ◌++◌, length, ◌==◌, nat_le, nat_lt, slice_index}
use Rattle.semispace.specs.declared.halves.Halves.{Halves}
use Rattle.semispace.specs.declared.collector.Collector.{Collector}
use Rattle.semispace.specs.declared.collector.Collector.TheVariants.{Rest, Slots, Scan, Field}
use Rattle.semispace.specs.Layout.{size_at, mem, placed, places, olds, news, Laid}
use Rattle.semispace.specs.Words.{Bounds, State, front, own, resting, refers, kind_at, place_of, word_at, next_place, leads_new, home}

abbrev pub the_olds : State → List ℕ
the_olds s = olds s.book s.memory s.halves

abbrev pub the_news : State → List ℕ
the_news s = news s.book s.memory s.halves

abbrev pub the_places : State → List ℕ
the_places s = places s.book s.memory s.halves

abbrev pub size_of : State → ℕ → ℕ
size_of s a = size_at s.book s.memory a

-- A reference that is empty or leads to a record of the list.
unfoldable pub good : List ℕ → ℕ → Bool
good xs r = r == 0 || mem (r - 1) xs

abbrev pub is_open : Collector → Bool
is_open Rest = false
is_open (Slots n) = false
is_open (Scan at) = false
is_open (Field c) = true

-- Has the place at a been opened?
abbrev pub opened_at : Halves → Collector → ℕ → Bool
opened_at h c a = nat_le (h.base + h.high) a || (nat_lt a (front h.base h.size c) || (a == front h.base h.size c && is_open c))

abbrev pub passed_slot : Collector → ℕ → Bool
passed_slot Rest n = true
passed_slot (Slots k) n = nat_lt n k
passed_slot (Scan at) n = true
passed_slot (Field c) n = true

-- p is the place of the old record at o.
pub record Twin (s : State) (o p : ℕ) : Type 0 where
  pub inside : mem p (the_places s) ≡ true
  pub kind : kind_at s p ≡ kind_at s o
  pub back : opened_at s.halves s.collector p ≡ false → word_at s p ≡ o + 1
  pub head : opened_at s.halves s.collector p ≡ true → word_at s p ≡ word_at s o

abbrev pub At : State → Collector → Type 0
At s Rest = Unit {0}
At s (Slots n) = n < s.count
At s (Scan at) = mem at (the_places s ++ (next_place s ∷ [])) ≡ true
At s (Field c) = (mem c.at (the_places s) ≡ true) × (mem c.from (the_olds s) ≡ true) × (place_of s c.from ≡ c.at + 1) × (2 + c.field < size_of s c.at)

pub record Cycle (s : State) : Type 0 where
  pub sum : placed s.book s.memory (the_olds s) ≡ s.halves.low
  pub room : s.halves.old_low + (s.halves.size - s.halves.old_high) + s.spare ≡ s.halves.high
  pub twin : (o : ℕ) → mem o (the_olds s) ≡ true → place_of s o ≢ 0 → Twin s o (place_of s o - 1)
  pub back : (p : ℕ) → mem p (the_places s) ≡ true → opened_at s.halves s.collector p ≡ false → (0 < word_at s p) × (mem (word_at s p - 1) (the_olds s) ≡ true) × (place_of s (word_at s p - 1) ≡ p + 1)
  pub olds_refer : (o i : ℕ) → mem o (the_olds s) ≡ true → 2 + i < size_of s o → refers s.book (kind_at s o) i ≡ true → good (the_news s ++ the_olds s) (word_at s (o + 2 + i)) ≡ true
  pub slots_refer : (n : ℕ) → n < s.count → good (the_news s ++ the_olds s) (slice_index s.slots n) ≡ true

-- What calls see of a record: its number, its fields, and the number that a reference names.
unfoldable pub number : State → ℕ → ℕ
number s a = cond (leads_new s.halves (a + 1) && not (opened_at s.halves s.collector a)) (word_at s (word_at s a - 1)) (word_at s a)

unfoldable pub value : State → ℕ → ℕ → ℕ
value s a i = word_at s (home s a i + (2 + i))

unfoldable pub name : State → ℕ → ℕ
name s r = cond (r == 0) 0 (number s (r - 1))

unfoldable pub shown : State → ℕ → ℕ → ℕ
shown s a i = cond (refers s.book (kind_at s a) i) (name s (value s a i)) (value s a i)

pub record Sound (s : State) : Type 0 where
  pub bounds : Bounds s
  pub laid : Laid s.book s.memory s.halves
  pub enough : s.count ≤ length s.slots
  pub at : At s s.collector
  pub rest : resting s.collector ≡ true → s.halves.low + s.spare ≡ s.halves.high
  pub cycle : resting s.collector ≡ false → Cycle s
  pub news_refer : (a i : ℕ) → mem a (the_news s) ≡ true → 2 + i < size_of s a → own s.halves s.collector a i ≡ true → refers s.book (kind_at s a) i ≡ true → good (the_news s) (word_at s (a + 2 + i)) ≡ true
  pub slots_passed : (n : ℕ) → n < s.count → passed_slot s.collector n ≡ true → good (the_news s) (slice_index s.slots n) ≡ true
  pub plain : (a : ℕ) → mem a (the_news s) ≡ true → place_of s a ≡ 0
