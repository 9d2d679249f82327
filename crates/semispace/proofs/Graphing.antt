-- Two states that show the same records have the same graph.
use Rattle.std.proofs.Common.{rules, ◌≡◌, ℕ, zero, suc, ◌+◌, ◌<◌, ◌≤◌, true, false, T, eqb, List, [], ◌∷◌, ◌++◌, map, length, get_or, take, sym, refl, ap, ◌∙◌, ap₂, inl, inr, arith}
use Rattle.std.proofs.lemmas.Bool.{or_cases, or_left, or_right, lt-ltb, eq-eqb, false≢true}
use Rattle.std.specs.List.{range_with_len}
use Rattle.std.proofs.lemmas.List.{append-nil}
use Rattle.kinds.specs.Shapes.{Shape}
use Rattle.graph.specs.Graph.{size, Record, Graph, ◌∈◌, prune}
use Rattle.semispace.specs.declared.collector.Collector.{Collector}
use Rattle.semispace.specs.declared.collector.Collector.TheVariants.{Rest}
use Rattle.semispace.specs.Layout.{mem}
use Rattle.semispace.specs.Words.{home, State, set_halves, swapped, set_collector, fields_at, resting, refers, kind_at, place_of, word_at}
use Rattle.semispace.specs.Sound.{the_olds, the_news, size_of, good, Sound, number, value, name, shown}
use Rattle.semispace.specs.Dues.{objects}
use Rattle.semispace.specs.Graphs.{record_of, raw_of, graph_of}
use Rattle.semispace.proofs.Spreads.{by_bool, mem_cases, mem_first, mem_head, size_two}
use Rattle.semispace.proofs.ReserveAgree.{new_leads, old_leads_not}
use Rattle.semispace.proofs.Stepping.{size_is}
use Rattle.semispace.proofs.Like.{objs, Like, objs_all}
use Rattle.semispace.proofs.Likes.{like_objs}
use Rattle.semispace.proofs.Putting.{news_inside}
use Rattle.semispace.proofs.Ends.{olds_start, mades_start}
use Rattle.semispace.proofs.Knowing.{objects_cycle, objects_rest}

pub mem_in : (x : ℕ) (xs : List ℕ) → mem x xs ≡ true → x ∈ xs
mem_in x [] k = absurd (false≢true k)
mem_in x (y ∷ ys) k = elim (mem_cases x y ys k) [ inl e ↦ inl e | inr e ↦ inr (mem_in x ys e) ]

pub in_mem : (x : ℕ) (xs : List ℕ) → x ∈ xs → mem x xs ≡ true
in_mem x [] k = absurd k
in_mem x (y ∷ ys) (inl e) = mem_first x y ys e
in_mem x (y ∷ ys) (inr e) = or_right (eqb x y) (mem x ys) (in_mem x ys e)

pub map_same : (f g : ℕ → Record) (xs : List ℕ) → ((x : ℕ) → mem x xs ≡ true → f x ≡ g x) → map f xs ≡ map g xs
map_same f g [] h = refl
map_same f g (x ∷ xs) h = ap₂ (λ r rs. r ∷ rs) (h x (mem_head x xs)) (map_same f g xs (λ y k. h y (or_right (eqb y x) (mem y xs) k)))

pub counting_same : (f g : ℕ → ℕ) (a n : ℕ) → ((i : ℕ) → a ≤ i → i < a + n → f i ≡ g i) → map f (range_with_len a n) ≡ map g (range_with_len a n)
counting_same f g a zero h = refl
counting_same f g a (suc n) h = ap₂ (λ r rs. r ∷ rs) (h a (omega arith) (omega arith)) (counting_same f g (a + 1) n (λ i l m. h i (omega arith) (omega arith)))

pub take_same : (f g : ℕ → ℕ) (n : ℕ) (xs ys : List ℕ) → n ≤ length xs → n ≤ length ys → ((k : ℕ) → k < n → f (get_or xs k 0) ≡ g (get_or ys k 0)) → map f (take n xs) ≡ map g (take n ys)
take_same f g zero xs ys l m h = refl
take_same f g (suc n) [] ys l m h = absurd (omega arith)
take_same f g (suc n) (x ∷ xs) [] l m h = absurd (omega arith)
take_same f g (suc n) (x ∷ xs) (y ∷ ys) l m h = ap₂ (λ r rs. r ∷ rs) (h 0 (omega arith)) (take_same f g n xs ys (omega arith) (omega arith) (λ k q. h (suc k) (omega arith)))

pub record_eq : (a b : Record) → a.number ≡ b.number → a.kind ≡ b.kind → a.fields ≡ b.fields → a ≡ b
record_eq a b p q r = λ i. record { number = p i; kind = q i; fields = r i }

pub fields_eq : (s t : State) (x y : ℕ) → fields_at t x ≡ fields_at s y → ((i : ℕ) → 2 + i < size_of s y → shown t x i ≡ shown s y i) → map (shown t x) (range_with_len 0 (fields_at t x)) ≡ map (shown s y) (range_with_len 0 (fields_at s y))
fields_eq s t x y e h = ap (λ n. map (shown t x) (range_with_len 0 n)) e ∙ counting_same (shown t x) (shown s y) 0 (fields_at s y) (λ i l m. h i (let z = size_is s y in omega arith))

pub record_of_eq : (s t : State) (x y : ℕ) → number t x ≡ number s y → kind_at t x ≡ kind_at s y → t.book ≡ s.book → ((i : ℕ) → 2 + i < size_of s y → shown t x i ≡ shown s y i) → record_of t x ≡ record_of s y
unfolding record_of
record_of_eq s t x y n k b h = record_eq _ _ n k (fields_eq s t x y (ap₂ (λ (b : List Shape) n. size b n) b k) h)

pub graph_eq : (g h : Graph) → g.slots ≡ h.slots → g.next ≡ h.next → g.records ≡ h.records → g ≡ h
graph_eq g h p q r = λ i. record { slots = p i; next = q i; records = r i }

pub slots_eq : (s t : State) → s.count ≤ length s.slots → t.count ≤ length t.slots → t.count ≡ s.count → ((n : ℕ) → n < s.count → name t (get_or t.slots n 0) ≡ name s (get_or s.slots n 0)) → map (name t) (take t.count t.slots) ≡ map (name s) (take s.count s.slots)
slots_eq s t a b c h = ap (λ n. map (name t) (take n t.slots)) c ∙ take_same (name t) (name s) s.count t.slots s.slots (omega arith) a h

-- Where calls see the same, the graph is the same.
pub raw_like : (s t : State) → Sound s → Sound t → resting s.collector ≡ false → Like s t → raw_of t ≡ raw_of s
unfolding raw_of
raw_like s t S T g L =
    graph_eq _ _ (slots_eq s t S.enough T.enough L.count L.slots) L.next
    (ap (map (record_of t)) (objects_cycle t L.going ∙ (like_objs s t L ∙ sym (objects_cycle s g))) ∙
    map_same (record_of t) (record_of s) (objects s) (λ x k0.
    let k : mem x (objs s) ≡ true = rw (objects_cycle s g) at k0 in
    record_of_eq s t x x (L.number x (objs_all s x k)) (L.kind x (objs_all s x k)) L.book (λ i l. L.shown x i k l)))

pub graph_like : (s t : State) → Sound s → Sound t → resting s.collector ≡ false → Like s t → graph_of t ≡ graph_of s
unfolding graph_of
graph_like s t S T g L = ap₂ (λ (b : List Shape) r. prune b r) L.book (raw_like s t S T g L)

-- At rest every record of the half is whole.
pub rest_number : (s : State) (S : Sound s) (x : ℕ) → s.collector ≡ Rest → mem x (the_news s) ≡ true → number s x ≡ word_at s x
unfolding number
rest_number s S x is k = grind (arith, news_inside, or_right, or_left, lt-ltb, size_two, new_leads)

pub rest_home : (s : State) (S : Sound s) (x n : ℕ) → s.collector ≡ Rest → mem x (the_news s) ≡ true → home s x n ≡ x
rest_home s S x n is k = grind (arith, news_inside, or_right, or_left, lt-ltb, size_two, new_leads)

pub old_number : (s : State) (S : Sound s) (x : ℕ) → mem x (the_olds s) ≡ true → number s x ≡ word_at s x
unfolding number
old_number s S x k = rw (old_leads_not s S.laid x k)

-- Start.
module _ (s : State) (S : Sound s) (is : s.collector ≡ Rest) (c : Collector) (going_c : resting c ≡ false) (T : Sound (set_collector (set_halves s (swapped s.halves)) c)) where
  abbrev begun : State
  begun = set_collector (set_halves s (swapped s.halves)) c

  pub begun_number : (x : ℕ) → mem x (the_news s) ≡ true → number begun x ≡ number s x
  begun_number x k = old_number begun T x (rw (olds_start s S is) k) ∙ sym (rest_number s S x is k)

  begun_name : (r : ℕ) → good (the_news s) r ≡ true → name begun r ≡ name s r
  unfolding name good
  begun_name r g = grind (arith, or_cases, begun_number)

  begun_value : (x i : ℕ) → mem x (the_news s) ≡ true → value begun x i ≡ value s x i
  unfolding value
  begun_value x i k =
      let z : eqb (place_of s x) 0 ≡ true = eq-eqb (place_of s x) 0 (S.plain x k) in
      let h : home begun x i ≡ x = rw (old_leads_not begun T.laid x (rw (olds_start s S is) k), z) in
      rw (h, rest_home s S x i is k)

  rest_good : (x i : ℕ) → mem x (the_news s) ≡ true → 2 + i < size_of s x → refers s.book (kind_at s x) i ≡ true → good (the_news s) (value s x i) ≡ true
  unfolding value
  rest_good x i k l r = search (rules, arith, news_inside, or_right, or_left, lt-ltb, size_two, rest_home)

  begun_shown : (x i : ℕ) → mem x (the_news s) ≡ true → 2 + i < size_of s x → shown begun x i ≡ shown s x i
  unfolding shown
  begun_shown x i k l =
      by_bool (refers s.book (kind_at s x) i)
      (λ e. rw (e, begun_value x i k) (begun_name (value s x i) (rest_good x i k l e)))
      (λ e. rw (e, begun_value x i k))

  pub begun_list : objects begun ≡ the_news s
  begun_list = objects_cycle begun going_c ∙ (ap₂ (λ xs ys. xs ++ ys) (olds_start s S is) (mades_start s S is) ∙ append-nil (the_news s))

  pub raw_begun : raw_of begun ≡ raw_of s
  unfolding raw_of
  raw_begun =
      graph_eq _ _ (slots_eq s begun S.enough T.enough refl (λ n l. begun_name (get_or s.slots n 0) (S.slots_passed n l (rw is)))) refl
      (ap (map (record_of begun)) (begun_list ∙ sym (objects_rest s (rw is))) ∙
      map_same (record_of begun) (record_of s) (objects s) (λ x k0.
      let k : mem x (the_news s) ≡ true = rw (objects_rest s (rw is)) at k0 in
      record_of_eq s begun x x (begun_number x k) refl refl (λ i l. begun_shown x i k l)))

  pub graph_begun : graph_of begun ≡ graph_of s
  unfolding graph_of
  graph_begun = ap (prune s.book) raw_begun
