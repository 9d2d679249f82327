-- A record made: it is one more object, nothing leads from it, and what lived lives; so kept rises by its words at most, and due does not rise.
use Rattle.std.proofs.Common.{rules, ◌≡◌, ℕ, ◌+◌, ◌-◌, ◌<◌, ◌≤◌, Bool, true, false, cond, not, ◌&&◌, ◌||◌, eqb, leb, ◌⊎◌, List, [], ◌∷◌, ◌++◌, map, length, get_or, take, sym, refl, ap, ◌∙◌, subst, inl, inr, arith}
use Rattle.std.proofs.lemmas.Bool.{and_parts, and_from, or_left, or_right, le-leb, eq-eqb, false≢true}
use Rattle.semispace.specs.declared.collector.Collector.{Collector}
use Rattle.semispace.specs.declared.collector.Collector.TheVariants.{Rest, Slots, Scan, Field}
use Rattle.semispace.specs.Layout.{mem}
use Rattle.semispace.specs.Words.{State, resting, refers, kind_at, word_at, made_at, fields_of, home, own}
use Rattle.semispace.specs.Sound.{the_olds, the_news, the_places, size_of, Sound, At, number, value, name, shown}
use Rattle.semispace.specs.Reach.{sum_where, some}
use Rattle.semispace.specs.Dues.{objects, edge, root, lives, kept, opened_record, slots_left, fields_left, pending, due}
use Rattle.semispace.specs.Graphs.{Known}
use Rattle.semispace.specs.Callings.{grown_by}
use Rattle.semispace.proofs.Spreads.{by_bool, mem_head, mem_left, mem_right, mem_append}
use Rattle.semispace.proofs.ReserveAgree.{new_leads}
use Rattle.semispace.proofs.Reaching.{least}
use Rattle.semispace.proofs.Like.{the_mades}
use Rattle.semispace.proofs.Knowing.{objects_cycle, objects_rest}
use Rattle.semispace.proofs.Whole.{object_number, slot_reference}
use Rattle.semispace.proofs.Less.{sum_le, root_cases, root_names, root_new, lives_root, lives_edge, opened_from, opened_is}
use Rattle.semispace.proofs.Progress.{edge_from}
use Rattle.semispace.proofs.Bounding.{names_is}
use Rattle.semispace.proofs.Gaining.{due_is}
use Rattle.semispace.proofs.Collecting.{due_rest}
use Rattle.semispace.proofs.Making.{made_number, made_field, size_here}
use Rattle.semispace.proofs.Graphing.{take_same}
use Rattle.semispace.proofs.MakeSound.{make_sound, make_known, news_cases_m, news_kept_m, made_there, opened_m, objects_m, object_all, head_m, size_m, olds_m, mades_m, places_m}
use Rattle.semispace.proofs.MakeGraph.{name2, number2, kind2, shown2}

-- one element more in a sum
pub sum_insert : (p : ℕ → Bool) (f : ℕ → ℕ) (xs : List ℕ) (a : ℕ) (ys : List ℕ) → sum_where p f (xs ++ (a ∷ ys)) ≡ cond (p a) (f a) 0 + sum_where p f (xs ++ ys)
sum_insert p f [] a ys = refl
sum_insert p f (x ∷ xs) a ys = let h = sum_insert p f xs a ys in omega arith

cond_most : (b : Bool) (n : ℕ) → cond b n 0 ≤ n
cond_most true n = omega arith
cond_most false n = omega arith

-- the field that makes an edge
edge_found : (t : State) (y x : ℕ) → edge t y x ≡ true → (i : ℕ) × (i < size_of t y - 2) × (refers t.book (kind_at t y) i ≡ true) × (shown t y i ≡ number t x)
unfolding edge
edge_found t y x h = names_is t y (number t x) (size_of t y - 2) h

module _ (s : State) (S : Sound s) (K : Known s) (k : ℕ) (known : k < 16) (kk : k < length s.book) (fits : 2 + fields_of s.book k ≤ s.spare) (some_next : 0 < s.next) where
  abbrev at : ℕ
  at = made_at s k

  abbrev t : State
  t = grown_by s k

  pub T : Sound t
  T = make_sound s S k known fits

  pub KT : Known t
  KT = make_known s S k known fits K some_next kk

  -- the objects: one more, among them
  pub at_object : mem at (objects t) ≡ true
  at_object = grind (arith, objects_rest, made_there, objects_cycle, mades_m, mem_right, the_mades, mem_head)

  pub old_object : (x : ℕ) → mem x (objects s) ≡ true → mem x (objects t) ≡ true
  old_object x m = grind (arith, objects_rest, news_kept_m, mem_append, the_mades, objects_cycle, mem_left, olds_m, mades_m, mem_right, or_right)

  record Split : Type 0 where
    pub front : List ℕ
    pub back : List ℕ
    pub before : objects s ≡ front ++ back
    pub after : objects t ≡ front ++ (at ∷ back)

  split : Split
  split =
      by_bool (resting s.collector)
      (λ e. record { front = the_places s; back = the_mades s; before = objects_rest s e; after = objects_rest t e ∙ (ap (λ xs. xs ++ the_mades t) (places_m s S k known fits) ∙ ap (λ ys. the_places s ++ ys) (mades_m s S k known fits)) })
      (λ e. record { front = the_olds s; back = the_mades s; before = objects_cycle s e; after = objects_cycle t e ∙ (ap (λ xs. xs ++ the_mades t) (olds_m s S k known fits) ∙ ap (λ ys. the_olds s ++ ys) (mades_m s S k known fits)) })

  -- numbers
  pub number_new : number t at ≡ s.next
  number_new = object_number t T at at_object ∙ made_number s S k s.next known fits

  pub number_old : (x : ℕ) → mem x (objects s) ≡ true → number t x ≡ number s x
  number_old x m = object_number t T x (old_object x m) ∙ (head_m s S k known fits x (object_all s S k known fits x m) ∙ sym (object_number s S x m))

  above : (x : ℕ) → mem x (objects s) ≡ true → (0 < number s x) × (number s x < s.next)
  above x m = let e = object_number s S x m in let g = K.given x m in (let l = g.0 in omega arith, let l = g.1 in omega arith)

  some_number : (x : ℕ) → mem x (objects t) ≡ true → 0 < number t x
  some_number x m = let e = object_number t T x m in let g = (KT.given x m).0 in omega arith

  pub names_same : map (name t) (take s.count s.slots) ≡ map (name s) (take s.count s.slots)
  names_same = take_same (name t) (name s) s.count s.slots s.slots S.enough S.enough (λ n l. name2 s S K k known kk fits (get_or s.slots n 0) (slot_reference s S K n l))

  news_number : (p : ℕ) → mem p (the_news s) ≡ true → number t p ≡ number s p
  news_number p m = number2 s S K k known kk fits p ((λ _. m), λ _. mem_left p (the_news s) (the_olds s) m)

  -- nothing leads from the new record
  pub shown_new : (i : ℕ) → 2 + i < size_of t at → shown t at i ≡ 0
  unfolding shown name value
  shown_new i l =
      let z = size_here s S k s.next known fits in
      let f : word_at t (at + (2 + i)) ≡ 0 = made_field s S k s.next known fits i (omega arith) in
      let kn = made_there s S k known fits in
      let inside : s.halves.base + t.halves.high ≤ at = omega arith in
      let o : own t.halves t.collector at i ≡ true = or_left (leb (s.halves.base + t.halves.high) at) _ (le-leb (s.halves.base + t.halves.high) at inside) in
      let h : home t at i ≡ at = rw (new_leads t T.laid at kn, o) in
      let w : word_at t (home t at i + (2 + i)) ≡ 0 = ap (λ x. word_at t (x + (2 + i))) h ∙ f in
      by_bool (refers s.book (kind_at t at) i)
      (λ e. rw e (let q : eqb (word_at t (home t at i + (2 + i))) 0 ≡ true = eq-eqb (word_at t (home t at i + (2 + i))) 0 w in rw q))
      (λ e. rw e w)

  no_edge : (x : ℕ) → mem x (objects t) ≡ true → edge t at x ≡ true → ⊥
  no_edge x m h = search (rules, arith, edge_found, shown_new, some_number)

  edge_old : (y x : ℕ) → mem y (objects s) ≡ true → mem x (objects s) ≡ true → edge t y x ≡ true → edge s y x ≡ true
  edge_old y x my mx h = grind (arith, edge_found, size_m, object_all, edge_from, kind2, shown2, number_old)

  root_old : (x : ℕ) → mem x (objects s) ≡ true → root t x ≡ true → root s x ≡ true
  root_old x m h =
      elim (root_cases t x h) [
        | inl e ↦ root_names s x (subst (λ n. some (λ v. eqb v n) (map (name s) (take s.count s.slots)) ≡ true) (number_old x m) (subst (λ xs. some (λ v. eqb v (number t x)) xs ≡ true) names_same e))
        | inr w ↦ elim (news_cases_m s S k known fits w.0 w.1) [
          | inl d ↦ (let a = number_new in let b = (above x m).1 in let c = number_old x m in let e : number t at ≡ number t x = ap (number t) (sym d) ∙ w.2 in absurd (omega arith))
          | inr d ↦ root_new s w.0 x d (sym (news_number w.0 d) ∙ (w.2 ∙ number_old x m))
        ]
      ]

  pub lives_old : (x : ℕ) → mem x (objects s) ≡ true → lives t x ≡ true → lives s x ≡ true
  unfolding lives
  lives_old x m h =
      out x m (least (objects t) (edge t) (root t) (λ y. not (mem y (objects s)) || lives s y)
      (λ y r. inside y (λ n. lives_root s y (root_old y n r)))
      (λ y z n c d. inside z (λ o. step y z n c d o (objects_m s S k known fits y n))) x h)
    where
      inside : (x : ℕ) → (mem x (objects s) ≡ true → lives s x ≡ true) → (not (mem x (objects s)) || lives s x) ≡ true
      inside x h = by_bool (mem x (objects s)) (λ m. or_right (not (mem x (objects s))) (lives s x) (h m)) (λ m. or_left (not (mem x (objects s))) (lives s x) (rw m))

      out : (x : ℕ) → mem x (objects s) ≡ true → (not (mem x (objects s)) || lives s x) ≡ true → lives s x ≡ true
      out x m h = let v : (false || lives s x) ≡ true = rw m at h in v

      step : (y z : ℕ) → mem y (objects t) ≡ true → (not (mem y (objects s)) || lives s y) ≡ true → edge t y z ≡ true → mem z (objects s) ≡ true → (y ≡ at) ⊎ (mem y (objects s) ≡ true) → lives s z ≡ true
      step y z n c d o (inl e) = absurd (no_edge z (old_object z o) (subst (λ w. edge t w z ≡ true) e d))
      step y z n c d o (inr p) = lives_edge s y z p o (out y p c) (edge_old y z p o d)

  -- the sums
  sizes : (x : ℕ) → mem x (objects s) ≡ true → size_of t x ≡ size_of s x
  sizes x m = size_m s S k known fits x (object_all s S k known fits x m)

  pub kept_made : kept t ≤ kept s + (2 + fields_of s.book k)
  unfolding kept
  kept_made = grind (arith, split, sum_le, lives_old, sizes, sum_insert, cond_most, size_here)

  opened_new : opened_record t at ≡ true
  opened_new =
      let inside : s.halves.base + t.halves.high ≤ at = omega arith in
      opened_from t at at (made_there s S k known fits) refl (or_left (leb (s.halves.base + t.halves.high) at) _ (le-leb (s.halves.base + t.halves.high) at inside))

  opened_old : (x : ℕ) → mem x (objects s) ≡ true → opened_record s x ≡ true → opened_record t x ≡ true
  opened_old x m h =
      let w = opened_is s x h in
      opened_from t w.0 x (news_kept_m s S k known fits w.0 w.1) (news_number w.0 w.1 ∙ (w.2 ∙ sym (number_old x m))) (opened_m s S k known fits w.0 w.1 ∙ w.3)

  left_old : (x : ℕ) → mem x (objects s) ≡ true → (lives t x && not (opened_record t x)) ≡ true → (lives s x && not (opened_record s x)) ≡ true
  left_old x m h = grind (arith, and_parts, and_from, lives_old, opened_old)

  pub pending_made : pending t ≤ pending s
  unfolding pending
  pending_made =
      let p = split in
      let q : ℕ → Bool = λ a. lives t a && not (opened_record t a) in
      let f : ℕ → ℕ = λ a. size_of t a - 1 in
      let a : sum_where q f (objects s) ≤ sum_where (λ a. lives s a && not (opened_record s a)) (λ a. size_of s a - 1) (objects s) = sum_le q (λ a. lives s a && not (opened_record s a)) f (λ a. size_of s a - 1) (objects s) left_old (λ x m. let e = sizes x m in omega arith) in
      let b : sum_where q f (objects t) ≡ cond (q at) (f at) 0 + sum_where q f (objects s) =
      ap (sum_where q f) p.after ∙ (sum_insert q f p.front at p.back ∙ ap (λ xs. cond (q at) (f at) 0 + sum_where q f xs) (sym p.before)) in
      let c : cond (q at) (f at) 0 ≡ 0 = none (lives t at) (opened_record t at) opened_new in
      omega arith
    where
      none : (b o : Bool) → o ≡ true → cond (b && not o) (size_of t at - 1) 0 ≡ 0
      none true true e = refl
      none false true e = refl
      none b false e = absurd (false≢true e)

  left_same : (c : Collector) → At s c → slots_left t c + fields_left t c ≡ slots_left s c + fields_left s c
  left_same Rest h = refl
  left_same (Slots n) h = refl
  left_same (Scan a) h = refl
  left_same (Field c) h = let e : size_of t c.at ≡ size_of s c.at = size_m s S k known fits c.at (mem_left c.at (the_news s) (the_olds s) (mem_left c.at (the_places s) (the_mades s) h.0)) in ap (λ n. 0 + (n - 2 - c.field)) e

  pub due_made : due t ≤ due s
  due_made = grind (arith, pending_made, due_rest, due_is, left_same)
