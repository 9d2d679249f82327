-- A reference that is put in a cycle: the place, reserved if there is none, names the same record.
use Rattle.std.proofs.Common.{rules, ◌≡◌, ℕ, zero, suc, ◌+◌, ◌-◌, ◌<◌, ◌≤◌, true, false, ◌&&◌, ◌||◌, eqb, ◌⊎◌, List, [], ◌∷◌, map, get_or, take, set as lib_set, sym, refl, ap, ◌∙◌, subst, ap₂, inl, inr, arith}
use Rattle.std.proofs.lemmas.List.{get_or-set_same, get_or-set_other, length-set}
use Rattle.std.proofs.lemmas.Bool.{or_cases, or_left, or_right, and_from, and_parts, eqb-true, eq-eqb}
use Rattle.semispace.specs.declared.collector.Collector.{Collector}
use Rattle.semispace.specs.declared.collector.Collector.TheVariants.{Rest, Slots, Scan, Field}
use Rattle.semispace.specs.Layout.{mem}
use Rattle.semispace.specs.Words.{leads_new, State, target, set_slots, forwarded_state, forwarded_reference, state_at, reference_at, resting, refers, kind_at}
use Rattle.semispace.specs.Sound.{the_olds, the_news, the_places, size_of, good, At, Sound, number, value, name, shown}
use Rattle.semispace.specs.declared.collector.Target.{Target}
use Rattle.semispace.specs.declared.collector.Target.TheVariants.{Settled}
use Rattle.semispace.specs.Dues.{objects, names_below, edge, root, lives, kept, opened_record, slots_left, fields_left, pending, due}
use Rattle.semispace.specs.Graphs.{raw_of, Known}
use Rattle.semispace.specs.Reach.{some}
use Rattle.semispace.proofs.Spreads.{mem_left}
use Rattle.semispace.proofs.ReserveSound.{good_more}
use Rattle.semispace.proofs.ReserveAgree.{new_leads}
use Rattle.semispace.proofs.Putting.{all}
use Rattle.semispace.proofs.SlotSound.{forward_sound, good_cases}
use Rattle.semispace.proofs.Like.{the_mades, Like}
use Rattle.semispace.proofs.Likes.{like_size, name_of, forward_like}
use Rattle.semispace.proofs.Knowing.{objects_cycle, known_like}
use Rattle.semispace.proofs.Graphing.{map_same, record_of_eq, graph_eq, raw_like}
use Rattle.semispace.proofs.Whole.{Reference}
use Rattle.semispace.proofs.Less.{reach_more, sum_le, Less, root_new, root_cases, root_names, lives_root}
use Rattle.semispace.proofs.Gaining.{due_is, forward_less}
use Rattle.semispace.proofs.Collecting.{due_rest}
use Rattle.semispace.proofs.Sourcing.{source_of, has_from}

-- The reference r is to be put: v is put for it, in t.
pub record Forth (s t : State) (r v : ℕ) : Type 0 where
  pub sound : Sound t
  pub known : Known t
  pub raw : raw_of t ≡ raw_of s
  pub leads : good (the_news t) v ≡ true
  pub means : name t v ≡ name s r
  pub collector : t.collector ≡ s.collector
  pub slots : t.slots ≡ s.slots
  pub count : t.count ≡ s.count
  pub book : t.book ≡ s.book
  pub spare : t.spare ≡ s.spare
  pub size : t.halves.size ≡ s.halves.size
  pub kept : kept t ≤ kept s
  pub due : due t ≤ due s
  pub kind : (x : ℕ) → ((resting s.collector ≡ true → mem x (the_news s) ≡ true) × (resting s.collector ≡ false → mem x (all s) ≡ true)) → kind_at t x ≡ kind_at s x

left_same : (s t : State) → Sound s → Like s t → (c : Collector) → At s c → slots_left t c + fields_left t c ≡ slots_left s c + fields_left s c
left_same s t S L Rest a = refl
left_same s t S L (Slots n) a = let e = L.count in omega arith
left_same s t S L (Scan at) a = refl
left_same s t S L (Field c) a = let e = like_size s t L c.at (mem_left c.at (the_news s) (the_olds s) (mem_left c.at (the_places s) (the_mades s) a.0)) in omega arith

-- In a cycle: a reference to what lives.
pub forth_cycle : (s : State) (S : Sound s) (K : Known s) → resting s.collector ≡ false → (r : ℕ) → good (all s) r ≡ true → ((x : ℕ) → mem x (objects s) ≡ true → name s r ≡ number s x → lives s x ≡ true) → Forth s (forwarded_state s r) r (forwarded_reference s r)
forth_cycle s S K going r g li =
    let f = forward_sound s S going r g in
    let k = forward_like s S going r g in
    let w = forward_less s S K going r g (λ e o. li (r - 1) (rw (objects_cycle s going) (mem_left (r - 1) (the_olds s) (the_mades s) o)) (name_of s r (r - 1) e)) in
    let t = forwarded_state s r in
    let L = k.like in
    let a = due_is s going in
    let b = due_is t L.going in
    let p = w.pending in
    let c1 = left_same s t S L s.collector S.at in
    let c2 : slots_left t t.collector + fields_left t t.collector ≡ slots_left t s.collector + fields_left t s.collector = ap (λ c. slots_left t c + fields_left t c) f.collector in
    record {
      sound = f.sound;
      known = known_like s t going K L;
      raw = raw_like s t S f.sound going L;
      leads = f.leads;
      means = k.means;
      collector = f.collector;
      slots = f.slots;
      count = f.count;
      book = L.book;
      spare = L.spare;
      size = L.size;
      kept = w.kept;
      due = omega arith;
      kind = λ x q. L.kind x (q.1 going);
    }

-- At rest: nothing is to be done.
pub forth_rest : (s : State) (S : Sound s) (K : Known s) → (r : ℕ) → good (the_news s) r ≡ true → Forth s (forwarded_state s r) r (forwarded_reference s r)
forth_rest s S K r g =
    let P : Target → Type 0 = λ t. Forth s (state_at s r t) r (reference_at s r t) in
    let e : (eqb r 0 || leads_new s.halves r) ≡ true =
    elim (good_cases (the_news s) r g) [
      | inl z ↦ or_left (eqb r 0) (leads_new s.halves r) (eq-eqb r 0 z)
      | inr z ↦ or_right (eqb r 0) (leads_new s.halves r) (let q : r - 1 + 1 ≡ r = omega (arith, z.0) in ap (leads_new s.halves) (sym q) ∙ new_leads s S.laid (r - 1) z.1)
    ] in
    let q : target s r ≡ Settled = rw e in
    subst P (sym q) (record { sound = S; known = K; raw = refl; leads = g; means = refl; collector = refl; slots = refl; count = refl; book = refl; spare = refl; size = refl; kept = omega arith; due = omega arith; kind = λ x q. refl })

pub forth : (s : State) (S : Sound s) (K : Known s) → (r : ℕ) → Reference s S K r → ((x : ℕ) → mem x (objects s) ≡ true → name s r ≡ number s x → lives s x ≡ true) → Forth s (forwarded_state s r) r (forwarded_reference s r)
forth s S K r g li = search (rules, arith, forth_rest, forth_cycle)

-- Slot b gets v.
module _ (t : State) (T : Sound t) (K : Known t) (b v : ℕ) (leads : good (the_news t) v ≡ true) (there : b < t.count) where
  abbrev set : State
  set = set_slots t (lib_set t.slots b v)

  at_s : (d : Collector) → At t d → At set d
  at_s Rest h = h
  at_s (Slots k) h = h
  at_s (Scan at) h = h
  at_s (Field c) h = h

  slot_is : (xs : List ℕ) (k : ℕ) → k < t.count → good xs (get_or t.slots k 0) ≡ true → good xs v ≡ true → good xs (get_or (lib_set t.slots b v) k 0) ≡ true
  slot_is xs k l f g = grind (arith, get_or-set_same, get_or-set_other)

  pub set_sound : Sound set
  set_sound = record {
    bounds = omega (arith, T.bounds);
    laid = T.laid;
    enough = rw (length-set t.slots b v) T.enough;
    at = at_s t.collector T.at;
    rest = T.rest;
    cycle = λ r. record {
      sum = (T.cycle r).sum;
      room = (T.cycle r).room;
      twin = λ o m ne. let w = (T.cycle r).twin o m ne in record { inside = w.inside; kind = w.kind; back = w.back; head = w.head };
      back = (T.cycle r).back;
      olds_refer = (T.cycle r).olds_refer;
      slots_refer = λ k l. slot_is (all t) k l ((T.cycle r).slots_refer k l) (good_more (the_news t) (all t) v (λ x m. mem_left x (the_news t) (the_olds t) m) leads);
    };
    news_refer = T.news_refer;
    slots_passed = λ k l u. slot_is (the_news t) k l (T.slots_passed k l u) leads;
    plain = T.plain;
  }

  objects_set : objects set ≡ objects t
  unfolding objects
  objects_set = refl

  pub set_known : Known set
  set_known = record {
    first = K.first;
    apart = λ x y kx ky e. K.apart x y (rw objects_set at kx) (rw objects_set at ky) e;
    given = λ x k. K.given x (rw objects_set at k);
    kinds = λ x k. K.kinds x (rw objects_set at k);
    sourced = λ r p k. let q = source_of t p (K.sourced r p k) in has_from set p (record { from = q.from; old = q.old; place = q.place });
  }

  number_set : (x : ℕ) → number set x ≡ number t x
  unfolding number
  number_set x = refl

  name_set : (r : ℕ) → name set r ≡ name t r
  unfolding name number
  name_set r = refl

  shown_set : (x i : ℕ) → shown set x i ≡ shown t x i
  unfolding shown name number value
  shown_set x i = refl

  map_set : (f g : ℕ → ℕ) → ((r : ℕ) → f r ≡ g r) → (n : ℕ) (xs : List ℕ) (k : ℕ) → map f (take n (lib_set xs k v)) ≡ lib_set (map g (take n xs)) k (g v)
  map_set f g h zero xs k = refl
  map_set f g h (suc n) [] k = refl
  map_set f g h (suc n) (x ∷ xs) zero = ap₂ (λ y ys. y ∷ ys) (h v) (take_all n xs)
    where
      take_all : (n : ℕ) (xs : List ℕ) → map f (take n xs) ≡ map g (take n xs)
      take_all zero xs = refl
      take_all (suc n) [] = refl
      take_all (suc n) (x ∷ xs) = ap₂ (λ y ys. y ∷ ys) (h x) (take_all n xs)
  map_set f g h (suc n) (x ∷ xs) (suc k) = ap₂ (λ y ys. y ∷ ys) (h x) (map_set f g h n xs k)

  pub set_raw : raw_of set ≡ record { slots = lib_set (raw_of t).slots b (name t v); next = (raw_of t).next; records = (raw_of t).records }
  unfolding raw_of
  set_raw = grind (arith, graph_eq, map_set, name_set, objects_set, map_same, record_of_eq, number_set, shown_set)

  names_set : (a n i : ℕ) → names_below set a n i ≡ names_below t a n i
  unfolding names_below
  names_set a n zero = refl
  names_set a n (suc i) = ap₂ (λ u w. u || w) (names_set a n i) (ap (λ w. refers t.book (kind_at t a) i && eqb w n) (shown_set a i))

  edge_set : (x y : ℕ) → edge set x y ≡ edge t x y
  unfolding edge
  edge_set x y = ap (λ n. names_below set x n (size_of t x - 2)) (number_set y) ∙ names_set x (number t y) (size_of t x - 2)

  opened_set : (x : ℕ) → opened_record set x ≡ opened_record t x
  unfolding opened_record number
  opened_set x = refl

  module _ (li : (x : ℕ) → mem x (objects t) ≡ true → name t v ≡ number t x → lives t x ≡ true) where
    root_set : (x : ℕ) → mem x (objects t) ≡ true → root set x ≡ true → lives t x ≡ true
    root_set x k h =
        elim (root_cases set x h) [
          | inl e0 ↦
              let e : some (λ w. eqb w (number t x)) (lib_set (map (name t) (take t.count t.slots)) b (name t v)) ≡ true =
              ap₂ (λ n xs. some (λ w. eqb w n) xs) (sym (number_set x)) (sym (map_set (name set) (name t) name_set t.count t.slots b)) ∙ e0 in
              elim (some_set (number t x) (map (name t) (take t.count t.slots)) b (name t v) e) [
                | inl d ↦ lives_root t x (root_names t x d)
                | inr d ↦ li x k d
              ]
          | inr w ↦ lives_root t x (root_new t w.0 x w.1 (sym (number_set w.0) ∙ (w.2 ∙ number_set x)))
        ]
      where
        some_set : (n : ℕ) (xs : List ℕ) (k w : ℕ) → some (λ y. eqb y n) (lib_set xs k w) ≡ true → (some (λ y. eqb y n) xs ≡ true) ⊎ (w ≡ n)
        some_set n [] k w h = inl h
        some_set n (x ∷ xs) zero w h = elim (or_cases (eqb w n) (some (λ y. eqb y n) xs) h) [ inl e ↦ inr (eqb-true w n e) | inr e ↦ inl (or_right (eqb x n) (some (λ y. eqb y n) xs) e) ]
        some_set n (x ∷ xs) (suc k) w h =
            elim (or_cases (eqb x n) (some (λ y. eqb y n) (lib_set xs k w)) h) [
              | inl e ↦ inl (or_left (eqb x n) (some (λ y. eqb y n) xs) e)
              | inr e ↦ elim (some_set n xs k w e) [ inl d ↦ inl (or_right (eqb x n) (some (λ y. eqb y n) xs) d) | inr d ↦ inr d ]
            ]

    lives_set : (x : ℕ) → mem x (objects t) ≡ true → lives set x ≡ true → lives t x ≡ true
    unfolding lives
    lives_set x k h = grind (arith, objects_set, reach_more, root_set, edge_set)

    pub set_less : Less t set
    unfolding kept pending
    set_less = search (rules, arith, kept, sum_le, lives_set, objects_set, and_parts, and_from, opened_set)

    left_set : (c : Collector) → slots_left set c + fields_left set c ≡ slots_left t c + fields_left t c
    left_set Rest = refl
    left_set (Slots n) = refl
    left_set (Scan at) = refl
    left_set (Field c) = refl

    pub set_due : due set ≤ due t
    set_due = grind (arith, set_less, due_rest, due_is, left_set)
