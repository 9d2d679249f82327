-- What a cycle keeps is at most the live words and what was made since: kept and due are bounded.
use Rattle.std.proofs.Common.{rules, ◌≡◌, ℕ, zero, suc, ◌+◌, ◌-◌, ◌<◌, ◌≤◌, Bool, true, false, not, ◌&&◌, ◌||◌, eqb, ltb, ◌≢◌, List, [], ◌∷◌, ◌++◌, map, length, get_or, take, sym, refl, ap, ◌∙◌, subst, inl, inr, arith}
use Rattle.std.proofs.lemmas.Bool.{eqb-false, or_cases, or_left, or_right, and_parts, eqb-true, false≢true}
use Rattle.std.proofs.lemmas.List.{get_or-map}
use Rattle.std.proofs.lemmas.List.FromFn.{length-map-range_with_len}
use Rattle.kinds.specs.Shapes.{Shape, no_shape}
use Rattle.graph.specs.Meaning.{headed_charges}
use Rattle.graph.specs.Graph.{size, Record, Reached, by_slot, by_field}
use Rattle.graph.proofs.Changes.{map_in}
use Rattle.graph.specs.Graph as GG
use Rattle.graph.specs.Calls as GC
use Rattle.graph.proofs.Prune.{live_is}
use Rattle.graph.proofs.Reach.{reached_sound, reached_complete}
use Rattle.semispace.specs.declared.collector.Collector.TheVariants.{Scan}
use Rattle.semispace.specs.Layout.{mem, total, placed}
use Rattle.semispace.specs.Words.{State, finished, fields_at, resting, refers, kind_at, place_of, next_place}
use Rattle.semispace.specs.Sound.{the_olds, the_news, the_places, size_of, Sound, number, name, shown}
use Rattle.semispace.specs.Dues.{objects, names_below, edge, root, lives, kept, opened_record, pending, due}
use Rattle.semispace.specs.Graphs.{record_of, raw_of, graph_of, Known}
use Rattle.semispace.specs.Reach.{some, sum_where}
use Rattle.semispace.proofs.Spreads.{by_bool, mem_head, mem_left, mem_right, total_append}
use Rattle.semispace.proofs.Ends.{done_sound}
use Rattle.semispace.proofs.Stepping.{size_is}
use Rattle.semispace.proofs.Homes.{twin_number}
use Rattle.semispace.proofs.Like.{the_mades}
use Rattle.semispace.proofs.Knowing.{objects_cycle, objects_rest}
use Rattle.semispace.proofs.Graphing.{mem_in}
use Rattle.semispace.proofs.Whole.{object_number, object_refers, shown_at}
use Rattle.semispace.proofs.Reaching.{least}
use Rattle.semispace.proofs.Less.{sum_le, root_new, root_cases, lives_root}
use Rattle.semispace.proofs.Gaining.{due_is, Gain}

sum_append : (p : ℕ → Bool) (f : ℕ → ℕ) (xs ys : List ℕ) → sum_where p f (xs ++ ys) ≡ sum_where p f xs + sum_where p f ys
sum_append p f [] ys = omega arith
sum_append p f (x ∷ xs) ys = let r = sum_append p f xs ys in omega arith

sum_all : (s : State) (p : ℕ → Bool) (xs : List ℕ) → ((x : ℕ) → mem x xs ≡ true → p x ≡ true) → sum_where p (size_of s) xs ≡ total s.book s.memory xs
sum_all s p [] h = refl
sum_all s p (x ∷ xs) h = let r = sum_all s p xs (λ y k. h y (or_right (eqb y x) (mem y xs) k)) in rw (h x (mem_head x xs)) (omega arith)

sum_placed : (s : State) (p : ℕ → Bool) (xs : List ℕ) → ((x : ℕ) → mem x xs ≡ true → place_of s x ≢ 0 → p x ≡ true) → placed s.book s.memory xs ≤ sum_where p (size_of s) xs
sum_placed s p [] h = omega arith
sum_placed s p (x ∷ xs) h = search (rules, arith, or_right, mem_head, eqb-false, sum_placed s p xs (λ y k. h y (or_right (eqb y x) (mem y xs) k)))

pub kept_rest : (s : State) → Sound s → resting s.collector ≡ true → kept s ≡ s.halves.low + (s.halves.size - s.halves.high)
unfolding kept
kept_rest s S r = grind (arith, sum_all, lives_root, root_new, total_append, the_mades, objects_rest)

-- Done.
module _ (s : State) (S : Sound s) (K : Known s) (at : ℕ) (is : s.collector ≡ Scan at) (over : ltb at (next_place s) ≡ false) where
  pub done_kept : kept (finished s) ≤ kept s
  done_kept =
      let going : resting s.collector ≡ false = rw is in
      let k = kept_rest (finished s) (done_sound s S at is over) refl in
      let low = kept_cycle going in
      omega arith
    where
      kept_cycle : resting s.collector ≡ false → s.halves.low + (s.halves.size - s.halves.high) ≤ kept s
      kept_cycle going = unfold kept in (
          let P : List ℕ → Type 0 = λ xs. s.halves.low + (s.halves.size - s.halves.high) ≤ sum_where (lives s) (size_of s) xs in
          let b = sum_all s (lives s) (the_mades s) (λ x k. lives_root s x (root_new s x x (mem_right x (the_places s) (the_mades s) k) refl)) in
          let a = sum_placed s (lives s) (the_olds s) (λ x k ne.
          let tw = (S.cycle going).twin x k ne in
          lives_root s x (root_new s (place_of s x - 1) x (mem_left (place_of s x - 1) (the_places s) (the_mades s) tw.inside) (twin_number s S x (place_of s x - 1) k tw))) in
          let c = sum_append (lives s) (size_of s) (the_olds s) (the_mades s) in
          let d = (S.cycle going).sum in
          let mf = S.laid.mades_fill in
          let tp = S.laid.top in
          subst P (sym (objects_cycle s going)) (omega arith))

  pub done_gain : Gain s (finished s)
  done_gain =
      let a = due_is s (rw is) in
      let b : due (finished s) ≡ 0 = done_due in
      record { kept = done_kept; due = omega arith }
    where
      done_due : due (finished s) ≡ 0
      done_due = unfold due in refl

-- What lives from the slots alone is reached in the graph.
some_index : (n : ℕ) (vs : List ℕ) → some (λ v. eqb v n) vs ≡ true → (a : ℕ) × (a < length vs) × (get_or vs a 0 ≡ n)
some_index n [] h = absurd (false≢true h)
some_index n (v ∷ vs) h =
    elim (or_cases (eqb v n) (some (λ v. eqb v n) vs) h) [
      | inl e ↦ (0, omega arith, eqb-true v n e)
      | inr e ↦ let w = some_index n vs e in (suc w.0, let l = w.1 in omega arith, w.2)
    ]

pub names_is : (s : State) (a n k : ℕ) → names_below s a n k ≡ true → (i : ℕ) × (i < k) × (refers s.book (kind_at s a) i ≡ true) × (shown s a i ≡ n)
unfolding names_below
names_is s a n zero h = absurd (false≢true h)
names_is s a n (suc k) h =
    elim (or_cases (names_below s a n k) (refers s.book (kind_at s a) k && eqb (shown s a k) n) h) [
      | inl e ↦ let w = names_is s a n k e in (w.0, let l = w.1 in omega arith, w.2, w.3)
      | inr e ↦ let v = and_parts (refers s.book (kind_at s a) k) (eqb (shown s a k) n) e in (k, omega arith, v.0, eqb-true (shown s a k) n v.1)
    ]

module _ (s : State) (S : Sound s) (K : Known s) where
  abbrev book : List Shape
  book = s.book

  number_above : (x : ℕ) → mem x (objects s) ≡ true → 0 < number s x
  number_above x k = rw (object_number s S x k) (K.given x k).0

  pub slot_reaches : (x : ℕ) → mem x (objects s) ≡ true → some (λ v. eqb v (number s x)) (map (name s) (take s.count s.slots)) ≡ true → Reached book (raw_of s) (number s x)
  unfolding raw_of
  slot_reaches x k h = let w = some_index (number s x) (map (name s) (take s.count s.slots)) h in by_slot w.0 w.1 w.2 (number_above x k)

  pub edge_reaches : (y x : ℕ) → mem y (objects s) ≡ true → mem x (objects s) ≡ true → edge s y x ≡ true → Reached book (raw_of s) (number s y) → Reached book (raw_of s) (number s x)
  unfolding raw_of edge record_of
  edge_reaches y x ky kx h p =
      let w = names_is s y (number s x) (size_of s y - 2) h in
      let i = w.0 in
      let z = size_is s y in
      let l : i < fields_at s y = let l = w.1 in omega arith in
      by_field (record_of s y) (map_in (record_of s) (objects s) y (mem_in y (objects s) ky)) p
      (record { place = i; below = let e = length-map-range_with_len (shown s y) 0 (fields_at s y) in omega arith; reference = object_refers s S K y i ky ∙ w.2; is = shown_at s S K y i l ∙ w.3 })
      (number_above x kx)

  pub lives_reached : ((p : ℕ) → mem p (the_news s) ≡ true → ⊥) → (x : ℕ) → mem x (objects s) ≡ true → lives s x ≡ true → GG.reached book (raw_of s) (number s x) ≡ true
  unfolding lives
  lives_reached empty x m h =
      out x m (least (objects s) (edge s) (root s) (λ y. not (mem y (objects s)) || GG.reached book (raw_of s) (number s y))
      (λ y k. inside y (λ n. elim (root_cases s y k) [
        | inl e ↦ reached_complete book (raw_of s) (slot_reaches y n e)
        | inr w ↦ absurd (empty w.0 w.1)
      ]))
      (λ y z n k d. inside z (λ o. reached_complete book (raw_of s) (edge_reaches y z n o d (reached_sound book (raw_of s) (number s y) (out y n k))))) x h)
    where
      inside : (x : ℕ) → (mem x (objects s) ≡ true → GG.reached book (raw_of s) (number s x) ≡ true) → (not (mem x (objects s)) || GG.reached book (raw_of s) (number s x)) ≡ true
      inside x h = by_bool (mem x (objects s)) (λ m. or_right (not (mem x (objects s))) (GG.reached book (raw_of s) (number s x)) (h m)) (λ m. or_left (not (mem x (objects s))) (GG.reached book (raw_of s) (number s x)) (rw m))

      out : (x : ℕ) → mem x (objects s) ≡ true → (not (mem x (objects s)) || GG.reached book (raw_of s) (number s x)) ≡ true → GG.reached book (raw_of s) (number s x) ≡ true
      out x m h = let v : (false || GG.reached book (raw_of s) (number s x)) ≡ true = rw m at h in v

  charge_is : (x : ℕ) → mem x (objects s) ≡ true → get_or (headed_charges s.book) (kind_at s x) 0 ≡ size_of s x
  charge_is x k = get_or-map (λ (q : Shape). 2 + q.fields) s.book (kind_at s x) no_shape 0 (K.kinds x k) ∙ sym (size_is s x)

  weigh : (p : ℕ → Bool) (xs : List ℕ) → ((x : ℕ) → mem x xs ≡ true → mem x (objects s) ≡ true) → sum_where (λ x. p (number s x)) (size_of s) xs ≡ GC.total (headed_charges s.book) (GG.select (λ (r : Record). p r.number) (map (record_of s) xs))
  unfolding record_of
  weigh p [] h = refl
  weigh p (x ∷ xs) h = search (rules, arith, or_right, charge_is, mem_head, weigh p xs (λ y k. h y (or_right (eqb y x) (mem y xs) k)))

  pub live_sum : sum_where (λ x. GG.reached book (raw_of s) (number s x)) (size_of s) (objects s) ≡ GC.live s.book (headed_charges s.book) (graph_of s)
  unfolding graph_of
  live_sum = weigh (GG.reached book (raw_of s)) (objects s) (λ x k. k) ∙ sym (live_is book (headed_charges s.book) (raw_of s) ∙ records_are)
    where
      records_are : GC.total (headed_charges s.book) (GG.select (λ (r : Record). GG.reached book (raw_of s) r.number) (raw_of s).records) ≡ GC.total (headed_charges s.book) (GG.select (λ (r : Record). GG.reached book (raw_of s) r.number) (map (record_of s) (objects s)))
      records_are = ap (λ rs. GC.total (headed_charges s.book) (GG.select (λ (r : Record). GG.reached book (raw_of s) r.number) rs)) raw_records
        where
          raw_records : (raw_of s).records ≡ map (record_of s) (objects s)
          raw_records = unfold raw_of in refl

  -- With nothing in the new half only live words are kept.
  pub kept_live : ((p : ℕ) → mem p (the_news s) ≡ true → ⊥) → kept s ≤ GC.live s.book (headed_charges s.book) (graph_of s)
  unfolding kept
  kept_live empty = grind (arith, sum_le, lives_reached, live_sum)

  pub pending_kept : pending s ≤ kept s
  unfolding pending kept
  pending_kept = sum_le (λ a. lives s a && not (opened_record s a)) (lives s) (λ a. size_of s a - 1) (size_of s) (objects s) (λ x k h. (and_parts (lives s x) (not (opened_record s x)) h).0) (λ x k. omega arith)
