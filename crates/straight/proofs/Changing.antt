-- One slot or one field set: the state stays whole, and its list of records changes as the graph's call says.
use Rattle.std.proofs.Common.{◌≡◌, ℕ, zero, suc, ◌+◌, ◌-◌, ◌<◌, ◌≤◌, Bool, true, false, cond, ◌⊎◌, List, [], ◌∷◌, map, length, get_or, take, set, sym, refl, ap, ◌∙◌, subst, inl, inr, ⊎_elim, suc-le-suc, zero-le, arith}
use lib.Seq.{take-set-lt}
use Rattle.std.proofs.lemmas.Bool.{cases_eq}
use Rattle.std.proofs.lemmas.List.{length-set, get_or-set_same, get_or-set_other, map-set, get_or-take}
use Rattle.kinds.specs.Shapes.{Shape}
use Rattle.graph.specs.Graph.{◌∈◌, size, refers}
use Rattle.graph.specs.Calls.{with_slot, with_field}
use Rattle.graph.specs.View.{raw, Wrote}
use Rattle.graph.proofs.Views.{wrote_changed}
use Rattle.straight.specs.Words.{State, reference, place, spot, word_at, with_memory, with_slots}
use Rattle.straight.specs.Layout.{places, end_of, name, shown, view, names, raw_of}
use Rattle.straight.specs.Whole.{Whole, Records, Leads}
use Rattle.straight.proofs.Walk.{set_number, set_kind, set_field, set_laid}
use Rattle.straight.proofs.Reading.{among_in, name_full, placed_view, slot_number, taken_length, fields_below, slot_place}
use Rattle.std.proofs.lemmas.Grind.{common_steps}

-- names by words that agree at the records
pub name_kept : (mem mem' : List ℕ) (ps : List ℕ) → ((q : ℕ) → q ∈ ps → get_or mem' q 0 ≡ get_or mem q 0) → (x : ℕ) → Leads ps x → name mem' x ≡ name mem x
name_kept mem mem' ps same zero f = refl
name_kept mem mem' ps same (suc x) f =
    let z : 0 < suc x = suc-le-suc zero-le in
    name_full mem' (suc x) z ∙ same (suc x - 1) (among_in (suc x - 1) ps (f z)) ∙ sym (name_full mem (suc x) z)

pub map_names : (f g : ℕ → ℕ) (xs : List ℕ) → ((a : ℕ) → a < length xs → f (get_or xs a 0) ≡ g (get_or xs a 0)) → map f xs ≡ map g xs
map_names f g [] h = refl
map_names f g (x ∷ xs) h = let e : f x ≡ g x = h 0 (suc-le-suc zero-le) in let t : map f xs ≡ map g xs = map_names f g xs (λ a l. h (suc a) (suc-le-suc l)) in cc

-- a field by words that agree
pub shown_kept : (book : List Shape) (mem mem' : List ℕ) (q j x : ℕ) → get_or mem' (q + 1) 0 ≡ get_or mem (q + 1) 0 → get_or mem' (q + 2 + j) 0 ≡ x → (refers book (get_or mem (q + 1) 0) j ≡ true → name mem' x ≡ name mem x) → shown book mem' q j ≡ cond (refers book (get_or mem (q + 1) 0) j) (name mem x) x
shown_kept book mem mem' q j x k e f = grind (arith, common_steps)
  where
    pick : (b : Bool) → (b ≡ true → name mem' x ≡ name mem x) → cond b (name mem' x) x ≡ cond b (name mem x) x
    pick true h = h refl
    pick false h = refl

module _ (s : State) (w : Whole s) where
  abbrev ps : List ℕ
  ps = places s.book s.memory s.top

  taken : (a : ℕ) → a < s.count → get_or (take s.count s.slots) a 0 ≡ reference s a
  taken a l = get_or-take s.count s.slots a 0 l

  -- a slot is set to a reference that leads to a record
  module _ (b x : ℕ) (l : b < s.count) (f : Leads ps x) where
    pub slot_whole : Whole (with_slots s (set s.slots b x))
    slot_whole =
        record {
          few = w.few;
          array = subst (λ n. s.count ≤ n) (sym (length-set s.slots b x)) w.array;
          inside = w.inside;
          fits = w.fits;
          small = w.small;
          numbers = w.numbers;
          first = w.first;
          kinds = w.kinds;
          laid = w.laid;
          records = w.records;
          slots = λ a k. ⊎_elim
              (λ e. subst (Leads ps) (sym (ap (λ c. get_or (set s.slots b x) c 0) e ∙ get_or-set_same s.slots b x 0 (let m : s.count ≤ length s.slots = w.array in omega arith))) f)
              (λ ne. subst (Leads ps) (sym (get_or-set_other s.slots b a x 0 ne)) (w.slots a k))
              (cases_eq a b);
        }

    pub slot_raw : raw_of (with_slots s (set s.slots b x)) ≡ with_slot (raw_of s) b (name s.memory x)
    unfolding raw
    slot_raw =
        let e : names (with_slots s (set s.slots b x)) ≡ set (names s) b (name s.memory x) =
        ap (map (name s.memory)) (take-set-lt s.count s.slots b x l) ∙ map-set (name s.memory) (take s.count s.slots) b x in
        λ i. record { slots = e i; next = s.next; records = (raw_of s).records }

  -- a field of a slot's record is set to a word, or to a reference that leads to a record
  module _ (a i x : ℕ) (t : Bool) (l : a < s.count) (z : 0 < reference s a) (below : i < size s.book (word_at s (place s a + 1))) (sort : refers s.book (word_at s (place s a + 1)) i ≡ t) (f : t ≡ true → Leads ps x) where
    abbrev p : ℕ
    p = place s a

    abbrev mem : List ℕ
    mem = s.memory

    abbrev mem' : List ℕ
    mem' = set s.memory (spot s a i) x

    inside : p ∈ ps
    inside = slot_place s w a l z

    room : spot s a i < length mem
    room = let h : p + 2 + size s.book (word_at s (p + 1)) ≤ s.top = fields_below s w a l z in let j : s.top ≤ s.room = w.inside in let k : s.room ≤ length s.memory = w.fits in omega arith

    numbers : (q : ℕ) → q ∈ ps → get_or mem' q 0 ≡ get_or mem q 0
    numbers q j = set_number s.book mem s.top p i x w.laid inside below q j

    kinds : (q : ℕ) → q ∈ ps → get_or mem' (q + 1) 0 ≡ get_or mem (q + 1) 0
    kinds q j = set_kind s.book mem s.top p i x w.laid inside below q j

    others : (q j : ℕ) → q ∈ ps → j < size s.book (get_or mem (q + 1) 0) → (q ≡ p → j ≡ i → ⊥) → get_or mem' (q + 2 + j) 0 ≡ get_or mem (q + 2 + j) 0
    others q j m k ne = set_field s.book mem s.top p i x w.laid inside below q j m k ne

    laid : (places s.book mem' s.top ≡ ps) × (end_of s.book mem' 0 (places s.book mem' s.top) ≡ s.top)
    laid = set_laid s.book mem s.top p i x w.laid inside below

    here : get_or mem' (p + 2 + i) 0 ≡ x
    here = get_or-set_same mem (p + 2 + i) x 0 room

    keep : (y : ℕ) → Leads ps y → name mem' y ≡ name mem y
    keep y g = name_kept mem mem' ps numbers y g

    wrote : Wrote s.book (view s.book mem s.top) (view s.book mem' s.top) p i (cond t (name mem x) x)
    unfolding view
    wrote =
        record {
          places = laid.0;
          number = numbers;
          kind = kinds;
          here = shown_kept s.book mem mem' p i x (kinds p inside) here (λ e. keep x (f (sym sort ∙ e))) ∙ ap (λ b. cond b (name mem x) x) sort;
          other = λ q j m k ne. shown_kept s.book mem mem' q j (get_or mem (q + 2 + j) 0) (kinds q m) (others q j m k ne) (λ e. keep (get_or mem (q + 2 + j) 0) (w.records.fields q m j k e));
        }

    pub field_raw : raw_of (with_memory s mem') ≡ with_field (raw_of s) a i (cond t (name mem x) x)
    field_raw =
        let e : names (with_memory s mem') ≡ names s =
        map_names (name mem') (name mem) (take s.count s.slots)
        (λ b k. let k' : b < s.count = subst (λ n. b < n) (taken_length s w) k in keep (get_or (take s.count s.slots) b 0) (subst (Leads ps) (sym (taken b k')) (w.slots b k'))) in
        ap (λ xs. raw s.book (view s.book mem' s.top) xs s.next) e
        ∙ wrote_changed s.book (view s.book mem s.top) (view s.book mem' s.top) (names s) s.next p i (cond t (name mem x) x) (placed_view s w) (unfold view in inside) wrote a (unfold view in slot_number s w a l z)

    leads : (q j : ℕ) → q ∈ ps → j < size s.book (get_or mem (q + 1) 0) → refers s.book (get_or mem (q + 1) 0) j ≡ true → Leads ps (get_or mem' (q + 2 + j) 0)
    leads q j m k e = both (cases_eq q p) (cases_eq j i)
      where
        both : (q ≡ p) ⊎ (q ≡ p → ⊥) → (j ≡ i) ⊎ (j ≡ i → ⊥) → Leads ps (get_or mem' (q + 2 + j) 0)
        both (inl c) (inl d) =
            subst (Leads ps) (sym (ap (λ y. get_or mem' (y + 2 + j) 0) c ∙ ap (λ y. get_or mem' (p + 2 + y) 0) d ∙ here))
            (f (sym sort ∙ ap (λ y. refers s.book (get_or mem (p + 1) 0) y) (sym d) ∙ ap (λ y. refers s.book (get_or mem (y + 1) 0) j) (sym c) ∙ e))
        both (inl c) (inr d) = subst (Leads ps) (sym (others q j m k (λ _ y. d y))) (w.records.fields q m j k e)
        both (inr c) d = subst (Leads ps) (sym (others q j m k (λ y _. c y))) (w.records.fields q m j k e)

    pub field_whole : Whole (with_memory s mem')
    field_whole =
        let same = laid.0 in
        record {
          few = w.few;
          array = w.array;
          inside = w.inside;
          fits = subst (λ n. s.room ≤ n) (sym (length-set mem (spot s a i) x)) w.fits;
          small = w.small;
          numbers = w.numbers;
          first = w.first;
          kinds = w.kinds;
          laid = laid.1;
          records = subst (λ (qs : List ℕ). Records s.book mem' qs s.next) (sym same) (record {
            kinds = λ q m. subst (λ k. k < length s.book) (sym (kinds q m)) (w.records.kinds q m);
            given = λ q m. subst (λ n. (0 < n) × (n < s.next)) (sym (numbers q m)) (w.records.given q m);
            apart = λ q r m n e. w.records.apart q r m n (sym (numbers q m) ∙ e ∙ numbers r n);
            fields = λ q m j k e.
                let d : get_or mem' (q + 1) 0 ≡ get_or mem (q + 1) 0 = kinds q m in
                leads q j m (subst (λ y. j < size s.book y) d k) (subst (λ y. refers s.book y j ≡ true) d e);
          });
          slots = λ b k. subst (λ (qs : List ℕ). Leads qs (reference s b)) (sym same) (w.slots b k);
        }
