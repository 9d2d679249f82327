-- A record laid at the top: the state stays whole, and its list of records has one more.
use Rattle.std.proofs.Common.{◌≡◌, ℕ, ◌+◌, ◌-◌, ◌<◌, ◌≤◌, Bool, true, false, cond, ◌⊎◌, List, [], ◌∷◌, ◌++◌, map, length, get_or, take, set, sym, refl, ap, ◌∙◌, subst, inl, inr, ⊎_elim, arith}
use lib.Seq.{take-set-lt}
use Rattle.std.proofs.lemmas.Bool.{cases_eq}
use Rattle.std.proofs.lemmas.List.{length-set, get_or-set_same, get_or-set_other, map-set, get_or-take}
use Rattle.graph.specs.Graph.{◌∈◌, size, refers}
use Rattle.graph.specs.Calls.{make, changed}
use Rattle.graph.specs.Sound.{Same}
use Rattle.graph.specs.View.{raw, Made}
use Rattle.graph.proofs.Views.{made_same}
use Rattle.straight.specs.Words.{State, reference, laid, words_after}
use Rattle.straight.specs.Layout.{places, end_of, name, shown, view, names, raw_of}
use Rattle.straight.specs.Whole.{Whole, Leads, among}
use Rattle.graph.proofs.Clearing.{cleared_length, cleared_under, cleared_over, cleared_at}
use Rattle.straight.proofs.Walk.{push_laid, low, laid_once, in_append, append_left, append_right}
use Rattle.straight.proofs.Reading.{among_in, in_among, name_full, taken_length}
use Rattle.straight.proofs.Changing.{name_kept, map_names, shown_kept}
use Rattle.std.proofs.lemmas.Grind.{common_steps}

-- the words of a record that is laid
module _ (m : List ℕ) (p number k n : ℕ) (fits : p + (2 + n) ≤ length m) where
  head : List ℕ
  head = set (set m p number) (p + 1) k

  head_length : length head ≡ length m
  unfolding head
  head_length = grind (arith, common_steps)

  pub laid_length : length (laid m p number k n) ≡ length m
  unfolding head
  laid_length = cleared_length head (p + 2) n ∙ head_length

  pub laid_under : (x : ℕ) → x < p → get_or (laid m p number k n) x 0 ≡ get_or m x 0
  laid_under x l =
      cleared_under (set (set m p number) (p + 1) k) (p + 2) n x (omega arith)
      ∙ get_or-set_other (set m p number) (p + 1) x k 0 (λ e. omega arith)
      ∙ get_or-set_other m p x number 0 (λ e. omega arith)

  pub laid_over : (x : ℕ) → p + (2 + n) ≤ x → get_or (laid m p number k n) x 0 ≡ get_or m x 0
  laid_over x l =
      cleared_over (set (set m p number) (p + 1) k) (p + 2) n x (omega arith)
      ∙ get_or-set_other (set m p number) (p + 1) x k 0 (λ e. omega arith)
      ∙ get_or-set_other m p x number 0 (λ e. omega arith)

  pub laid_number : get_or (laid m p number k n) p 0 ≡ number
  laid_number =
      cleared_under (set (set m p number) (p + 1) k) (p + 2) n p (omega arith)
      ∙ get_or-set_other (set m p number) (p + 1) p k 0 (λ e. omega arith)
      ∙ get_or-set_same m p number 0 (omega arith)

  pub laid_kind : get_or (laid m p number k n) (p + 1) 0 ≡ k
  laid_kind =
      let e : length (set m p number) ≡ length m = length-set m p number in
      cleared_under (set (set m p number) (p + 1) k) (p + 2) n (p + 1) (omega arith)
      ∙ get_or-set_same (set m p number) (p + 1) k 0 (omega arith)

  pub laid_field : (j : ℕ) → j < n → get_or (laid m p number k n) (p + 2 + j) 0 ≡ 0
  unfolding head
  laid_field j l = let e : length head ≡ length m = head_length in cleared_at head (p + 2) n j (omega arith) l

module _ (s : State) (w : Whole s) (a k : ℕ) (l : a < s.count) (known : k < length s.book) (room : 2 + size s.book k ≤ s.room - s.top) (less : s.next ≤ 4294967295) where
  abbrev pub ps : List ℕ
  ps = places s.book s.memory s.top

  abbrev pub n : ℕ
  n = size s.book k

  abbrev pub mem : List ℕ
  mem = s.memory

  abbrev pub mem' : List ℕ
  mem' = laid s.memory s.top s.next k n

  abbrev pub ps' : List ℕ
  ps' = places s.book mem' (s.top + (2 + n))

  pub fits : s.top + (2 + n) ≤ length mem
  fits = grind (arith, common_steps)

  under : (x : ℕ) → x < s.top → get_or mem' x 0 ≡ get_or mem x 0
  under = laid_under mem s.top s.next k n fits

  pushed : (ps' ≡ ps ++ (s.top ∷ [])) × (end_of s.book mem' 0 ps' ≡ s.top + (2 + n))
  pushed = push_laid s.book mem mem' s.top k w.laid under (laid_kind mem s.top s.next k n fits)

  below : (q : ℕ) → q ∈ ps → q + 2 + size s.book (get_or mem (q + 1) 0) ≤ s.top
  below q j = low s.book mem mem' s.top k w.laid under (laid_kind mem s.top s.next k n fits) q j

  pub numbers : (q : ℕ) → q ∈ ps → get_or mem' q 0 ≡ get_or mem q 0
  numbers q j = under q (let h : q + 2 + size s.book (get_or mem (q + 1) 0) ≤ s.top = below q j in omega arith)

  pub kinds : (q : ℕ) → q ∈ ps → get_or mem' (q + 1) 0 ≡ get_or mem (q + 1) 0
  kinds q j = under (q + 1) (let h : q + 2 + size s.book (get_or mem (q + 1) 0) ≤ s.top = below q j in omega arith)

  fields : (q j : ℕ) → q ∈ ps → j < size s.book (get_or mem (q + 1) 0) → get_or mem' (q + 2 + j) 0 ≡ get_or mem (q + 2 + j) 0
  fields q j m d = under (q + 2 + j) (let h : q + 2 + size s.book (get_or mem (q + 1) 0) ≤ s.top = below q m in omega arith)

  into : (q : ℕ) → q ∈ ps' → (q ≡ s.top) ⊎ (q ∈ ps)
  into q j = ⊎_elim (λ y. inr y) (⊎_elim (λ y. inl y) (λ y. absurd y)) (in_append ps (s.top ∷ []) q (subst (λ xs. q ∈ xs) pushed.0 j))

  pub old : (q : ℕ) → q ∈ ps → q ∈ ps'
  old q j = subst (λ xs. q ∈ xs) (sym pushed.0) (append_left ps (s.top ∷ []) q j)

  new : s.top ∈ ps'
  new = subst (λ xs. s.top ∈ xs) (sym pushed.0) (append_right ps (s.top ∷ []) s.top (inl refl))

  wider : (x : ℕ) → Leads ps x → Leads ps' x
  wider x f z = in_among (x - 1) ps' (old (x - 1) (among_in (x - 1) ps (f z)))

  keep : (y : ℕ) → Leads ps y → name mem' y ≡ name mem y
  keep y g = name_kept mem mem' ps numbers y g

  empty : (j : ℕ) → j < n → shown s.book mem' s.top j ≡ 0
  empty j d =
      let e : get_or mem' (s.top + 2 + j) 0 ≡ 0 = laid_field mem s.top s.next k n fits j d in
      ap (λ x. cond (refers s.book (get_or mem' (s.top + 1) 0) j) (name mem' x) x) e ∙ zero_shown (refers s.book (get_or mem' (s.top + 1) 0) j)
    where
      zero_shown : (b : Bool) → cond b (name mem' 0) 0 ≡ 0
      zero_shown true = refl
      zero_shown false = refl

  pub made : Made s.book (view s.book mem s.top) (view s.book mem' (s.top + (2 + n))) s.top k s.next
  unfolding view
  made =
      record {
        into = into;
        new = new;
        old = old;
        once = laid_once s.book mem' (s.top + (2 + n)) pushed.1;
        number = numbers;
        kind = kinds;
        shown = λ q j m d. shown_kept s.book mem mem' q j (get_or mem (q + 2 + j) 0) (kinds q m) (fields q j m d) (λ e. keep (get_or mem (q + 2 + j) 0) (w.records.fields q m j d e));
        numbered = laid_number mem s.top s.next k n fits;
        kinded = laid_kind mem s.top s.next k n fits;
        empty = empty;
      }

  names_made : names (words_after s (make a k)) ≡ set (names s) a s.next
  names_made =
      ap (map (name mem')) (take-set-lt s.count s.slots a (s.top + 1) l)
      ∙ map-set (name mem') (take s.count s.slots) a (s.top + 1)
      ∙ ap (λ y. set (map (name mem') (take s.count s.slots)) a y) (name_full mem' (s.top + 1) (omega arith) ∙ ap (λ y. get_or mem' y 0) (back s.top) ∙ laid_number mem s.top s.next k n fits)
      ∙ ap (λ xs. set xs a s.next)
      (map_names (name mem') (name mem) (take s.count s.slots)
      (λ b d. let d' : b < s.count = subst (λ y. b < y) (taken_length s w) d in
      keep (get_or (take s.count s.slots) b 0) (subst (Leads ps) (sym (get_or-take s.count s.slots b 0 d')) (w.slots b d'))))
    where
      back : (x : ℕ) → x + 1 - 1 ≡ x
      back x = omega arith

  pub made_raw : Same s.book (changed s.book (raw_of s) (make a k)) (raw_of (words_after s (make a k)))
  made_raw =
      subst (λ xs. Same s.book (changed s.book (raw_of s) (make a k)) (raw s.book (view s.book mem' (s.top + (2 + n))) xs (s.next + 1))) (sym names_made)
      (made_same s.book (view s.book mem s.top) (view s.book mem' (s.top + (2 + n))) (names s) s.next s.top k a made)

  one : (q r : ℕ) → get_or mem' q 0 ≡ get_or mem' r 0 → (q ≡ s.top) ⊎ (q ∈ ps) → (r ≡ s.top) ⊎ (r ∈ ps) → q ≡ r
  one q r e (inl x) (inl y) = x ∙ sym y
  one q r e (inl x) (inr y) = let h : get_or mem' q 0 ≡ s.next = ap (λ z. get_or mem' z 0) x ∙ laid_number mem s.top s.next k n fits in let f : get_or mem r 0 < s.next = (w.records.given r y).1 in let g : get_or mem' r 0 ≡ get_or mem r 0 = numbers r y in absurd (omega arith)
  one q r e (inr x) (inl y) = let h : get_or mem' r 0 ≡ s.next = ap (λ z. get_or mem' z 0) y ∙ laid_number mem s.top s.next k n fits in let f : get_or mem q 0 < s.next = (w.records.given q x).1 in let g : get_or mem' q 0 ≡ get_or mem q 0 = numbers q x in absurd (omega arith)
  one q r e (inr x) (inr y) = w.records.apart q r x y (sym (numbers q x) ∙ e ∙ numbers r y)

  leads : (q : ℕ) (j : ℕ) → j < size s.book (get_or mem' (q + 1) 0) → refers s.book (get_or mem' (q + 1) 0) j ≡ true → (q ≡ s.top) ⊎ (q ∈ ps) → Leads ps' (get_or mem' (q + 2 + j) 0)
  leads q j d t (inl e) z =
      let c : get_or mem' (q + 1) 0 ≡ k = ap (λ y. get_or mem' (y + 1) 0) e ∙ laid_kind mem s.top s.next k n fits in
      let h : get_or mem' (q + 2 + j) 0 ≡ 0 = ap (λ y. get_or mem' (y + 2 + j) 0) e ∙ laid_field mem s.top s.next k n fits j (subst (λ y. j < size s.book y) c d) in
      absurd (omega arith)
  leads q j d t (inr m) z =
      let d' : j < size s.book (get_or mem (q + 1) 0) = subst (λ y. j < size s.book y) (kinds q m) d in
      let t' : refers s.book (get_or mem (q + 1) 0) j ≡ true = subst (λ y. refers s.book y j ≡ true) (kinds q m) t in
      wider (get_or mem' (q + 2 + j) 0) (subst (Leads ps) (sym (fields q j m d')) (w.records.fields q m j d' t')) z

  slot_leads : (b : ℕ) → b < s.count → (b ≡ a) ⊎ (b ≡ a → ⊥) → Leads ps' (get_or (set s.slots a (s.top + 1)) b 0)
  slot_leads b d (inl e) =
      let h : get_or (set s.slots a (s.top + 1)) b 0 ≡ s.top + 1 = ap (λ y. get_or (set s.slots a (s.top + 1)) y 0) e ∙ get_or-set_same s.slots a (s.top + 1) 0 (let y : s.count ≤ length s.slots = w.array in omega arith) in
      subst (Leads ps') (sym h) (λ z. subst (λ y. among y ps' ≡ true) (sym (back s.top)) (in_among s.top ps' new))
    where
      back : (x : ℕ) → x + 1 - 1 ≡ x
      back x = omega arith
  slot_leads b d (inr ne) = subst (Leads ps') (sym (get_or-set_other s.slots a b (s.top + 1) 0 ne)) (wider (reference s b) (w.slots b d))

  pub made_whole : Whole (words_after s (make a k))
  made_whole =
      let i : s.top ≤ s.room = w.inside in
      let z : 0 < s.next = w.first (omega arith) in
      record {
        few = w.few;
        array = subst (λ y. s.count ≤ y) (sym (length-set s.slots a (s.top + 1))) w.array;
        inside = omega arith;
        fits = subst (λ y. s.room ≤ y) (sym (laid_length mem s.top s.next k n fits)) w.fits;
        small = w.small;
        numbers = omega arith;
        first = λ _. omega arith;
        kinds = w.kinds;
        laid = pushed.1;
        records = record {
          kinds = λ q m. ⊎_elim (λ e. subst (λ y. y < length s.book) (sym (ap (λ y. get_or mem' (y + 1) 0) e ∙ laid_kind mem s.top s.next k n fits)) known) (λ j. subst (λ y. y < length s.book) (sym (kinds q j)) (w.records.kinds q j)) (into q m);
          given = λ q m. ⊎_elim
              (λ e. let h : get_or mem' q 0 ≡ s.next = ap (λ y. get_or mem' y 0) e ∙ laid_number mem s.top s.next k n fits in (omega arith, omega arith))
              (λ j. let h : get_or mem' q 0 ≡ get_or mem q 0 = numbers q j in let f : (0 < get_or mem q 0) × (get_or mem q 0 < s.next) = w.records.given q j in (omega arith, omega arith))
              (into q m);
          apart = λ q r m d e. one q r e (into q m) (into r d);
          fields = λ q m j d t. leads q j d t (into q m);
        };
        slots = λ b d. slot_leads b d (cases_eq b a);
      }
