-- A copied field changes nothing that calls see.
use Rattle.std.proofs.Common.{rules, ◌≡◌, ℕ, ◌+◌, ◌-◌, ◌<◌, true, false, ◌&&◌, ◌||◌, eqb, ltb, leb, ◌≢◌, ◌⊎◌, get_or, sym, refl, ap, ◌∙◌, subst, inl, inr, arith}
use Rattle.std.proofs.lemmas.Bool.{or_from, or_left, or_right, and_right, ltb-true, lt-leb, le-leb, and_from, or_parts, le-ltb, eq-eqb, cases_eq, false≢true}
use Rattle.semispace.specs.declared.collector.Collector.{Collector}
use Rattle.semispace.specs.declared.collector.Collector.TheVariants.{Scan, Field}
use Rattle.semispace.specs.Layout.{mem}
use Rattle.semispace.specs.Words.{cursor, leads_new, State, put_at, set_collector, own, resting, kind_at, place_of, word_at, next_place}
use Rattle.semispace.specs.Sound.{the_olds, the_news, the_places, size_of, opened_at, Twin, At, Sound, number}
use Rattle.semispace.proofs.Spreads.{by_bool, mem_append, mem_left, mem_right, size_two}
use Rattle.semispace.proofs.Reserving.{places_inside, mades_inside}
use Rattle.semispace.proofs.ReserveAgree.{new_leads, old_leads_not}
use Rattle.semispace.proofs.Putting.{all, put_same, put_other, put_tag, places_put, olds_put, mades_put}
use Rattle.semispace.proofs.OpenSound.{at_in}
use Rattle.semispace.proofs.Like.{the_mades, objs, Like, objs_all, name_by, Alike, turned_like}

abbrev pub Apart : State → Type 0
Apart s = (a b : ℕ) → mem a (objs s) ≡ true → mem b (objs s) ≡ true → word_at s a ≡ word_at s b → a ≡ b

pub unopened_place : (s : State) (S : Sound s) (x : ℕ) → mem x (the_news s) ≡ true → opened_at s.halves s.collector x ≡ false → mem x (the_places s) ≡ true
unopened_place s S x k u = grind (arith, mem_append, or_parts, le-leb, mades_inside)

pub opened_made : (s : State) (S : Sound s) (c : Collector) (x : ℕ) → mem x (the_mades s) ≡ true → opened_at s.halves c x ≡ true
opened_made s S c x e = or_left (leb (s.halves.base + s.halves.high) x) _ (le-leb (s.halves.base + s.halves.high) x (mades_inside _ _ _ S.laid x e).0)

-- Field i of the place at a is written, and the collector moves on to c.
module _ (s : State) (S : Sound s) (distinct : Apart s) (a from i w : ℕ) (is : s.collector ≡ Field (cursor a from i)) (c : Collector)
    (going_c : resting c ≡ false)
    (opened_c : (x : ℕ) → mem x (the_places s) ≡ true → opened_at s.halves c x ≡ opened_at s.halves s.collector x)
    (own_c : (x n : ℕ) → mem x (the_news s) ≡ true → 2 + n < size_of s x → own s.halves c x n ≡ true → (own s.halves s.collector x n ≡ true) ⊎ ((x ≡ a) × (n ≡ i)))
    (own_b : (x n : ℕ) → mem x (the_places s) ≡ true → own s.halves s.collector x n ≡ true → own s.halves c x n ≡ true)
    (means : Alike s (kind_at s from) i w (word_at s (from + (2 + i))))
  where
    going : resting s.collector ≡ false
    going = rw is

    here : At s (Field (cursor a from i))
    here = let P : Collector → Type 0 = λ c. At s c in subst P is S.at

    a_news : mem a (the_news s) ≡ true
    a_news = mem_left a (the_places s) (the_mades s) here.0

    a_all : mem a (all s) ≡ true
    a_all = mem_left a (the_news s) (the_olds s) a_news

    p : 2 + i < size_of s a
    p = here.3

    no_tag : 2 + i ≢ 1
    no_tag = omega arith

    abbrev after : State
    after = set_collector (put_at s (a + (2 + i)) w) c

    word_f : (x n : ℕ) → mem x (all s) ≡ true → n < size_of s x → ((x ≡ a) × (n ≡ 2 + i) → ⊥) → word_at after (x + n) ≡ word_at s (x + n)
    word_f x n m q ne = put_other s S.laid a (2 + i) w a_all p no_tag x n m q ne

    head_f : (x : ℕ) → mem x (all s) ≡ true → word_at after x ≡ word_at s x
    head_f x m = let v = word_f x 0 m (omega (arith, size_two s.book s.memory x)) (λ d. omega (arith, d.1)) in let e : x + 0 ≡ x = omega arith in rw e at v

    opened_same : (x : ℕ) → mem x (the_news s) ≡ true → opened_at s.halves c x ≡ opened_at s.halves s.collector x
    opened_same x k =
        elim (mem_append x (the_places s) (the_mades s) k) [
          | inl e ↦ opened_c x e
          | inr e ↦ opened_made s S c x e ∙ sym (opened_made s S s.collector x e)
        ]

    number_f : (x : ℕ) → mem x (all s) ≡ true → number after x ≡ number s x
    unfolding number
    number_f x k = grind (arith, mem_append, new_leads, opened_same, head_f, going, unopened_place, mem_right, old_leads_not)

    old_is_not : (x : ℕ) → mem x (the_olds s) ≡ true → x ≢ a
    old_is_not x m e = false≢true (sym (old_leads_not s S.laid x m) ∙ (ap (λ y. leads_new s.halves (y + 1)) e ∙ new_leads s S.laid a a_news))

    fresh : own s.halves s.collector a i ≡ false
    fresh = grind (arith, places_inside, here, or_from, lt-leb, size_two, le-ltb, and_right)

    is_opened : opened_at s.halves s.collector a ≡ true
    is_opened = rw is (or_right (leb (s.halves.base + s.halves.high) a) (ltb a a || (eqb a a && true)) (or_right (ltb a a) (eqb a a && true) (and_from (eqb a a) true (eq-eqb a a refl) refl)))

    twin_at : (o : ℕ) → mem o (the_olds s) ≡ true → place_of s o ≡ a + 1 → Twin s o a
    twin_at o k e =
        let P : ℕ → Type 0 = λ q. Twin s o q in
        let v : place_of s o - 1 ≡ a = omega arith in
        subst P v ((S.cycle going).twin o k (λ z. omega arith))

    only : (o : ℕ) → mem o (the_olds s) ≡ true → place_of s o ≡ a + 1 → o ≡ from
    only o k e =
        distinct o from (mem_left o (the_olds s) (the_mades s) k) (mem_left from (the_olds s) (the_mades s) here.1)
        (sym ((twin_at o k e).head is_opened) ∙ (twin_at from here.1 here.2).head is_opened)

    pub field_like : Sound after → Like s after
    field_like U =
        turned_like s S going after.memory c s.slots going_c
        (olds_put s S.laid a (2 + i) w a_all p no_tag)
        (places_put s S.laid a (2 + i) w a_all p no_tag)
        (mades_put s S.laid a (2 + i) w a_all p no_tag)
        (put_tag s S.laid a (2 + i) w a_all p no_tag)
        (λ x k. head_f x (objs_all s x k))
        number_f
        (λ x n k l. word_f x (2 + n) (mem_right x (the_news s) (the_olds s) k) l (λ d. old_is_not x k d.0))
        (λ x n k l o. word_f x (2 + n) (mem_left x (the_news s) (the_olds s) k) l (λ d. false≢true (sym fresh ∙ (let e : n ≡ i = omega (arith, d.1) in rw (d.0, e) at o))))
        own_b
        (λ x n o k l no yes ko e.
        elim (own_c x n (mem_left x (the_places s) (the_mades s) k) l yes) [
          | inl q ↦ absurd (false≢true (sym no ∙ q))
          | inr q ↦
              let eo : o ≡ from = only o ko (rw q.0 at e) in
              let P : ℕ → ℕ → ℕ → Type 0 = λ x n o. Alike s (kind_at s o) n (word_at after (x + (2 + n))) (word_at s (o + (2 + n))) in
              let z : P a i from = rw (put_same s S.laid a (2 + i) w a_all p no_tag) means in
              rw (q.0, q.1, eo) z
        ])
        (λ n l. name_by s after number_f (get_or s.slots n 0) ((S.cycle going).slots_refer n l))
        U

-- The place at the front is opened, and the collector moves on to c.
module _ (s : State) (S : Sound s) (at : ℕ) (is : s.collector ≡ Scan at) (more : ltb at (next_place s) ≡ true) (c : Collector)
    (going_c : resting c ≡ false)
    (opened_c : (x : ℕ) → mem x (the_places s) ≡ true → x ≢ at → opened_at s.halves c x ≡ opened_at s.halves s.collector x)
    (opened_here : opened_at s.halves c at ≡ true)
    (own_c : (x k : ℕ) → mem x (the_news s) ≡ true → 2 + k < size_of s x → own s.halves c x k ≡ true → own s.halves s.collector x k ≡ true)
    (own_b : (x k : ℕ) → mem x (the_places s) ≡ true → own s.halves s.collector x k ≡ true → own s.halves c x k ≡ true)
  where
    going2 : resting s.collector ≡ false
    going2 = rw is

    in_places : mem at (the_places s) ≡ true
    in_places = at_in s S at is more

    in_new : mem at (the_news s) ≡ true
    in_new = mem_left at (the_places s) (the_mades s) in_places

    in_all : mem at (all s) ≡ true
    in_all = mem_left at (the_news s) (the_olds s) in_new

    shut : opened_at s.halves s.collector at ≡ false
    shut = grind (arith, ltb-true, or_from, lt-leb, le-ltb, and_right)

    abbrev num : ℕ
    num = word_at s (word_at s at - 1)

    p0 : 0 < size_of s at
    p0 = omega (arith, size_two s.book s.memory at)

    no_tag0 : ◌≢◌ {A = ℕ} 0 1
    no_tag0 = omega arith

    abbrev then : State
    then = set_collector (put_at s (at + 0) num) c

    words_o : (x n : ℕ) → mem x (all s) ≡ true → 2 + n < size_of s x → word_at then (x + (2 + n)) ≡ word_at s (x + (2 + n))
    words_o x n m q = put_other s S.laid at 0 num in_all p0 no_tag0 x (2 + n) m q (λ d. omega (arith, d.1))

    head_o : (x : ℕ) → mem x (all s) ≡ true → x ≢ at → word_at then x ≡ word_at s x
    head_o x m ne = search (rules, arith, put_other, in_all, p0, no_tag0, size_two)

    head_at : word_at then at ≡ num
    head_at =
        let v = put_same s S.laid at 0 num in_all p0 no_tag0 in
        let e : at + 0 ≡ at = omega arith in
        let P : ℕ → Type 0 = λ y. word_at then y ≡ num in
        subst P e v

    not_old : (x : ℕ) → mem x (the_olds s) ≡ true → x ≢ at
    not_old x m e = false≢true (sym (old_leads_not s S.laid x m) ∙ (ap (λ y. leads_new s.halves (y + 1)) e ∙ new_leads s S.laid at in_new))

    not_made : (x : ℕ) → mem x (the_mades s) ≡ true → x ≢ at
    not_made x m e = false≢true (sym shut ∙ (ap (opened_at s.halves s.collector) (sym e) ∙ opened_made s S s.collector x m))

    opened_others : (x : ℕ) → mem x (the_news s) ≡ true → x ≢ at → opened_at s.halves c x ≡ opened_at s.halves s.collector x
    opened_others x k ne =
        elim (mem_append x (the_places s) (the_mades s) k) [
          | inl e ↦ opened_c x e ne
          | inr e ↦ opened_made s S c x e ∙ sym (opened_made s S s.collector x e)
        ]

    number_at : number then at ≡ number s at
    unfolding number
    number_at = rw (new_leads s S.laid at in_new, opened_here, shut) head_at

    number_o : (x : ℕ) → mem x (all s) ≡ true → number then x ≡ number s x
    unfolding number
    number_o x k =
        elim (cases_eq x at) [
          | inl f ↦ ap (number then) f ∙ (number_at ∙ ap (number s) (sym f))
          | inr f ↦
              elim (mem_append x (the_news s) (the_olds s) k) [
                | inl e ↦
                    by_bool (opened_at s.halves s.collector x)
                    (λ d. rw (new_leads s S.laid x e, opened_others x e f, d) (head_o x k f))
                    (λ d.
                    let b = (S.cycle going2).back x (unopened_place s S x e d) d in
                    rw (new_leads s S.laid x e, opened_others x e f, d) (ap (λ v. word_at then (v - 1)) (head_o x k f) ∙ head_o (word_at s x - 1) (mem_right (word_at s x - 1) (the_news s) (the_olds s) b.1) (not_old (word_at s x - 1) b.1)))
                | inr e ↦ rw (old_leads_not s S.laid x e) (head_o x k f)
              ]
        ]

    pub open_like : Sound then → Like s then
    open_like U =
        turned_like s S going2 then.memory c s.slots going_c
        (olds_put s S.laid at 0 num in_all p0 no_tag0)
        (places_put s S.laid at 0 num in_all p0 no_tag0)
        (mades_put s S.laid at 0 num in_all p0 no_tag0)
        (put_tag s S.laid at 0 num in_all p0 no_tag0)
        (λ x k. head_o x (objs_all s x k) (elim (mem_append x (the_olds s) (the_mades s) k) [ inl e ↦ not_old x e | inr e ↦ not_made x e ]))
        number_o
        (λ x n k l. words_o x n (mem_right x (the_news s) (the_olds s) k) l)
        (λ x n k l o. words_o x n (mem_left x (the_news s) (the_olds s) k) l)
        own_b
        (λ x n o k l no yes ko e. absurd (false≢true (sym no ∙ own_c x n (mem_left x (the_places s) (the_mades s) k) l yes)))
        (λ n l. name_by s then number_o (get_or s.slots n 0) ((S.cycle going2).slots_refer n l))
        U
