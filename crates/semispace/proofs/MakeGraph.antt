-- A made record in the graph.
use Rattle.std.proofs.Common.{◌≡◌, ℕ, ◌+◌, ◌-◌, ◌/◌, ◌%◌, ◌<◌, ◌≤◌, true, false, cond, eqb, ◌≢◌, List, length, sym, refl, ap, ◌∙◌, inl, inr, arith}
use Rattle.std.proofs.lemmas.Bool.{eqb-false, or_left, le-leb, eq-eqb, cases_eq}
use Rattle.semispace.specs.Layout.{mem}
use Rattle.semispace.specs.Words.{home, State, own, resting, refers, kind_at, place_of, word_at, made_at, fields_of}
use Rattle.semispace.specs.Sound.{the_olds, the_news, the_places, size_of, good, opened_at, Sound, number, value, name, shown}
use Rattle.semispace.specs.Dues.{objects}
use Rattle.semispace.specs.Graphs.{record_of, Known}
use Rattle.semispace.specs.Callings.{grown_by}
use Rattle.semispace.proofs.Spreads.{by_bool, mem_append, mem_left, mem_right}
use Rattle.semispace.proofs.Reserving.{mades_inside}
use Rattle.semispace.proofs.ReserveAgree.{new_leads, old_leads_not}
use Rattle.semispace.proofs.Putting.{all}
use Rattle.semispace.proofs.SlotSound.{good_cases}
use Rattle.semispace.proofs.Homes.{size_by_kind}
use Rattle.semispace.proofs.Like.{the_mades}
use Rattle.semispace.proofs.Likes.{name_of}
use Rattle.semispace.proofs.FieldLike.{unopened_place}
use Rattle.semispace.proofs.Knowing.{objects_cycle, objects_rest}
use Rattle.semispace.proofs.Graphing.{record_of_eq, rest_number, rest_home, old_number}
use Rattle.semispace.proofs.Whole.{rested, field_reference, Reference}
use Rattle.semispace.proofs.Writing.{home_of}
use Rattle.semispace.proofs.MakeSound.{make_sound, news_kept_m, opened_m, own_m, word_m, tag_m, head_m, olds_m, object_all}

module _ (s : State) (S : Sound s) (K : Known s) (k : ℕ) (known : k < 16) (kk : k < length s.book) (fits : 2 + fields_of s.book k ≤ s.spare) where
  abbrev at : ℕ
  at = made_at s k

  abbrev t : State
  t = grown_by s k

  T : Sound t
  T = make_sound s S k known fits

  abbrev pub RefersTo : ℕ → Type 0
  RefersTo x = (resting s.collector ≡ true → mem x (the_news s) ≡ true) × (resting s.collector ≡ false → mem x (all s) ≡ true)

  head2 : (x : ℕ) → mem x (all s) ≡ true → word_at t x ≡ word_at s x
  head2 x m = head_m s S k known fits x m

  pub number2 : (x : ℕ) → RefersTo x → number t x ≡ number s x
  number2 x f =
      by_bool (resting s.collector)
      (λ e. rest_number t T x (rested s.collector e) (news_kept_m s S k known fits x (f.0 e)) ∙ (head2 x (mem_left x (the_news s) (the_olds s) (f.0 e)) ∙ sym (rest_number s S x (rested s.collector e) (f.0 e))))
      (λ e. elim (mem_append x (the_news s) (the_olds s) (f.1 e)) [
        | inl n ↦ numbers x n e
        | inr n ↦ old_number t T x (rw (olds_m s S k known fits) n) ∙ (head2 x (f.1 e) ∙ sym (old_number s S x n))
      ])
    where
      numbers : (x : ℕ) → mem x (the_news s) ≡ true → resting s.collector ≡ false → number t x ≡ number s x
      numbers x n e = unfold number in (
          by_bool (opened_at s.halves s.collector x)
          (λ d. rw (new_leads s S.laid x n, opened_m s S k known fits x n, d) (head2 x (mem_left x (the_news s) (the_olds s) n)))
          (λ d.
          let b = (S.cycle e).back x (unopened_place s S x n d) d in
          rw (new_leads s S.laid x n, opened_m s S k known fits x n, d) (ap (λ v. word_at t (v - 1)) (head2 x (mem_left x (the_news s) (the_olds s) n)) ∙ head2 (word_at s x - 1) (mem_right (word_at s x - 1) (the_news s) (the_olds s) b.1))))

  pub name2 : (r : ℕ) → Reference s S K r → name t r ≡ name s r
  name2 r g =
      elim (cases_eq r 0) [
        | inl z ↦ none t z ∙ sym (none s z)
        | inr z ↦
            let e : r ≡ r - 1 + 1 = omega arith in
            name_of t r (r - 1) e ∙ (number2 (r - 1) ((λ d. member (the_news s) (g.0 d) z), λ d. member (all s) (g.1 d) z) ∙ sym (name_of s r (r - 1) e))
      ]
    where
      none : (u : State) → r ≡ 0 → name u r ≡ 0
      none u z = unfold name in (let q : eqb r 0 ≡ true = eq-eqb r 0 z in rw q)

      member : (xs : List ℕ) → good xs r ≡ true → r ≢ 0 → mem (r - 1) xs ≡ true
      member xs g z = elim (good_cases xs r g) [ inl d ↦ absurd (z d) | inr d ↦ d.1 ]

  home_made : (x n : ℕ) → mem x (the_mades s) ≡ true → home t x n ≡ home s x n
  home_made x n m = grind (arith, mem_right, the_mades, or_left, le-leb, mades_inside, new_leads, own_m)

  home2 : (x n : ℕ) → mem x (objects s) ≡ true → home t x n ≡ home s x n
  home2 x n m =
      by_bool (resting s.collector)
      (λ e.
      let kn : mem x (the_news s) ≡ true = rw (objects_rest s e) at m in
      rest_home t T x n (rested s.collector e) (news_kept_m s S k known fits x kn) ∙ sym (rest_home s S x n (rested s.collector e) kn))
      (λ e. elim (mem_append x (the_olds s) (the_mades s) (rw (objects_cycle s e) at m)) [
        | inr d ↦ home_made x n d
        | inl d ↦
            let ol = old_leads_not s S.laid x d in
            let pt : place_of t x ≡ place_of s x = ap (λ v. v / 16) (tag_m s S k known fits x (mem_right x (the_news s) (the_olds s) d)) in
            by_bool (eqb (place_of s x) 0)
            (λ z. let ht : home t x n ≡ x = rw (ol, pt, z) in let hs : home s x n ≡ x = rw (ol, z) in ht ∙ sym hs)
            (λ z.
            let tw = (S.cycle e).twin x d (eqb-false _ _ z) in
            let p = place_of s x - 1 in
            let ow = own_m s S k known fits p n (mem_left p (the_places s) (the_mades s) tw.inside) in
            let ht : home t x n ≡ cond (own s.halves s.collector p n) p x = rw (ol, pt, z, ow) in
            let hs : home s x n ≡ cond (own s.halves s.collector p n) p x = rw (ol, z) in
            ht ∙ sym hs)
      ])

  value2 : (x n : ℕ) → mem x (objects s) ≡ true → 2 + n < size_of s x → value t x n ≡ value s x n
  value2 x n m l =
      let q = home_of s S K x n m in
      let lh : 2 + n < size_of s (home s x n) = rw (size_by_kind s (home s x n) x q.kind) l in
      go (home2 x n m) (word_m s S k known fits (home s x n) (2 + n) q.inside lh)
    where
      go : home t x n ≡ home s x n → word_at t (home s x n + (2 + n)) ≡ word_at s (home s x n + (2 + n)) → value t x n ≡ value s x n
      go e q = unfold value in (ap (λ y. word_at t (y + (2 + n))) e ∙ q)

  pub kind2 : (x : ℕ) → mem x (objects s) ≡ true → kind_at t x ≡ kind_at s x
  kind2 x m = ap (λ v. v % 16) (tag_m s S k known fits x (object_all s S k known fits x m))

  pub shown2 : (x n : ℕ) → mem x (objects s) ≡ true → 2 + n < size_of s x → shown t x n ≡ shown s x n
  unfolding shown
  shown2 x n m l =
      by_bool (refers s.book (kind_at s x) n)
      (λ e. rw (kind2 x m, e) (ap (name t) (value2 x n m l) ∙ name2 (value s x n) (field_reference s S K x n m l e)))
      (λ e. rw (kind2 x m, e) (value2 x n m l))

  pub record2 : (x : ℕ) → mem x (objects s) ≡ true → record_of t x ≡ record_of s x
  record2 x m = record_of_eq s t x x (number2 x ((λ e. rw (objects_rest s e) at m), λ e. object_all s S k known fits x m)) (kind2 x m) refl (λ n l. shown2 x n m l)
