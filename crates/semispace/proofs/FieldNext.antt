-- Where the collector is after a field.
use Rattle.std.proofs.Common.{◌≡◌, ℕ, ◌+◌, ◌<◌, ◌≤◌, Bool, true, false, ◌&&◌, ◌||◌, eqb, ltb, leb, ◌⊎◌, refl, ap, subst, inl, inr, arith}
use Rattle.std.proofs.lemmas.Bool.{or_cases, or_from, or_left, or_right, and_left, and_right, ltb-true, le-leb, lt-ltb, and_from, and_parts, eqb-true, le-ltb, eq-eqb, ne_eqb, cases_eq, cases_order}
use Rattle.semispace.specs.declared.collector.Collector.{Collector}
use Rattle.semispace.specs.declared.collector.Collector.TheVariants.{Scan, Field}
use Rattle.semispace.specs.Layout.{mem, mades}
use Rattle.semispace.specs.Words.{State, cursor, put_at, set_collector, resting, refers, kind_at}
use Rattle.semispace.specs.Sound.{the_news, the_places, size_of, good, At, Sound}
use Rattle.semispace.proofs.Spreads.{spread_apart, spread_starts, next_start, mem_append, size_two}
use Rattle.semispace.proofs.Reserving.{mades_inside}
use Rattle.semispace.proofs.FieldSound.{field_sound}

pub or3 : (x y z : Bool) → (x || (y || z)) ≡ true → (x ≡ true) ⊎ ((y ≡ true) ⊎ (z ≡ true))
or3 x y z h = elim (or_cases x (y || z) h) [ inl e ↦ inl e | inr e ↦ inr (or_cases y z e) ]

pub front_moves : (x at z : ℕ) → 2 ≤ z → (x ≤ at) ⊎ (at + z ≤ x) → (ltb x (at + z) || (eqb x (at + z) && false)) ≡ (ltb x at || (eqb x at && true))
front_moves x at z t q = grind (arith, lt-ltb, eq-eqb, or_left, or_right, and_from, or_from, le-ltb, and_right, and_left, ne_eqb)

module _ (s : State) (S : Sound s) (at from i w : ℕ) (is : s.collector ≡ Field (cursor at from i))
    (right : refers s.book (kind_at s at) i ≡ true → good (the_news s) w ≡ true)
  where
    going : resting s.collector ≡ false
    going = rw is

    here : At s (Field (cursor at from i))
    here = let P : Collector → Type 0 = λ c. At s c in subst P is S.at

    pub next_field : 2 + (i + 1) < size_of s at → Sound (set_collector (put_at s (at + (2 + i)) w) (Field (cursor at from (i + 1))))
    next_field lt =
        field_sound s S going at i w (Field (cursor at from (i + 1))) here.0 here.3 right
        (here.0, here.1, here.2, lt) refl
        (λ x m. rw is)
        (λ x n m q o.
        elim (or3 (leb (s.halves.base + s.halves.high) x) (ltb x at) (eqb x at && ltb n (i + 1)) o) [
          | inl e ↦ inl (rw is (or_left (leb (s.halves.base + s.halves.high) x) (ltb x at || (eqb x at && ltb n i)) e))
          | inr e ↦ elim e [
            | inl d ↦ inl (rw is (or_right (leb (s.halves.base + s.halves.high) x) (ltb x at || (eqb x at && ltb n i)) (or_left (ltb x at) (eqb x at && ltb n i) d)))
            | inr d ↦
                let v = and_parts (eqb x at) (ltb n (i + 1)) d in
                let g : n < i + 1 = ltb-true n (i + 1) v.1 in
                elim (cases_eq n i) [
                  | inl f ↦ inr (eqb-true x at v.0, f)
                  | inr f ↦ inl (rw is (or_right (leb (s.halves.base + s.halves.high) x) (ltb x at || (eqb x at && ltb n i)) (or_right (ltb x at) (eqb x at && ltb n i) (and_from (eqb x at) (ltb n i) v.0 (lt-ltb n i (omega arith))))))
                ]
          ]
        ])
        (λ n u. rw is)

    past : (x : ℕ) → mem x (the_places s) ≡ true → (x ≤ at) ⊎ (at + size_of s at ≤ x)
    past x m =
        elim (cases_order x at) [
          | inl e ↦ inl (omega arith)
          | inr e ↦ elim e [
            | inl d ↦ inl (omega arith)
            | inr d ↦ inr (spread_apart s.book s.memory _ _ at x (the_places s) (spread_starts s.book s.memory (s.halves.size + 1) _ _ S.laid.places_fill) here.0 m d)
          ]
        ]

    pub last_field : 2 + (i + 1) ≡ size_of s at → Sound (set_collector (put_at s (at + (2 + i)) w) (Scan (at + size_of s at)))
    last_field eq =
        field_sound s S going at i w (Scan (at + size_of s at)) here.0 here.3 right
        (next_start s.book s.memory (s.halves.size + 1) _ _ at S.laid.places_fill here.0) refl
        (λ x m. let t = size_two s.book s.memory at in let q = past x m in rw is (ap (λ v. leb (s.halves.base + s.halves.high) x || v) (front_moves x at (size_of s at) t q)))
        (λ x n m q o.
        elim (or3 (leb (s.halves.base + s.halves.high) x) (ltb x (at + size_of s at)) (eqb x (at + size_of s at) && ltb n 0) o) [
          | inl e ↦ inl (rw is (or_left (leb (s.halves.base + s.halves.high) x) (ltb x at || (eqb x at && ltb n i)) e))
          | inr e ↦
              elim e [
                | inl d ↦
                    let lt : x < at + size_of s at = ltb-true x (at + size_of s at) d in
                    elim (mem_append x (the_places s) (mades s.book s.memory s.halves) m) [
                      | inl g ↦
                          elim (cases_eq x at) [
                            | inl f ↦
                                let z : size_of s x ≡ size_of s at = ap (size_of s) f in
                                elim (cases_eq n i) [
                                  | inl j ↦ inr (f, j)
                                  | inr j ↦ inl (rw is (or_right (leb (s.halves.base + s.halves.high) x) (ltb x at || (eqb x at && ltb n i)) (or_right (ltb x at) (eqb x at && ltb n i) (and_from (eqb x at) (ltb n i) (eq-eqb x at f) (lt-ltb n i (omega arith))))))
                                ]
                            | inr f ↦
                                let q2 : x < at = elim (past x g) [ inl j ↦ omega arith | inr j ↦ absurd (omega arith) ] in
                                inl (rw is (or_right (leb (s.halves.base + s.halves.high) x) (ltb x at || (eqb x at && ltb n i)) (or_left (ltb x at) (eqb x at && ltb n i) (lt-ltb x at q2))))
                          ]
                      | inr g ↦ inl (rw is (or_left (leb (s.halves.base + s.halves.high) x) (ltb x at || (eqb x at && ltb n i)) (le-leb (s.halves.base + s.halves.high) x (mades_inside _ _ _ S.laid x g).0)))
                    ]
                | inr d ↦ absurd (omega (arith, ltb-true n 0 (and_parts (eqb x (at + size_of s at)) (ltb n 0) d).1))
              ]
        ])
        (λ n u. rw is)
