-- Each transition of a cycle takes at least one step off the due.
use Rattle.std.proofs.Common.{rules, ◌≡◌, ℕ, ◌+◌, ◌-◌, ◌<◌, ◌≤◌, true, false, ◌&&◌, ◌||◌, eqb, ltb, leb, get_or, set, sym, refl, ap, ◌∙◌, subst, inl, inr, arith}
use Rattle.std.proofs.lemmas.Bool.{or_left, or_right, ltb-true, lt-ltb, and_parts, eqb-true, cases_eq}
use Rattle.semispace.specs.declared.collector.Collector.{Collector}
use Rattle.semispace.specs.declared.collector.Collector.TheVariants.{Slots, Scan, Field}
use Rattle.semispace.specs.Layout.{mem}
use Rattle.semispace.specs.Words.{cursor, leads_new, State, target, set_slots, forwarded_state, state_at, reference_at, passed, slots_from, put_at, set_collector, written, fields_from, fields_at, resting, refers, kind_at, place_of, word_at}
use Rattle.semispace.specs.Sound.{the_olds, the_news, the_places, size_of, good, opened_at, At, Sound, number}
use Rattle.semispace.specs.declared.collector.Target.{Target}
use Rattle.semispace.specs.declared.collector.Target.TheVariants.{Settled, Placed, Unplaced}
use Rattle.semispace.specs.Dues.{lives, kept, slots_left, fields_left, pending, due}
use Rattle.semispace.specs.Graphs.{Known}
use Rattle.semispace.proofs.Spreads.{by_bool, mem_left}
use Rattle.semispace.proofs.ReserveSound.{noted_state, reserved_is, sound_after, news_cases}
use Rattle.semispace.proofs.Putting.{all, news_put}
use Rattle.semispace.proofs.SlotSound.{Forwarded, forward_sound, old, placed_zero, placed_some}
use Rattle.semispace.proofs.FieldNext.{or3}
use Rattle.semispace.proofs.Stepping.{size_is, written_sound, passed_sound}
use Rattle.semispace.proofs.ReserveAgree.{number_place}
use Rattle.semispace.proofs.Like.{the_mades, objs, Like, reserve_like, Alike}
use Rattle.semispace.proofs.Likes.{like_size, ForwardLike, name_of, forward_like}
use Rattle.semispace.proofs.StepLike.{slots_from_like, written_like, passed_like}
use Rattle.semispace.proofs.Knowing.{objects_cycle, known_apart, known_like}
use Rattle.semispace.proofs.Whole.{number_apart}
use Rattle.semispace.proofs.Less.{Less, less_refl, less_trans, root_slot, lives_root, less_like}

pub objs_apart : (s : State) → Sound s → Known s → resting s.collector ≡ false → (a b : ℕ) → mem a (objs s) ≡ true → mem b (objs s) ≡ true → number s a ≡ number s b → a ≡ b
objs_apart s S K g a b ka kb e = number_apart s S K a b (rw (objects_cycle s g) ka) (rw (objects_cycle s g) kb) e

pub due_is : (s : State) → resting s.collector ≡ false → due s ≡ 1 + slots_left s s.collector + fields_left s s.collector + pending s
unfolding due
due_is s r = rw r

-- A place is reserved for a record that lives.
pub reserve_less : (s : State) (S : Sound s) (K : Known s) (going : resting s.collector ≡ false) (o : ℕ) (is_old : mem o (the_olds s) ≡ true) (none : place_of s o ≡ 0) → lives s o ≡ true → Less s (noted_state s o)
reserve_less s S K going o is_old none li =
    less_like s (noted_state s o) S (sound_after s S going o is_old none) going (reserve_like s S going o is_old none)
    (λ p k. elim (news_cases s S going o is_old none p k) [
      | inl e ↦ inl e
      | inr e ↦ inr (o, mem_left o (the_olds s) (the_mades s) is_old, ap (number (noted_state s o)) e ∙ number_place s S going o is_old none, li)
    ])
    (objs_apart s S K going)
    (λ p k h. h)

pub forward_less : (s : State) (S : Sound s) (K : Known s) (going : resting s.collector ≡ false) (r : ℕ) (g : good (all s) r ≡ true) → ((r ≡ r - 1 + 1) → mem (r - 1) (the_olds s) ≡ true → lives s (r - 1) ≡ true) → Less s (forwarded_state s r)
forward_less s S K going r g li =
    let P : Target → Type 0 = λ t. Less s (state_at s r t) in
    by_bool (eqb r 0 || leads_new s.halves r)
    (λ e. let q : target s r ≡ Settled = rw e in subst P (sym q) (less_refl s))
    (λ e.
    let o = old s S going r g e in
    elim (cases_eq (place_of s (r - 1)) 0) [
      | inl z ↦
          let q : target s r ≡ Unplaced = rw e (placed_zero (place_of s (r - 1)) z) in
          let Q : State → Type 0 = λ t. Less s t in
          subst P (sym q) (subst Q (sym (reserved_is s (r - 1))) (reserve_less s S K going (r - 1) o.1 z (li o.0 o.1)))
      | inr z ↦ let q : target s r ≡ Placed (place_of s (r - 1)) = rw e (placed_some (place_of s (r - 1)) z) in subst P (sym q) (less_refl s)
    ])

-- No place is added.
pub same_less : (s t : State) (S : Sound s) (T : Sound t) (K : Known s) (going : resting s.collector ≡ false) (L : Like s t) → the_news t ≡ the_news s → ((p : ℕ) → mem p (the_news s) ≡ true → opened_at s.halves s.collector p ≡ true → opened_at t.halves t.collector p ≡ true) → Less s t
same_less s t S T K going L n o = less_like s t S T going L (λ p k. inl (rw n at k)) (objs_apart s S K going) o

-- Slot.
abbrev pub Steps : State → ℕ → Type 0
Steps u n = slots_left u u.collector + fields_left u u.collector + 1 ≤ n

slot_gain : (t : State) (T : Sound t) (K : Known t) (n v : ℕ) → t.collector ≡ Slots n → Sound (set_collector (set_slots t (set t.slots n v)) (slots_from t (n + 1))) → Like t (set_collector (set_slots t (set t.slots n v)) (slots_from t (n + 1))) → Less t (set_collector (set_slots t (set t.slots n v)) (slots_from t (n + 1))) × Steps (set_collector (set_slots t (set t.slots n v)) (slots_from t (n + 1))) (t.count - n)
slot_gain t T K n v is =
    let P : Collector → Type 0 = λ c. At t c in
    let here : n < t.count = subst P is T.at in
    let R : Collector → Type 0 = λ c. Sound (set_collector (set_slots t (set t.slots n v)) c) → Like t (set_collector (set_slots t (set t.slots n v)) c) → Less t (set_collector (set_slots t (set t.slots n v)) c) × Steps (set_collector (set_slots t (set t.slots n v)) c) (t.count - n) in
    by_bool (ltb (n + 1) t.count)
    (λ d. let q : slots_from t (n + 1) ≡ Slots (n + 1) = rw d in
    subst R (sym q) (λ U L. (same_less t _ T U K (rw is) L refl (λ p k o. rw is at o), omega arith)))
    (λ d. let q : slots_from t (n + 1) ≡ Scan t.halves.base = rw d in
    subst R (sym q) (λ U L. (same_less t _ T U K (rw is) L refl (λ p k o. rw is at o), omega arith)))

pub record Gain (s t : State) : Type 0 where
  pub kept : kept t ≤ kept s
  pub due : due t < due s

pub gained : (s u : State) (n : ℕ) → resting s.collector ≡ false → resting u.collector ≡ false → slots_left s s.collector + fields_left s s.collector ≡ n → Steps u n → Less s u → Gain s u
gained s u n g h e st l = search (rules, arith, due_is, kept, due)

module _ (s : State) (S : Sound s) (K : Known s) where
  pub passed_gain : (n : ℕ) → s.collector ≡ Slots n → Gain s (passed s n)
  passed_gain n is =
      let P : Collector → Type 0 = λ c. At s c in
      let here : n < s.count = subst P is S.at in
      let going : resting s.collector ≡ false = rw is in
      let r = get_or s.slots n 0 in
      let g = (S.cycle going).slots_refer n here in
      let lw = forward_less s S K going r g (λ e k. lives_root s (r - 1) (root_slot s n (r - 1) S.enough here (name_of s r (r - 1) e))) in
      let L = passed_like s S n is in
      let c0 : slots_left s s.collector + fields_left s s.collector ≡ s.count - n = rw is (omega arith) in
      let w = go (target s r) (forward_sound s S going r g) (forward_like s S going r g) lw (passed_sound s S n is) in
      gained s (passed s n) (s.count - n) going L.going c0 w.1 w.0
    where
      go : (d : Target) → Forwarded s (state_at s (get_or s.slots n 0) d) (reference_at s (get_or s.slots n 0) d) → ForwardLike s (state_at s (get_or s.slots n 0) d) (get_or s.slots n 0) (reference_at s (get_or s.slots n 0) d) → Less s (state_at s (get_or s.slots n 0) d) → Sound (set_collector (set_slots (state_at s (get_or s.slots n 0) d) (set s.slots n (reference_at s (get_or s.slots n 0) d))) (slots_from s (n + 1))) → Less s (set_collector (set_slots (state_at s (get_or s.slots n 0) d) (set s.slots n (reference_at s (get_or s.slots n 0) d))) (slots_from s (n + 1))) × Steps (set_collector (set_slots (state_at s (get_or s.slots n 0) d) (set s.slots n (reference_at s (get_or s.slots n 0) d))) (slots_from s (n + 1))) (s.count - n)
      go Settled f k lw u = slot_gain s f.sound K n _ is u (slots_from_like s S s f.sound n _ is f.leads k.means u)
      go (Placed p) f k lw u = slot_gain s f.sound K n _ is u (slots_from_like s S s f.sound n _ is f.leads k.means u)
      go Unplaced f k lw u =
          let t = state_at s (get_or s.slots n 0) Unplaced in
          let w = slot_gain t f.sound (known_like s t (rw is) K k.like) n _ is u (slots_from_like s S t f.sound n _ is f.leads (k.means ∙ sym k.was) u) in
          (less_trans s t _ lw w.0, w.1)

-- Word, Keep, Forward, Reserve.
module _ (t : State) (T : Sound t) (K : Known t) (at from i v : ℕ) (is : t.collector ≡ Field (cursor at from i))
    (right : refers t.book (kind_at t at) i ≡ true → good (the_news t) v ≡ true)
    (means : Alike t (kind_at t from) i v (word_at t (from + (2 + i))))
  where
    here : At t (Field (cursor at from i))
    here = let P : Collector → Type 0 = λ c. At t c in subst P is T.at

    going : resting t.collector ≡ false
    going = rw is

    a_all : mem at (all t) ≡ true
    a_all = mem_left at (the_news t) (the_olds t) (mem_left at (the_places t) (the_mades t) here.0)

    write_gain_at : (c : Collector) → fields_from t (cursor at from (i + 1)) ≡ c → Less t (set_collector (put_at t (at + 2 + i) v) c) × Steps (set_collector (put_at t (at + 2 + i) v) c) (size_of t at - 2 - i)
    write_gain_at c q =
        let u = set_collector (put_at t (at + 2 + i) v) c in
        let U0 = written_sound t T at from i v is right in
        let L0 = written_like t T (known_apart t K going) at from i v is right means in
        let PU : Collector → Type 0 = λ c. Sound (set_collector (put_at t (at + 2 + i) v) c) in
        let PL : Collector → Type 0 = λ c. Like t (set_collector (put_at t (at + 2 + i) v) c) in
        let U : Sound u = subst PU q U0 in
        let L : Like t u = subst PL q L0 in
        let e : at + (2 + i) ≡ at + 2 + i = omega arith in
        let N : ℕ → Type 0 = λ y. the_news (set_collector (put_at t y v) c) ≡ the_news t in
        let nw : the_news u ≡ the_news t = subst N e (news_put t T.laid at (2 + i) v a_all here.3 (omega arith)) in
        let z = like_size t u L at a_all in
        let zf = size_is t at in
        let h3 = here.3 in
        by_bool (ltb (i + 1) (fields_at t at))
        (λ d.
        let c1 : c ≡ Field (cursor at from (i + 1)) = sym q ∙ (rw d) in
        let l = ltb-true (i + 1) (fields_at t at) d in
        let st : slots_left u c + fields_left u c + 1 ≤ size_of t at - 2 - i = rw c1 (omega arith) in
        (same_less t u T U K going L nw (λ p k o. let o2 = rw is at o in rw c1 o2), st))
        (λ d.
        let c1 : c ≡ Scan (at + 2 + fields_at t at) = sym q ∙ (rw d) in
        let st : slots_left u c + fields_left u c + 1 ≤ size_of t at - 2 - i = rw c1 (omega arith) in (
          same_less t u T U K going L nw (λ p k o.
              let o2 : (leb (t.halves.base + t.halves.high) p || (ltb p at || (eqb p at && true))) ≡ true = rw is at o in
              let f = at + 2 + fields_at t at in
              rw c1 (elim (or3 (leb (t.halves.base + t.halves.high) p) (ltb p at) (eqb p at && true) o2) [
                | inl g ↦ or_left (leb (t.halves.base + t.halves.high) p) (ltb p f || (eqb p f && false)) g
                | inr g ↦ or_right (leb (t.halves.base + t.halves.high) p) (ltb p f || (eqb p f && false)) (or_left (ltb p f) (eqb p f && false)
                    (elim g [ inl j ↦ let h = ltb-true p at j in lt-ltb p f (omega arith) | inr j ↦ let h = eqb-true p at (and_parts (eqb p at) true j).0 in lt-ltb p f (omega arith) ]))
              ])),
          st,
        ))

    pub write_gain : Less t (written t (cursor at from i) v) × Steps (written t (cursor at from i) v) (size_of t at - 2 - i)
    write_gain = write_gain_at (fields_from t (cursor at from (i + 1))) refl
