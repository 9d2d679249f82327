-- Looking alike is kept along a sequence of changes.
use Rattle.std.proofs.Common.{◌≡◌, ℕ, ◌+◌, ◌-◌, ◌<◌, true, false, ◌||◌, eqb, List, ◌++◌, get_or, set, sym, refl, ap, ◌∙◌, subst, ap₂, inl, inr, arith}
use Rattle.std.proofs.lemmas.List.{get_or-set_same, get_or-set_other}
use Rattle.std.proofs.lemmas.Bool.{ne_eqb, cases_eq, false≢true}
use Rattle.kinds.specs.Shapes.{Shape}
use Rattle.graph.specs.Graph.{size}
use Rattle.semispace.specs.declared.collector.Collector.{Collector}
use Rattle.semispace.specs.Layout.{mem}
use Rattle.semispace.specs.Words.{leads_new, State, target, set_slots, forwarded_state, forwarded_reference, state_at, reference_at, set_collector, own, resting, place_of, word_at, next_place}
use Rattle.semispace.specs.Sound.{the_olds, the_news, size_of, good, opened_at, Sound, number, name}
use Rattle.semispace.specs.declared.collector.Target.{Target}
use Rattle.semispace.specs.declared.collector.Target.TheVariants.{Settled, Placed, Unplaced}
use Rattle.semispace.proofs.Spreads.{by_bool, mem_append, mem_left, mem_right}
use Rattle.semispace.proofs.ReserveSound.{noted_state, good_more, words_olds, reserved_is}
use Rattle.semispace.proofs.Putting.{all}
use Rattle.semispace.proofs.SlotSound.{old, placed_zero, placed_some}
use Rattle.semispace.proofs.Stepping.{size_is}
use Rattle.semispace.proofs.ReserveAgree.{number_place}
use Rattle.semispace.proofs.Homes.{name_kept, twin_number}
use Rattle.semispace.proofs.Like.{objs, Like, objs_all, name_by, reserve_like, turned_like}

pub like_refl : (s : State) → resting s.collector ≡ false → Like s s
like_refl s g = record { going = g; book = refl; count = refl; next = refl; spare = refl; size = refl; olds = refl; mades = refl; news = λ x k. k; head = λ x k. refl; kind = λ x k. refl; number = λ x k. refl; shown = λ x i k l. refl; slots = λ n l. refl; sourced = λ f. f }

pub like_all : (s t : State) → Like s t → (x : ℕ) → mem x (all s) ≡ true → mem x (all t) ≡ true
like_all s t L x k = elim (mem_append x (the_news s) (the_olds s) k) [ inl e ↦ mem_left x (the_news t) (the_olds t) (L.news x e) | inr e ↦ mem_right x (the_news t) (the_olds t) (rw L.olds e) ]

pub like_objs : (s t : State) → Like s t → objs t ≡ objs s
like_objs s t L = ap₂ (λ xs ys. xs ++ ys) L.olds L.mades

pub like_size : (s t : State) → Like s t → (x : ℕ) → mem x (all s) ≡ true → size_of t x ≡ size_of s x
like_size s t L x k = size_is t x ∙ (ap₂ (λ (b : List Shape) n. 2 + size b n) L.book (L.kind x k) ∙ sym (size_is s x))

pub like_trans : (s t u : State) → Like s t → Like t u → Like s u
like_trans s t u L M = record {
  going = M.going;
  book = M.book ∙ L.book;
  count = M.count ∙ L.count;
  next = M.next ∙ L.next;
  spare = M.spare ∙ L.spare;
  size = M.size ∙ L.size;
  olds = M.olds ∙ L.olds;
  mades = M.mades ∙ L.mades;
  news = λ x k. M.news x (L.news x k);
  head = λ x k. M.head x (rw (like_objs s t L) k) ∙ L.head x k;
  kind = λ x k. M.kind x (like_all s t L x k) ∙ L.kind x k;
  number = λ x k. M.number x (like_all s t L x k) ∙ L.number x k;
  shown = λ x i k l. M.shown x i (rw (like_objs s t L) k) (rw (like_size s t L x (objs_all s x k)) l) ∙ L.shown x i k l;
  slots = λ n l. M.slots n (rw L.count l) ∙ L.slots n l;
  sourced = λ f. M.sourced (L.sourced f);
}

-- What is put for a reference names the same record.
pub record ForwardLike (s t : State) (r v : ℕ) : Type 0 where
  pub like : Like s t
  pub means : name t v ≡ name s r
  pub was : name t r ≡ name s r
  pub words : (x i : ℕ) → mem x (the_olds s) ≡ true → 2 + i < size_of s x → word_at t (x + (2 + i)) ≡ word_at s (x + (2 + i))
  pub book : t.book ≡ s.book

pub name_of : (s : State) (r x : ℕ) → r ≡ x + 1 → name s r ≡ number s x
unfolding name
name_of s r x e = let z : eqb r 0 ≡ false = ne_eqb r 0 (λ d. omega arith) in let q : r - 1 ≡ x = omega arith in rw (z, q)

module _ (s : State) (S : Sound s) (going : resting s.collector ≡ false) (r : ℕ) (g : good (all s) r ≡ true) where
  pub forward_like : ForwardLike s (forwarded_state s r) r (forwarded_reference s r)
  forward_like =
      let P : Target → Type 0 = λ t. ForwardLike s (state_at s r t) r (reference_at s r t) in
      by_bool (eqb r 0 || leads_new s.halves r)
      (λ e.
      let q : target s r ≡ Settled = rw e in
      subst P (sym q) (record { like = like_refl s going; means = refl; was = refl; words = λ x i k l. refl; book = refl }))
      (λ e.
      let o = old s S going r g e in
      elim (cases_eq (place_of s (r - 1)) 0) [
        | inl z ↦
            let q : target s r ≡ Unplaced = rw e (placed_zero (place_of s (r - 1)) z) in
            let Q : State → Type 0 = λ t. ForwardLike s t r (next_place s + 1) in
            subst P (sym q) (subst Q (sym (reserved_is s (r - 1)))
            (record {
              like = reserve_like s S going (r - 1) o.1 z;
              means = name_of (noted_state s (r - 1)) (next_place s + 1) (next_place s) refl ∙ (number_place s S going (r - 1) o.1 z ∙ sym (name_of s r (r - 1) o.0));
              was = name_kept s S going (r - 1) o.1 z r g;
              words = λ x i k l. words_olds s S going (r - 1) o.1 z x (2 + i) k l (λ d. omega (arith, d.1));
              book = refl;
            }))
        | inr z ↦
            let q : target s r ≡ Placed (place_of s (r - 1)) = rw e (placed_some (place_of s (r - 1)) z) in
            let tw = (S.cycle going).twin (r - 1) o.1 z in
            subst P (sym q)
            (record {
              like = like_refl s going;
              means = name_of s (place_of s (r - 1)) (place_of s (r - 1) - 1) (omega arith) ∙ (twin_number s S (r - 1) (place_of s (r - 1) - 1) o.1 tw ∙ sym (name_of s r (r - 1) o.0));
              was = refl;
              words = λ x i k l. refl;
              book = refl;
            })
      ])

-- Slot n gets v, and the collector moves on to c.
module _ (t : State) (T : Sound t) (n v : ℕ) (c : Collector) (going : resting t.collector ≡ false)
    (leads : good (the_news t) v ≡ true) (there : n < t.count)
    (means : name t v ≡ name t (get_or t.slots n 0))
    (going_c : resting c ≡ false)
    (opened_c : (x : ℕ) → opened_at t.halves c x ≡ opened_at t.halves t.collector x)
    (own_c : (x k : ℕ) → own t.halves c x k ≡ own t.halves t.collector x k)
  where
    abbrev slotted : State
    slotted = set_collector (set_slots t (set t.slots n v)) c

    number_s : (x : ℕ) → mem x (all t) ≡ true → number slotted x ≡ number t x
    unfolding number
    number_s x k = rw (opened_c x)

    slots_s : (k : ℕ) → k < t.count → name slotted (get_or (set t.slots n v) k 0) ≡ name t (get_or t.slots k 0)
    slots_s k l =
        elim (cases_eq k n) [
          | inl e ↦
              let q : get_or (set t.slots n v) k 0 ≡ v = rw e (get_or-set_same t.slots n v 0 (omega (arith, T.enough))) in
              ap (name slotted) q ∙ (name_by t slotted number_s v (good_more (the_news t) (all t) v (λ x m. mem_left x (the_news t) (the_olds t) m) leads) ∙ (means ∙ ap (λ k. name t (get_or t.slots k 0)) (sym e)))
          | inr e ↦
              let q : get_or (set t.slots n v) k 0 ≡ get_or t.slots k 0 = get_or-set_other t.slots n k v 0 e in
              ap (name slotted) q ∙ name_by t slotted number_s (get_or t.slots k 0) ((T.cycle going).slots_refer k l)
        ]

    pub slot_like : Sound slotted → Like t slotted
    slot_like U =
        turned_like t T going t.memory c (set t.slots n v) going_c refl refl refl (λ x k. refl) (λ x k. refl) number_s (λ x i k l. refl) (λ x i k l o. refl)
        (λ x i k o. own_c x i ∙ o)
        (λ x i o k l no yes ko e. absurd (false≢true (sym no ∙ (sym (own_c x i) ∙ yes))))
        slots_s U
