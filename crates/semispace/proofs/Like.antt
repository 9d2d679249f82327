-- States that look alike to calls: reserving a place is one such change.
use Rattle.std.proofs.Common.{rules, ◌≡◌, ℕ, ◌+◌, ◌-◌, ◌/◌, ◌%◌, ◌<◌, true, false, T, eqb, leb, ◌≢◌, List, ◌++◌, get_or, sym, refl, ap, ◌∙◌, inl, inr, arith}
use Rattle.std.proofs.lemmas.Bool.{eqb-false, or_cases, or_left, le-leb}
use Rattle.graph.specs.Graph.{size}
use Rattle.semispace.specs.declared.collector.Collector.{Collector}
use Rattle.semispace.specs.Layout.{mem, mades}
use Rattle.semispace.specs.Words.{home, State, set_memory, set_slots, set_collector, own, resting, refers, kind_at, place_of, word_at}
use Rattle.semispace.specs.Sound.{the_olds, the_news, the_places, size_of, good, Sound, number, value, name, shown}
use Rattle.semispace.specs.Graphs.{Sourced}
use Rattle.semispace.proofs.Spreads.{by_bool, mem_append, mem_left, mem_right}
use Rattle.semispace.proofs.Reserving.{mades_inside, mades_after}
use Rattle.semispace.proofs.ReserveSound.{noted_state, good_more, room_for, olds_after, news_kept, head_news, head_olds, tag_olds, place_o, places_cases}
use Rattle.semispace.proofs.ReserveAgree.{new_leads, old_leads_not}
use Rattle.semispace.proofs.Putting.{all}
use Rattle.semispace.proofs.Homes.{value_good, size_by_kind, number_kept, kind_kept, name_kept, shown_kept}
use Rattle.semispace.proofs.Stepping.{size_is}

abbrev pub the_mades : State → List ℕ
the_mades s = mades s.book s.memory s.halves

-- The records of a cycle.
abbrev pub objs : State → List ℕ
objs s = the_olds s ++ the_mades s

-- Both are in a cycle, and calls see the same of both.
pub record Like (s t : State) : Type 0 where
  pub going : resting t.collector ≡ false
  pub book : t.book ≡ s.book
  pub count : t.count ≡ s.count
  pub next : t.next ≡ s.next
  pub spare : t.spare ≡ s.spare
  pub size : t.halves.size ≡ s.halves.size
  pub olds : the_olds t ≡ the_olds s
  pub mades : the_mades t ≡ the_mades s
  pub news : (x : ℕ) → mem x (the_news s) ≡ true → mem x (the_news t) ≡ true
  pub head : (x : ℕ) → mem x (objs s) ≡ true → word_at t x ≡ word_at s x
  pub kind : (x : ℕ) → mem x (all s) ≡ true → kind_at t x ≡ kind_at s x
  pub number : (x : ℕ) → mem x (all s) ≡ true → number t x ≡ number s x
  pub shown : (x i : ℕ) → mem x (objs s) ≡ true → 2 + i < size_of s x → shown t x i ≡ shown s x i
  pub slots : (n : ℕ) → n < s.count → name t (get_or t.slots n 0) ≡ name s (get_or s.slots n 0)
  pub sourced : ((p : ℕ) → mem p (the_places s) ≡ true → Sourced s p) → (p : ℕ) → mem p (the_places t) ≡ true → Sourced t p

pub objs_all : (s : State) (x : ℕ) → mem x (objs s) ≡ true → mem x (all s) ≡ true
objs_all s x k = grind (arith, mem_append, mem_right, mem_left)

pub name_by : (s t : State) → ((x : ℕ) → mem x (all s) ≡ true → number t x ≡ number s x) → (r : ℕ) → good (all s) r ≡ true → name t r ≡ name s r
unfolding name good
name_by s t f r g = grind (arith, or_cases, all)

-- A place is reserved.
module _ (s : State) (S : Sound s) (going : resting s.collector ≡ false) (o : ℕ) (is_old : mem o (the_olds s) ≡ true) (none : place_of s o ≡ 0) where
  mades_r : the_mades (noted_state s o) ≡ the_mades s
  mades_r = mades_after _ _ _ S.laid o is_old (room_for s S going o is_old none)

  sourced_r : ((p : ℕ) → mem p (the_places s) ≡ true → Sourced s p) → (p : ℕ) → mem p (the_places (noted_state s o)) ≡ true → Sourced (noted_state s o) p
  sourced_r f p k =
      elim (places_cases s S going o is_old none p k) [
        | inl e ↦
            let q = f p e in
            let ne : q.from ≢ o = λ d. let z : place_of s o ≡ p + 1 = rw d at q.place in omega (arith, none) in
            record { from = q.from; old = rw (olds_after s S going o is_old none) q.old; place = ap (λ v. v / 16) (tag_olds s S going o is_old none q.from q.old ne) ∙ q.place }
        | inr e ↦ record { from = o; old = rw (olds_after s S going o is_old none) is_old; place = place_o s S going o is_old none ∙ ap (λ v. v + 1) (sym e) }
      ]

  pub reserve_like : Like s (noted_state s o)
  reserve_like = record {
    going = going;
    book = refl;
    count = refl;
    next = refl;
    spare = refl;
    size = refl;
    olds = olds_after s S going o is_old none;
    mades = mades_r;
    news = news_kept s S going o is_old none;
    head = λ x k. elim (mem_append x (the_olds s) (the_mades s) k) [ inl e ↦ head_olds s S going o is_old none x e | inr e ↦ head_news s S going o is_old none x (mem_right x (the_places s) (the_mades s) e) ];
    kind = kind_kept s S going o is_old none;
    number = number_kept s S going o is_old none;
    shown = λ x i k l. shown_kept s S going o is_old none x i (objs_all s x k) l;
    slots = λ n l. name_kept s S going o is_old none (get_or s.slots n 0) ((S.cycle going).slots_refer n l);
    sourced = sourced_r;
  }

-- Two words that mean the same in field i of kind k.
abbrev pub Alike : State → ℕ → ℕ → ℕ → ℕ → Type 0
Alike s k i v w = (refers s.book k i ≡ true → name s v ≡ name s w) × (refers s.book k i ≡ false → v ≡ w)

-- Words, the collector or slots change, and no tag.
module _ (s : State) (S : Sound s) (going : resting s.collector ≡ false) (m : List ℕ) (c : Collector) (sl : List ℕ) where
  abbrev pub turned : State
  turned = set_slots (set_collector (set_memory s m) c) sl

  module _ (going_c : resting c ≡ false)
      (olds_t : the_olds turned ≡ the_olds s) (places_t : the_places turned ≡ the_places s) (mades_t : the_mades turned ≡ the_mades s)
      (tag_t : (x : ℕ) → mem x (all s) ≡ true → word_at turned (x + 1) ≡ word_at s (x + 1))
      (head_t : (x : ℕ) → mem x (objs s) ≡ true → word_at turned x ≡ word_at s x)
      (number_t : (x : ℕ) → mem x (all s) ≡ true → number turned x ≡ number s x)
      (word_olds_t : (x i : ℕ) → mem x (the_olds s) ≡ true → 2 + i < size_of s x → word_at turned (x + (2 + i)) ≡ word_at s (x + (2 + i)))
      (word_news_t : (x i : ℕ) → mem x (the_news s) ≡ true → 2 + i < size_of s x → own s.halves s.collector x i ≡ true → word_at turned (x + (2 + i)) ≡ word_at s (x + (2 + i)))
      (own_t : (x i : ℕ) → mem x (the_places s) ≡ true → own s.halves s.collector x i ≡ true → own s.halves c x i ≡ true)
      (copied_t : (x i o : ℕ) → mem x (the_places s) ≡ true → 2 + i < size_of s x → own s.halves s.collector x i ≡ false → own s.halves c x i ≡ true → mem o (the_olds s) ≡ true → place_of s o ≡ x + 1 → Alike s (kind_at s o) i (word_at turned (x + (2 + i))) (word_at s (o + (2 + i))))
      (slots_t : (n : ℕ) → n < s.count → name turned (get_or sl n 0) ≡ name s (get_or s.slots n 0))
    where
      place_t : (x : ℕ) → mem x (all s) ≡ true → place_of turned x ≡ place_of s x
      place_t x k = ap (λ v. v / 16) (tag_t x k)

      same_alike : (k i v w : ℕ) → v ≡ w → Alike s k i v w
      same_alike k i v w e = (λ r. ap (name s) e, λ r. e)

      value_old : (x i : ℕ) → mem x (the_olds s) ≡ true → 2 + i < size_of s x → Alike s (kind_at s x) i (value turned x i) (value s x i)
      unfolding value
      value_old x i k l =
          let P : ℕ → ℕ → Type 0 = λ h g. Alike s (kind_at s x) i (word_at turned (h + (2 + i))) (word_at s (g + (2 + i))) in
          let go : (h g h2 g2 : ℕ) → h2 ≡ h → g2 ≡ g → P h g → P h2 g2 = λ h g h2 g2 p q z. rw (p, q) z in
          let ka : mem x (all s) ≡ true = mem_right x (the_news s) (the_olds s) k in
          let pt = place_t x ka in
          let ol = old_leads_not s S.laid x k in
          by_bool (eqb (place_of s x) 0)
          (λ e.
          let hs : home s x i ≡ x = rw (ol, e) in
          let ht : home turned x i ≡ x = rw (ol, pt, e) in
          go x x (home turned x i) (home s x i) ht hs (same_alike _ _ _ _ (word_olds_t x i k l)))
          (λ e.
          let tw = (S.cycle going).twin x k (eqb-false _ _ e) in
          let p = place_of s x - 1 in
          let kp : mem p (the_news s) ≡ true = mem_left p (the_places s) (the_mades s) tw.inside in
          let lp : 2 + i < size_of s p = rw (size_by_kind s p x tw.kind) l in
          by_bool (own s.halves s.collector p i)
          (λ d.
          let hs : home s x i ≡ p = rw (ol, e, d) in
          let ht : home turned x i ≡ p = rw (ol, pt, e, own_t p i tw.inside d) in
          go p p (home turned x i) (home s x i) ht hs (same_alike _ _ _ _ (word_news_t p i kp lp d)))
          (λ d.
          let hs : home s x i ≡ x = rw (ol, e, d) in
          by_bool (own s.halves c p i)
          (λ f.
          let ht : home turned x i ≡ p = rw (ol, pt, e, f) in
          go p x (home turned x i) (home s x i) ht hs (copied_t p i x tw.inside lp d f k (let z = eqb-false _ _ e in omega arith)))
          (λ f.
          let ht : home turned x i ≡ x = rw (ol, pt, e, f) in
          go x x (home turned x i) (home s x i) ht hs (same_alike _ _ _ _ (word_olds_t x i k l)))))

      own_made : (d : Collector) (x i : ℕ) → mem x (the_mades s) ≡ true → own s.halves d x i ≡ true
      own_made d x i k = or_left (leb (s.halves.base + s.halves.high) x) _ (le-leb (s.halves.base + s.halves.high) x (mades_inside _ _ _ S.laid x k).0)

      value_made : (x i : ℕ) → mem x (the_mades s) ≡ true → 2 + i < size_of s x → value turned x i ≡ value s x i
      unfolding value
      value_made x i k l = search (rules, arith, mem_right, new_leads, own_made)

      value_objs : (x i : ℕ) → mem x (objs s) ≡ true → 2 + i < size_of s x → Alike s (kind_at s x) i (value turned x i) (value s x i)
      value_objs x i k l = elim (mem_append x (the_olds s) (the_mades s) k) [ inl e ↦ value_old x i e l | inr e ↦ same_alike _ _ _ _ (value_made x i e l) ]

      kind_t : (x : ℕ) → mem x (all s) ≡ true → kind_at turned x ≡ kind_at s x
      kind_t x k = ap (λ v. v % 16) (tag_t x k)

      shown_t : ((x i : ℕ) → mem x (objs s) ≡ true → 2 + i < size_of s x → refers s.book (kind_at s x) i ≡ true → name turned (value turned x i) ≡ name s (value turned x i)) → (x i : ℕ) → mem x (objs s) ≡ true → 2 + i < size_of s x → shown turned x i ≡ shown s x i
      unfolding shown
      shown_t f x i k l =
          let v = value_objs x i k l in
          by_bool (refers s.book (kind_at s x) i)
          (λ e. rw (kind_t x (objs_all s x k), e) (f x i k l e ∙ v.0 e))
          (λ e. rw (kind_t x (objs_all s x k), e) (v.1 e))

      -- where the words are sound again, names of them are as before
      pub turned_like : Sound turned → Like s turned
      turned_like T = record {
        going = going_c;
        book = refl;
        count = refl;
        next = refl;
        spare = refl;
        size = refl;
        olds = olds_t;
        mades = mades_t;
        news = λ x k. rw (places_t, mades_t) k;
        head = head_t;
        kind = kind_t;
        number = number_t;
        shown = shown_t (λ x i k l r. name_by s turned number_t (value turned x i)
            (let g = value_good turned T going_c x i (rw (places_t, mades_t, olds_t) (objs_all s x k)) (rw (size_by_tag x (objs_all s x k)) l) (rw (kind_t x (objs_all s x k)) r) in
            good_more (all turned) (all s) (value turned x i) (λ y h. rw (places_t, mades_t, olds_t) at h) g));
        slots = slots_t;
        sourced = λ f p k. let q = f p (rw places_t at k) in record { from = q.from; old = rw olds_t q.old; place = place_t q.from (mem_right q.from (the_news s) (the_olds s) q.old) ∙ q.place };
      }
        where
          size_by_tag : (x : ℕ) → mem x (all s) ≡ true → size_of turned x ≡ size_of s x
          size_by_tag x k = size_is turned x ∙ (ap (λ k. 2 + size s.book k) (kind_t x k) ∙ sym (size_is s x))
