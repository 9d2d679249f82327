-- The third law: with enough capacity no make is refused for want of space. Over fixed numbers: what is in use at a cycle's end is
-- at most L and what was made in it; what is made between two ends is at most Q = (F + L) / r rounded up, and one record.
use Rattle.std.proofs.Common.{◌≡◌, ℕ, ◌+◌, ◌-◌, ◌*◌, ◌<◌, ◌≤◌, min, Bool, true, false, List, [], ◌∷◌, length, Some, None, Option, sym, refl, ap, ◌∙◌, mul_comm, mul-zero, le-div_iff_mul-le, arith}
use Rattle.graph.specs.Calls.{Call, make, read, write, follow, link, hold, drop, look, spare, paid, word, done, known}
use Rattle.graph.specs.Meaning.{Meaning, Reply, gave, refused, live_words}
use Rattle.keeper.specs.Keeping.{State, Ask, call, idle, settle, Said, told, idled, settled, unsettled, charge, cap, Passed, Made, Making, Counted, Calls, Event}
use Rattle.keeper.specs.History.{Moment, History, none, then, New, Grounds, Sized, Fits, Roomy, Each, quotient, steps_in, ended_in, price, if_gave}
use Rattle.keeper.proofs.Steps.{whole}
use Rattle.keeper.proofs.Effects.{Effect, effect, told_by}

-- What may be made and not yet settled.
abbrev pub slack : Option ℕ → ℕ → ℕ
slack None M = 0
slack (Some _) M = M

quotient_above : (w r a : ℕ) → 1 ≤ r → r * w ≤ a → w ≤ quotient a r
quotient_above w r a p h =
    let e = mul_comm w r in
    (le-div_iff_mul-le {k = r} {x = w} {y = a + (r - 1)} p).1 (omega arith)

-- The sizes, as numbers.
record Terms : Type 0 where
  pub L : ℕ
  pub M : ℕ
  pub F : ℕ
  pub r : ℕ
  pub K : ℕ
  pub Q : ℕ
  pub above : (w : ℕ) → r * w ≤ F + L → w ≤ Q
  pub room : L + 2 * M + 2 * Q ≤ K
  pub capacity : K ≤ 65535
  pub fixed : F ≤ 65535

-- What holds after every call: `paying` words are what the steps so far have paid for.
record Inv (z : Terms) (s : State) : Type 0 where
  pub capacity : s.heap.capacity ≡ z.K
  pub fixed : s.heap.fixed ≡ z.F
  pub rate : s.rate ≡ z.r
  pub enough : (steps words left : ℕ) → z.r * words ≤ steps + s.asks steps words left
  pub charged : (k : ℕ) → k < length s.heap.book → charge s.heap k ≤ z.M
  pub used : z.K ≤ s.heap.spare + (z.L + z.Q + z.M) + s.words
  pub resting : s.heap.due ≡ 0 → s.steps ≡ 0
  pub run : s.steps + s.heap.due ≤ z.F + z.L
  pub kept : 0 < s.heap.due → s.heap.kept ≤ z.L + s.words
  pub paying : ℕ
  pub words : s.words ≤ paying + slack s.bill z.M
  pub paid : z.r * paying ≤ s.steps

same_charges : (M : ℕ) (m n : Meaning) → n.book ≡ m.book → n.charges ≡ m.charges → ((k : ℕ) → k < length m.book → charge m k ≤ M) → (k : ℕ) → k < length n.book → charge n k ≤ M
same_charges M m n b c h i p = rw c (h i (rw b at p))

same_asks : (r : ℕ) (f g : ℕ → ℕ → ℕ → ℕ) → g ≡ f → ((steps words left : ℕ) → r * words ≤ steps + f steps words left) → (steps words left : ℕ) → r * words ≤ steps + g steps words left
same_asks r f g e h steps words left = rw e (h steps words left)

-- At most so many words are made between two ends.
few : (z : Terms) (s : State) (i : Inv z s) → s.words ≤ z.Q + slack s.bill z.M
few z s i = let q = z.above i.paying (omega (arith, i.paid, i.run)) in omega (arith, i.words)

slack_most : (o : Option ℕ) (M : ℕ) → slack o M ≤ M
slack_most None M = omega arith
slack_most (Some _) M = omega arith

fewer : (z : Terms) (s : State) (i : Inv z s) → s.words ≤ z.Q + z.M
fewer z s i = omega (arith, few z s i, slack_most s.bill z.M)

no_rise : (s t : State) (w : ℕ) → Effect s w 0 false t → t.heap.due ≤ s.heap.due
no_rise s t w e = grind arith

was_open : (s t : State) (w : ℕ) → Effect s w 0 false t → 0 < t.heap.due → 0 < s.heap.due
was_open s t w e h = omega (arith, no_rise s t w e)

rest_back : (s t : State) (w : ℕ) → Effect s w 0 false t → t.heap.due ≡ 0 → s.heap.due ≡ 0
rest_back s t w e h = grind arith

-- A call that made w words and no step.
call_step : (z : Terms) (s t : State) (w : ℕ) → Effect s w 0 false t → t.rate ≡ s.rate → t.asks ≡ s.asks → t.steps ≡ s.steps → t.words ≡ s.words + w → (i : Inv z s) → t.words ≤ i.paying + slack t.bill z.M → Inv z t
call_step z s t w e r a p c i b =
    let d = no_rise s t w e in
    record {
      capacity = e.capacity ∙ i.capacity;
      fixed = e.fixed ∙ i.fixed;
      rate = r ∙ i.rate;
      enough = same_asks z.r s.asks t.asks a i.enough;
      charged = same_charges z.M s.heap t.heap e.book e.charges i.charged;
      used = omega arith;
      resting = λ h. omega (arith, i.resting (rest_back s t w e h));
      run = omega arith;
      kept = λ h. let u = was_open s t w e h in omega (arith, i.kept u, e.going u);
      paying = i.paying;
      words = b;
      paid = omega arith;
    }

-- One that made no word.
free_step : (z : Terms) (s t : State) → Effect s 0 0 false t → t.rate ≡ s.rate → t.asks ≡ s.asks → t.steps ≡ s.steps → t.words ≡ s.words → t.bill ≡ s.bill → Inv z s → Inv z t
free_step z s t e r a p w b i =
    let x = ap (λ (q : Option ℕ). slack q z.M) b in
    call_step z s t 0 e r a p (omega arith) i (omega arith)

-- A make that is accepted.
made_step : (z : Terms) (s t : State) (w n : ℕ) → Effect s w 0 false t → w ≤ z.M → t.rate ≡ s.rate → t.asks ≡ s.asks → t.steps ≡ s.steps → t.words ≡ min (s.words + w) cap → s.bill ≡ None → t.bill ≡ Some n → Inv z s → Inv z t
made_step z s t w n e f r a p c b b' i =
    let o = ap (λ (q : Option ℕ). slack q z.M) b in
    let o' = ap (λ (q : Option ℕ). slack q z.M) b' in
    let g = fewer z s i in
    call_step z s t w e r a p (omega (arith, z.room, z.capacity)) i (omega arith)

-- Steps.
ran : (z : Terms) (s t : State) (k : ℕ) → Effect s 0 k false t → live_words s.heap ≤ z.L → Inv z s → s.steps + k + t.heap.due ≤ z.F + z.L
ran z s t k e l i = grind arith

kept_open : (z : Terms) (s t : State) (k : ℕ) → Effect s 0 k false t → live_words s.heap ≤ z.L → Inv z s → 0 < t.heap.due → t.heap.kept ≤ z.L + s.words
kept_open z s t k e l i h = grind arith

rest_open : (z : Terms) (s t : State) (k : ℕ) → Effect s 0 k false t → Inv z s → t.heap.due ≡ 0 → s.steps + k ≡ 0
rest_open z s t k e i h = grind arith

kept_ended : (z : Terms) (s t : State) (k : ℕ) → Effect s 0 k true t → live_words s.heap ≤ z.L → Inv z s → t.heap.kept ≤ z.L + s.words
kept_ended z s t k e l i = grind arith

count_step : (z : Terms) (s t : State) (k : ℕ) (ended : Bool) (paying : ℕ) → Effect s 0 k ended t → live_words s.heap ≤ z.L → Counted s k ended t → (ended ≡ false → (s.words ≤ paying + slack t.bill z.M) × (z.r * paying ≤ s.steps + k)) → Inv z s → Inv z t
count_step z s t k true paying e l c p i =
    let g = fewer z s i in
    let q = kept_ended z s t k e l i in
    let f = e.end refl in
    record {
      capacity = e.capacity ∙ i.capacity;
      fixed = e.fixed ∙ i.fixed;
      rate = c.rate ∙ i.rate;
      enough = same_asks z.r s.asks t.asks c.asks i.enough;
      charged = same_charges z.M s.heap t.heap e.book e.charges i.charged;
      used = let x = e.capacity in let y = i.capacity in omega arith;
      resting = λ h. c.steps;
      run = let x = c.steps in omega arith;
      kept = λ h. omega arith;
      paying = 0;
      words = let x = c.words in omega arith;
      paid = let x = mul-zero z.r in omega arith;
    }
count_step z s t k false paying e l c p i =
    let g = ran z s t k e l i in
    let x = c.steps in
    let x' : t.steps ≡ s.steps + k = omega (arith, z.room, z.capacity, z.fixed) in
    let y = c.words in
    let o = p refl in
    record {
      capacity = e.capacity ∙ i.capacity;
      fixed = e.fixed ∙ i.fixed;
      rate = c.rate ∙ i.rate;
      enough = same_asks z.r s.asks t.asks c.asks i.enough;
      charged = same_charges z.M s.heap t.heap e.book e.charges i.charged;
      used = omega (arith, i.used, e.spare);
      resting = λ h. omega (arith, rest_open z s t k e i h);
      run = omega arith;
      kept = λ h. omega (arith, kept_open z s t k e l i h);
      paying = paying;
      words = omega arith;
      paid = omega arith;
    }

-- A call that is passed on and makes no word.
passed_step : (z : Terms) (s t : State) (c : Call) (r : Reply) → Effect s (if_gave (told r) (paid s.heap.charges c)) 0 false t → paid s.heap.charges c ≡ 0 → Passed s c r t → Inv z s → Inv z t
passed_step z s t c r e n p i = free_step z s t (wordless r e) p.rate p.asks p.steps p.words p.bill i
  where
    wordless : (r : Reply) → Effect s (if_gave (told r) (paid s.heap.charges c)) 0 false t → Effect s 0 0 false t
    wordless (gave _) e = rw n at e
    wordless (refused _) e = e

same_step : (z : Terms) (s t : State) → t ≡ s → Inv z s → Inv z t
same_step z s t e i = rw e i

making_step : (z : Terms) (s t : State) (a k : ℕ) (r : Reply) → Effect s (if_gave (told r) (charge s.heap k)) 0 false t → s.bill ≡ None → Making s a k r t → Inv z s → Inv z t
making_step z s t a k (gave done) e b h i = let u = h.called.0 in cc
making_step z s t a k (gave (word n)) e b h i = made_step z s t (charge s.heap k) n e (i.charged k (told_by s.heap t.heap a k (gave (word n)) h.called)) h.rate h.asks h.steps h.words b h.bill i
making_step z s t a k (gave (known _ _)) e b h i = let u = h.called.0 in cc
making_step z s t a k (refused _) e b h i = free_step z s t e h.rate h.asks h.steps h.words (h.bill ∙ sym b) i

made_step_by : (z : Terms) (s t : State) (a k : ℕ) (r : Reply) (o : Option ℕ) → s.bill ≡ o → Effect s (if_gave (told r) (charge s.heap k)) 0 false t → Made o s a k r t → Inv z s → Inv z t
made_step_by z s t a k r (Some _) b e h i = same_step z s t h.1 i
made_step_by z s t a k r None b e h i = making_step z s t a k r e b h i

calls_step : (z : Terms) (s t : State) (c : Call) (r : Reply) → Effect s (if_gave (told r) (paid s.heap.charges c)) 0 false t → Calls s c r t → Inv z s → Inv z t
calls_step z s t (make a k) r e h i = made_step_by z s t a k r s.bill refl e h i
calls_step z s t (read a j) r e h i = passed_step z s t (read a j) r e refl h i
calls_step z s t (write a j w) r e h i = passed_step z s t (write a j w) r e refl h i
calls_step z s t (follow a j b) r e h i = passed_step z s t (follow a j b) r e refl h i
calls_step z s t (link a j b) r e h i = passed_step z s t (link a j b) r e refl h i
calls_step z s t (hold a b) r e h i = passed_step z s t (hold a b) r e refl h i
calls_step z s t (drop a) r e h i = passed_step z s t (drop a) r e refl h i
calls_step z s t (look a) r e h i = passed_step z s t (look a) r e refl h i
calls_step z s t spare r e h i = passed_step z s t spare r e refl h i

step_by : (z : Terms) (s t : State) (c : Ask) (x : Said) → Effect s (if_gave x (price s.heap c)) (steps_in x) (ended_in x) t → live_words s.heap ≤ z.L → Event s c x t → Inv z s → Inv z t
step_by z s t (call c) (told r) e l h i = calls_step z s t c r e h i
step_by z s t (call c) (idled _ _) e l h i = absurd h
step_by z s t (call c) (settled _ _) e l h i = absurd h
step_by z s t (call c) unsettled e l h i = absurd h
step_by z s t (idle n) (told _) e l h i = absurd h
step_by z s t (idle n) (idled made ended) e l h i = count_step z s t made ended i.paying e l h.counted (λ q. let x = ap (λ (v : Option ℕ). slack v z.M) h.bill in omega arith) i
step_by z s t (idle n) (settled _ _) e l h i = absurd h
step_by z s t (idle n) unsettled e l h i = absurd h
step_by z s t (settle n) (told _) e l h i = absurd h
step_by z s t (settle n) (idled _ _) e l h i = absurd h
step_by z s t (settle n) (settled made ended) e l h i =
    count_step z s t made ended s.words e l h.counted
    (λ q. let x = whole h.idles q in
    let y = i.enough s.steps s.words s.heap.spare in
    omega arith) i
step_by z s t (settle n) unsettled e l h i = same_step z s t h.same i

-- No make is refused with 6 where this holds.
not_full : (z : Terms) (s : State) (k : ℕ) → s.bill ≡ None → k < length s.heap.book → s.heap.spare < charge s.heap k → Inv z s → ⊥
not_full z s k b p q i =
    let x = ap (λ (v : Option ℕ). slack v z.M) b in
    let w = few z s i in
    let m = i.charged k p in
    let u = i.used in
    let v = z.room in
    omega arith

fits_by : (z : Terms) (s t : State) (a k : ℕ) (r : Reply) (o : Option ℕ) → s.bill ≡ o → Made o s a k r t → Inv z s → r ≡ refused 6 → ⊥
fits_by z s t a k r (Some _) b h i e = let u = h.0 in cc
fits_by z s t a k r None b h i e =
    let f = (rw e at (told_by s.heap t.heap a k r h.called)) refl in
    not_full z s k b f.0 f.1 i

fits_step : (z : Terms) (s t : State) (c : Ask) (x : Said) → Event s c x t → Inv z s → (a k : ℕ) → c ≡ call (make a k) → x ≡ told (refused 6) → ⊥
fits_step z s t c x h i a k e f =
    fits_by z s t a k (refused 6) s.bill refl (rw (e, f) at h) i refl

all_fit : (z : Terms) (es : List Moment) {s t : State} → History s es t → live_words s.heap ≤ z.L → Each (λ e. live_words e.after.heap ≤ z.L) es → Inv z s → Each Fits es
all_fit z [] none l a i = tt
all_fit z (e ∷ es) (then {s = s} {u = u} {c = c} {x = x} d h) l a i =
    (fits_step z s u c x d i, all_fit z es h a.0 a.1 (step_by z s u c x (effect s u c x d) l d i))

terms : (s : State) (es : List Moment) (L M : ℕ) → Grounds s → Sized s es L M → Terms
terms s es L M g z = record { L = L; M = M; F = s.heap.fixed; r = s.rate; K = s.heap.capacity; Q = quotient (s.heap.fixed + L) s.rate; above = λ w h. quotient_above w s.rate (s.heap.fixed + L) g.some h; room = z.room; capacity = g.bounded.capacity; fixed = g.bounded.fixed }

begins : (s : State) (es : List Moment) (L M : ℕ) (g : Grounds s) (n : New s) (z : Sized s es L M) → Inv (terms s es L M g z) s
unfolding terms
begins s es L M g n z = record { capacity = refl; fixed = refl; rate = refl; enough = g.enough; charged = z.charged; used = let x = n.opened.spare in omega arith; resting = λ h. n.steps; run = let x = n.opened.due in let y = n.steps in omega arith; kept = λ h. let x = n.opened.due in omega arith; paying = 0; words = let x = n.words in omega arith; paid = let x = mul-zero s.rate in omega arith }

pub roomy : {s t : State} (es : List Moment) → Grounds s → New s → History s es t → Roomy s es
unfolding terms
roomy {s} {t} es g n h L M z = all_fit (terms s es L M g z) es h z.alive.0 z.alive.1 (begins s es L M g n z)
