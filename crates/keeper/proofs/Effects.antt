-- What a call of the keeper does, in numbers: the summary from which the laws are proved.
use Rattle.std.proofs.Common.{◌≡◌, ℕ, ◌+◌, ◌<◌, ◌≤◌, Bool, true, false, cond, ltb, leb, length, Some, None, Option, ap, ◌∙◌, arith}
use Rattle.std.proofs.lemmas.Bool.Decides.{nat_tests}
use Rattle.graph.specs.Calls.{Call, make, read, write, follow, link, hold, drop, look, spare, no_slot, paid}
use Rattle.graph.specs.Meaning.{Meaning, Reply, gave, refused, Accepted, Called, live_words}
use Rattle.graph.proofs.Accepted.{accepted}
use Rattle.keeper.specs.Keeping.{State, Ask, call, idle, settle, Said, told, idled, settled, unsettled, charge, Made, Calls, Event}
use Rattle.keeper.specs.History.{steps_in, ended_in, price, if_gave}
use Rattle.keeper.proofs.Steps.{Went, went}

-- What a make's reply says: an accepted one has a kind of the book; one refused with 6 has too, and its charge is above the spare.
abbrev pub Told : Meaning → ℕ → Reply → Type 0
Told m k (gave _) = k < length m.book
Told m k (refused n) = n ≡ 6 → (k < length m.book) × (m.spare < charge m k)

six : (a : Bool) (n k w c : ℕ) (d : Bool) → ◌≡◌ {A = ℕ} (cond a 1 (cond (leb n k) 2 (cond (ltb w c) 6 (cond d 7 0)))) 6 → (k < n) × (w < c)
six a n k w c d e = grind (arith, nat_tests)

pub told_by : (m n : Meaning) (a k : ℕ) (r : Reply) → Called m (make a k) r n → Told m k r
told_by m n a k (gave x) h = (accepted m.book m.charges m.spare m.graph (make a k) h.1.fine).1
told_by m n a k (refused v) h = λ e. six (no_slot m.graph a) (length m.book) k m.spare (charge m k) (ltb 4294967295 m.graph.next) (h.0 ∙ e)

-- What a call does that made w words, k steps, and ended a cycle or not.
pub record Effect (s : State) (w k : ℕ) (ended : Bool) (t : State) : Type 0 where
  pub book : t.heap.book ≡ s.heap.book
  pub charges : t.heap.charges ≡ s.heap.charges
  pub capacity : t.heap.capacity ≡ s.heap.capacity
  pub fixed : t.heap.fixed ≡ s.heap.fixed
  pub spare : s.heap.spare ≤ t.heap.spare + w
  pub resting : s.heap.due ≡ 0 → k ≡ 0 → t.heap.due ≡ 0
  pub start : s.heap.due ≡ 0 → 0 < k → (k + t.heap.due ≤ s.heap.fixed + live_words s.heap) × (t.heap.kept ≤ live_words s.heap)
  pub going : 0 < s.heap.due → (k + t.heap.due ≤ s.heap.due) × (t.heap.kept ≤ s.heap.kept + w)
  pub on_made : ended ≡ false → 0 < k → 0 < t.heap.due
  pub on : ended ≡ false → 0 < s.heap.due → 0 < t.heap.due
  pub end : ended ≡ true → (t.heap.due ≡ 0) × (t.heap.capacity ≤ t.heap.spare + t.heap.kept) × (0 < k)

from_went : (s t : State) (k : ℕ) (ended : Bool) → Went s.heap k ended t.heap → Effect s 0 k ended t
from_went s t k ended w = grind arith

from_same : (s : State) → Effect s 0 0 false s
from_same s = grind arith

from_equal : (s t : State) → t.heap ≡ s.heap → Effect s 0 0 false t
from_equal s t e = grind arith

from_accepted : (s t : State) (c : Call) → Accepted s.heap c t.heap → Effect s (paid s.heap.charges c) 0 false t
from_accepted s t c a = grind arith

-- A call of the heap.
from_called : (s t : State) (c : Call) (r : Reply) → Called s.heap c r t.heap → Effect s (if_gave (told r) (paid s.heap.charges c)) 0 false t
from_called s t c (gave _) h = from_accepted s t c h.1
from_called s t c (refused _) h = from_equal s t h.2

from_made : (o : Option ℕ) (s t : State) (a k : ℕ) (r : Reply) → Made o s a k r t → Effect s (if_gave (told r) (charge s.heap k)) 0 false t
from_made (Some _) s t a k r h = rw (h.0, h.1) (from_same s)
from_made None s t a k r h = from_called s t (make a k) r h.called

from_calls : (s t : State) (c : Call) (r : Reply) → Calls s c r t → Effect s (if_gave (told r) (paid s.heap.charges c)) 0 false t
from_calls s t (make a k) r h = from_made s.bill s t a k r h
from_calls s t (read a i) r h = from_called s t (read a i) r h.called
from_calls s t (write a i w) r h = from_called s t (write a i w) r h.called
from_calls s t (follow a i b) r h = from_called s t (follow a i b) r h.called
from_calls s t (link a i b) r h = from_called s t (link a i b) r h.called
from_calls s t (hold a b) r h = from_called s t (hold a b) r h.called
from_calls s t (drop a) r h = from_called s t (drop a) r h.called
from_calls s t (look a) r h = from_called s t (look a) r h.called
from_calls s t spare r h = from_called s t spare r h.called

pub effect : (s t : State) (c : Ask) (x : Said) → Event s c x t → Effect s (if_gave x (price s.heap c)) (steps_in x) (ended_in x) t
effect s t (call c) (told r) h = from_calls s t c r h
effect s t (call c) (idled _ _) h = absurd h
effect s t (call c) (settled _ _) h = absurd h
effect s t (call c) unsettled h = absurd h
effect s t (idle n) (told _) h = absurd h
effect s t (idle n) (idled made ended) h = from_went s t made ended (went h.idles)
effect s t (idle n) (settled _ _) h = absurd h
effect s t (idle n) unsettled h = absurd h
effect s t (settle n) (told _) h = absurd h
effect s t (settle n) (idled _ _) h = absurd h
effect s t (settle n) (settled made ended) h = from_went s t made ended (went h.idles)
effect s t (settle n) unsettled h = from_equal s t (ap (λ (u : State). u.heap) h.same)
