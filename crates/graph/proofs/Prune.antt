-- Lists that agree on what is reached have one graph.
use Rattle.std.proofs.Common.{◌≡◌, ℕ, ◌<◌, Bool, true, List, [], ◌∷◌, length, get_or, sym, refl, ap, ◌∙◌, subst, inl, inr}
use Rattle.kinds.specs.Shapes.{Shape}
use Rattle.graph.specs.Graph.{Record, Graph, ◌∈◌, Reached, by_slot, by_field, reached, select, prune}
use Rattle.std.proofs.lemmas.Bool.{cond-true}
use Rattle.graph.specs.Calls.{total, live}
use Rattle.graph.specs.Sound.{Distinct, Rising, Same}
use Rattle.graph.proofs.Reach.{reached_sound, reached_complete}
use Rattle.graph.proofs.Order.{rising_same, in_sort, sort_in, sort_rising, rising_distinct, in_select, select_in, select_distinct, total_sort}
use Rattle.std.proofs.Common.{arith}
use Rattle.std.proofs.lemmas.Grind.{common_steps}

pub same_reached : (book : List Shape) (g h : Graph) → Same book g h → {n : ℕ} → Reached book g n → Reached book h n
same_reached book g h s (by_slot a l e z) = by_slot a (subst (λ xs. a < length xs) s.slots l) (ap (λ xs. get_or xs a 0) (sym s.slots) ∙ e) z
same_reached book g h s (by_field r i q m z) = by_field r (s.there r i q) (same_reached book g h s q) m z

pub reached_same : (book : List Shape) (g h : Graph) → Same book g h → {n : ℕ} → Reached book h n → Reached book g n
reached_same book g h s (by_slot a l e z) = by_slot a (subst (λ xs. a < length xs) (sym s.slots) l) (ap (λ xs. get_or xs a 0) s.slots ∙ e) z
reached_same book g h s (by_field r i q m z) = by_field r (s.back r i (reached_same book g h s q)) (reached_same book g h s q) m z

-- To agree on what is reached is an equivalence.
pub same_sym : (book : List Shape) (g h : Graph) → Same book g h → Same book h g
same_sym book g h s = record { slots = sym s.slots; next = sym s.next; there = λ r i q. s.back r i (reached_same book g h s q); back = λ r i q. s.there r i (reached_same book g h s q) }

pub same_trans : (book : List Shape) (g h k : Graph) → Same book g h → Same book h k → Same book g k
same_trans book g h k s t = record { slots = s.slots ∙ t.slots; next = s.next ∙ t.next; there = λ r i q. t.there r (s.there r i q) (same_reached book g h s q); back = λ r i q. s.back r (t.back r i (same_reached book g h s q)) q }

pub same_refl : (book : List Shape) (g : Graph) → Same book g g
same_refl book g = record { slots = refl; next = refl; there = λ r i q. i; back = λ r i q. i }

-- A record of the canonical graph is one of the graph's, and reached; and the other way round.
pub in_prune : (book : List Shape) (g : Graph) (r : Record) → r ∈ (prune book g).records → (r ∈ g.records) × Reached book g r.number
unfolding prune
in_prune book g r i = let k = in_select (λ (q : Record). reached book g q.number) g.records r (in_sort (select (λ (q : Record). reached book g q.number) g.records) r i) in (k.0, reached_sound book g r.number k.1)

pub prune_in : (book : List Shape) (g : Graph) (r : Record) → r ∈ g.records → Reached book g r.number → r ∈ (prune book g).records
unfolding prune
prune_in book g r i q = sort_in (select (λ (s : Record). reached book g s.number) g.records) r (select_in (λ (s : Record). reached book g s.number) g.records r i (reached_complete book g q))

pub prune_rising : (book : List Shape) (g : Graph) → Distinct g.records → Rising (prune book g).records
unfolding prune
prune_rising book g d = sort_rising (select (λ (q : Record). reached book g q.number) g.records) (select_distinct (λ (q : Record). reached book g q.number) g.records d)

pub prune_slots : (book : List Shape) (g : Graph) → (prune book g).slots ≡ g.slots
unfolding prune
prune_slots book g = refl

pub prune_next : (book : List Shape) (g : Graph) → (prune book g).next ≡ g.next
unfolding prune
prune_next book g = refl

pub graph_path : (g h : Graph) → g.slots ≡ h.slots → g.next ≡ h.next → g.records ≡ h.records → g ≡ h
graph_path g h p q r = grind (arith, common_steps)

pub prune_same : (book : List Shape) (g h : Graph) → Same book g h → Distinct g.records → Distinct h.records → prune book g ≡ prune book h
prune_same book g h s d e =
    graph_path (prune book g) (prune book h) (prune_slots book g ∙ s.slots ∙ sym (prune_slots book h)) (prune_next book g ∙ s.next ∙ sym (prune_next book h))
    (rising_same (prune book g).records (prune book h).records (prune_rising book g d) (prune_rising book h e)
    (λ r i. let k = in_prune book g r i in prune_in book h r (s.there r k.0 k.1) (same_reached book g h s k.1))
    (λ r i. let k = in_prune book h r i in prune_in book g r (s.back r k.0 (reached_same book g h s k.1)) (reached_same book g h s k.1)))

-- A list and its graph mean the same graph.
pub same_prune : (book : List Shape) (g : Graph) → Same book g (prune book g)
same_prune book g = record { slots = sym (prune_slots book g); next = sym (prune_next book g); there = λ r i q. prune_in book g r i q; back = λ r i q. (in_prune book g r i).0 }

pub prune_distinct : (book : List Shape) (g : Graph) → Distinct g.records → Distinct (prune book g).records
prune_distinct book g d = rising_distinct (prune book g).records (prune_rising book g d)

pub prune_prune : (book : List Shape) (g : Graph) → Distinct g.records → prune book (prune book g) ≡ prune book g
prune_prune book g d = sym (prune_same book g (prune book g) (same_prune book g) d (prune_distinct book g d))

-- live words do not count garbage
select_all : (p : Record → Bool) (rs : List Record) → ((r : Record) → r ∈ rs → p r ≡ true) → select p rs ≡ rs
select_all p [] f = refl
select_all p (r ∷ rs) f = cond-true (p r) (r ∷ select p rs) (select p rs) (f r (inl refl)) ∙ ap (λ ss. r ∷ ss) (select_all p rs (λ s i. f s (inr i)))

pub live_prune : (book : List Shape) (cs : List ℕ) (g : Graph) → live book cs (prune book g) ≡ live book cs g
unfolding live prune
live_prune book cs g =
    ap (total cs) (select_all (λ r. reached book (prune book g) r.number) (prune book g).records (λ r i. reached_complete book (prune book g) (same_reached book g (prune book g) (same_prune book g) (in_prune book g r i).1)))
    ∙ total_sort cs (select (λ (r : Record). reached book g r.number) g.records)

pub live_is : (book : List Shape) (cs : List ℕ) (g : Graph) → live book cs (prune book g) ≡ total cs (select (λ (r : Record). reached book g r.number) g.records)
unfolding live
live_is book cs g = live_prune book cs g
