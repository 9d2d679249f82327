-- The laws of the graph and the worked examples, cited by the functions whose contracts they are.
use Rattle.std.proofs.Common.{◌≡◌, ℕ, ◌≤◌, Bool, ◌⊎◌, List, [], ◌∷◌, refl, arith}
use Rattle.kinds.specs.Shapes.{Shape}
use Rattle.graph.specs.Graph.{Record, Graph, ◌∈◌, Reached, by_slot, by_field, prune, sort, select, reached, path, edge}
use Rattle.graph.specs.Calls.{Call, Makes, make, write, follow, link, drop, refusal_in, changed, after, total, live}
use Rattle.graph.specs.Sound.{Distinct, Sound, Canonical}
use Rattle.graph.specs.Laws.{Laws, Examples, empty, run, two_kinds}
use Rattle.graph.proofs.Reach.{reached_sound, reached_complete}
use Rattle.graph.proofs.Prune.{prune_same, same_prune, prune_rising, in_prune, prune_in, same_reached, reached_same, live_prune}
use Rattle.graph.proofs.Laws.{call_down, call_sound, prune_sound}
use Rattle.graph.proofs.Live.{call_live, total_among}
use Rattle.graph.proofs.Order.{select_in, in_select, select_distinct}
use Rattle.graph.proofs.Accepted.{accepted}
use Rattle.std.proofs.lemmas.Grind.{common_steps}

canonical : (book : List Shape) (g : Graph) → Sound book g → Canonical book (prune book g)
canonical book g s =
    record { sound = prune_sound book g s; rising = prune_rising book g s.distinct; reached = λ r i. same_reached book g (prune book g) (same_prune book g) (in_prune book g r i).1 }

none : (book : List Shape) (S first : ℕ) {n : ℕ} {X : Type 0} → Reached book (empty S first) n → X
none book S first {n} (by_slot a l e z) = grind (arith, common_steps)
none book S first (by_field r i q s z) = absurd i

opens : (book : List Shape) (S first : ℕ) → 1 ≤ first → Canonical book (empty S first)
opens book S first l = grind (arith, common_steps)

stays : (book : List Shape) (charges : List ℕ) (left : ℕ) (g : Graph) (c : Call) → Canonical book g → refusal_in book charges left g c ≡ 0 → Canonical book (after book g c)
unfolding after
stays book charges left g c k h = canonical book (changed book g c) (call_sound book g k.sound c (accepted book charges left g c h))

reaches : (book : List Shape) (charges : List ℕ) (left : ℕ) (g : Graph) (c : Call) → Canonical book g → refusal_in book charges left g c ≡ 0 → (n : ℕ) → Reached book (after book g c) n → Reached book g n ⊎ (Makes c × (n ≡ g.next))
unfolding after
reaches book charges left g c k h n q =
    call_down book g k.sound c (accepted book charges left g c h) (reached_same book (changed book g c) (prune book (changed book g c)) (same_prune book (changed book g c)) q)

-- two lists of distinct records with the same records weigh the same
weighs : (book : List Shape) (charges : List ℕ) (g : Graph) (rs : List Record) → Sound book g → Distinct rs → ((r : Record) → r ∈ rs → (r ∈ g.records) × Reached book g r.number) → ((r : Record) → r ∈ g.records → Reached book g r.number → r ∈ rs) → live book charges g ≡ total charges rs
unfolding live
weighs book charges g rs s d into from =
    let p : Record → Bool = λ r. reached book g r.number in
    let ks = select p g.records in
    let a : total charges ks ≤ total charges rs =
    total_among charges ks rs (select_distinct p g.records s.distinct)
    (λ r i. let k = in_select p g.records r i in (r, from r k.0 (reached_sound book g r.number k.1), refl, refl)) in
    let b : total charges rs ≤ total charges ks =
    total_among charges rs ks d
    (λ r i. let k = into r i in (r, select_in p g.records r k.0 (reached_complete book g k.1), refl, refl)) in
    omega arith

chain : run two_kinds (empty 2 1) (make 0 1 ∷ write 0 0 7 ∷ make 1 0 ∷ link 0 1 1 ∷ drop 1 ∷ follow 0 1 1 ∷ []) ≡ record { slots = 1 ∷ 2 ∷ []; next = 3; records = record { number = 1; kind = 1; fields = 7 ∷ 2 ∷ 0 ∷ [] } ∷ record { number = 2; kind = 0; fields = 0 ∷ 0 ∷ [] } ∷ [] }
unfolding after prune sort reached path edge
chain = refl

ring : run two_kinds (empty 2 1) (make 0 1 ∷ link 0 1 0 ∷ drop 0 ∷ []) ≡ record { slots = 0 ∷ 0 ∷ []; next = 2; records = [] }
unfolding after prune sort reached path edge
ring = refl

pub laws : Laws
laws =
    record {
      decided = λ book g n. (reached_sound book g n, λ r. reached_complete book g r);
      keeps = λ book g r. (in_prune book g r, prune_in book g r);
      one = λ book g h s t e. prune_same book g h e s.distinct t.distinct;
      canonical = canonical;
      opens = opens;
      stays = stays;
      reaches = reaches;
      rises = λ book charges left g c k h. call_live book charges g k.sound c (accepted book charges left g c h);
      weighs = weighs;
      counts = λ book charges g s. live_prune book charges g;
    }

pub examples : Examples
examples = record { chain = chain; ring = ring }
