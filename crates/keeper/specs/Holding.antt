-- The state that a keeper holds, and what its answers say.
use Rattle.std.specs.Prelude.{◌≡◌, ℕ, Bool, ◌&&◌, Some, None, Ok, Err, Option, Result, ◌==◌, nat_lt}
use Rattle.kinds.specs.Refusals.{code}
use Rattle.kinds.specs.declared.refusal.Refusal.{Refusal}
use Rattle.graph.specs.Calls.{make, word}
use Rattle.graph.specs.Meaning.{Reply, gave, refused}
use Rattle.graph.specs.declared.heap.Heap
use Rattle.pacing.specs.declared.pace.Pacing
use Rattle.keeper.specs.declared.keeper.Keeper.{Keeper}
use Rattle.keeper.specs.declared.keeper.Bill.{Bill}
use Rattle.keeper.specs.declared.keeper.NotSettled.{NotSettled}
use Rattle.keeper.specs.declared.keeper.NotSettled.TheVariants.{WrongBill}
use Rattle.keeper.specs.Keeping.{State, call, settle, Said, told, settled, unsettled, owed, Event}

-- The state of a keeper, from what its heap's and its pacing's traits say of them.
abbrev pub state : {H P : Type 0} → Heap.Ghosts H → Pacing.Ghosts P → Keeper H P → State
state h p k = record { heap = h.meaning k.heap; rate = p.rate k.pacing; asks = p.asks k.pacing; steps = k.steps; words = k.words; bill = k.bill }

-- The state at the setting up.
abbrev pub fresh : {H P : Type 0} → Heap.Ghosts H → Pacing.Ghosts P → H → P → State
fresh h p heap pacing = record { heap = h.meaning heap; rate = p.rate pacing; asks = p.asks pacing; steps = 0; words = 0; bill = None }

-- What a make's result says: the record's number, with which the bill is marked, or the refusal's number.
abbrev pub as_billed : Result (ℕ × Bill) Refusal → Reply
as_billed (Ok p) = gave (word p.0)
as_billed (Err e) = refused (code e)

abbrev pub Paired : Result (ℕ × Bill) Refusal → Type 0
Paired (Ok p) = p.1.number ≡ p.0
Paired (Err e) = Unit {0}

-- Whether steps ended a cycle: some were made, and they left the heap at rest.
abbrev pub over : ℕ → State → Bool
over made t = nat_lt 0 made && t.heap.due == 0

-- A refused settle: its number, and the bill that is handed back.
abbrev pub refusal_number : NotSettled → ℕ
refusal_number (WrongBill b) = 9

abbrev pub bill_of : NotSettled → Bill
bill_of (WrongBill b) = b

-- What a settle's result says: the steps made, or that the bill is not the open one and comes back.
abbrev pub Answered : State → ℕ → Result ℕ NotSettled → State → Type 0
Answered s n (Ok made) t = Event s (settle n) (settled made (over made t)) t
Answered s n (Err e) t = Event s (settle n) unsettled t × ((bill_of e).number ≡ n)

-- What holds of a make while a bill is open, and while none is.
abbrev pub by_bill : Option ℕ → Type 0 → Type 0 → Type 0
by_bill (Some _) P Q = P
by_bill None P Q = Q

-- What holds of an accepted settle, and of a refused one.
abbrev pub by_settled : Result ℕ NotSettled → (ℕ → Type 0) → Type 0 → Type 0
by_settled (Ok made) P Q = P made
by_settled (Err _) P Q = Q

-- A make that is settled at once, with the keeper between: what both calls say, and what they do in the heap's own terms.
module _ {H P : Type 0} (h : Heap.Ghosts H) (idles : H → ℕ → ℕ → Bool → H → Type 0) (p : Pacing.Ghosts P) where
  pub record Both (k : Keeper H P) (a kind number steps : ℕ) (m : Keeper H P) : Type 0 where
    pub between : Keeper H P
    pub made : Event (state h p k) (call (make a kind)) (told (gave (word number))) (state h p between)
    pub settled : Event (state h p between) (settle number) (Said.settled steps (over steps (state h p m))) (state h p m)
    pub made_acts : h.acts k.heap (make a kind) (gave (word number)) between.heap
    pub settled_acts : idles between.heap (owed (state h p between)) steps (over steps (state h p m)) m.heap

  abbrev pub Together : Keeper H P → ℕ → ℕ → Result (ℕ × ℕ) Refusal → Keeper H P → Type 0
  Together k a kind (Ok r) m = Both k a kind r.0 r.1 m
  Together k a kind (Err e) m = Event (state h p k) (call (make a kind)) (told (refused (code e))) (state h p m)
