-- What each call of a keeper does to its state.
use Rattle.std.specs.Prelude.{◌≡◌, ℕ, ◌+◌, min, Bool, cond, Some, None, Option, slice_index}
use Rattle.graph.specs.Calls.{Call, make, read, write, follow, link, hold, drop, look, spare, done, word, known}
use Rattle.graph.specs.Meaning.{Meaning, Reply, gave, refused, Called}
use Rattle.graph.specs.Cycle.{Idled}

-- The keeper's state: what its heap means; the rate of its pacing and the answer that this gives to steps, words and spare;
-- the steps and the words made since the last cycle end, each up to 1,000,000; the number of the open bill, if one is open.
pub record State : Type 0 where
  pub heap : Meaning
  pub rate : ℕ
  pub asks : ℕ → ℕ → ℕ → ℕ
  pub steps : ℕ
  pub words : ℕ
  pub bill : Option ℕ

-- A call of the keeper: one of the heap's, an idle of so many steps, or a settle with the bill of this number.
pub data Ask : Type 0 where
  call : Call → Ask
  idle : ℕ → Ask
  settle : ℕ → Ask

-- What it said: what the heap's call gave (or 8 for a make while a bill is open); the steps made and whether a cycle ended,
-- of an idle and of a settle; or that the bill is not the open one, which is refused with 9.
pub data Said : Type 0 where
  told : Reply → Said
  idled : ℕ → Bool → Said
  settled : ℕ → Bool → Said
  unsettled : Said

-- The counts stop here.
abbrev pub cap : ℕ
cap = 1000000

-- The charge of kind k.
abbrev pub charge : Meaning → ℕ → ℕ
charge m k = slice_index m.charges k

-- A call that is passed on to the heap.
pub record Passed (s : State) (c : Call) (r : Reply) (t : State) : Type 0 where
  pub called : Called s.heap c r t.heap
  pub rate : t.rate ≡ s.rate
  pub asks : t.asks ≡ s.asks
  pub steps : t.steps ≡ s.steps
  pub words : t.words ≡ s.words
  pub bill : t.bill ≡ s.bill

-- The count of words and the open bill after a make.
abbrev pub words_after : Reply → ℕ → ℕ → ℕ
words_after (gave _) old paid = min (old + paid) cap
words_after (refused _) old paid = old

abbrev pub bill_after : Reply → Option ℕ
bill_after (gave done) = None
bill_after (gave (word n)) = Some n
bill_after (gave (known _ _)) = None
bill_after (refused _) = None

-- A make while no bill is open.
pub record Making (s : State) (a k : ℕ) (r : Reply) (t : State) : Type 0 where
  pub called : Called s.heap (make a k) r t.heap
  pub rate : t.rate ≡ s.rate
  pub asks : t.asks ≡ s.asks
  pub steps : t.steps ≡ s.steps
  pub words : t.words ≡ words_after r s.words (charge s.heap k)
  pub bill : t.bill ≡ bill_after r

abbrev pub Made : Option ℕ → State → ℕ → ℕ → Reply → State → Type 0
Made (Some _) s a k r t = (r ≡ refused 8) × (t ≡ s)
Made None s a k r t = Making s a k r t

-- Steps made are counted; at a cycle's end both counts are 0 again.
pub record Counted (s : State) (made : ℕ) (ended : Bool) (t : State) : Type 0 where
  pub rate : t.rate ≡ s.rate
  pub asks : t.asks ≡ s.asks
  pub steps : t.steps ≡ cond ended 0 (min (s.steps + made) cap)
  pub words : t.words ≡ cond ended 0 s.words

pub record Idling (s : State) (count made : ℕ) (ended : Bool) (t : State) : Type 0 where
  pub idles : Idled s.heap count made ended t.heap
  pub counted : Counted s made ended t
  pub bill : t.bill ≡ s.bill

-- What the pacing asks for now.
abbrev pub owed : State → ℕ
owed s = s.asks s.steps s.words s.heap.spare

-- The bill is the open one: idle runs with exactly what the pacing asks for, and the bill is spent.
pub record Settling (s : State) (number made : ℕ) (ended : Bool) (t : State) : Type 0 where
  pub opened : s.bill ≡ Some number
  pub idles : Idled s.heap (owed s) made ended t.heap
  pub counted : Counted s made ended t
  pub spent : t.bill ≡ None

pub record Unsettled (s : State) (number : ℕ) (t : State) : Type 0 where
  pub other : s.bill ≡ Some number → ⊥
  pub same : t ≡ s

-- What a call of the keeper does: from s it says x and leaves t.
abbrev pub Calls : State → Call → Reply → State → Type 0
Calls s (make a k) r t = Made s.bill s a k r t
Calls s (read a i) r t = Passed s (read a i) r t
Calls s (write a i w) r t = Passed s (write a i w) r t
Calls s (follow a i b) r t = Passed s (follow a i b) r t
Calls s (link a i b) r t = Passed s (link a i b) r t
Calls s (hold a b) r t = Passed s (hold a b) r t
Calls s (drop a) r t = Passed s (drop a) r t
Calls s (look a) r t = Passed s (look a) r t
Calls s spare r t = Passed s spare r t

abbrev pub Event : State → Ask → Said → State → Type 0
Event s (call c) (told r) t = Calls s c r t
Event s (call c) (idled _ _) t = ⊥
Event s (call c) (settled _ _) t = ⊥
Event s (call c) unsettled t = ⊥
Event s (idle n) (told _) t = ⊥
Event s (idle n) (idled made ended) t = Idling s n made ended t
Event s (idle n) (settled _ _) t = ⊥
Event s (idle n) unsettled t = ⊥
Event s (settle number) (told _) t = ⊥
Event s (settle number) (idled _ _) t = ⊥
Event s (settle number) (settled made ended) t = Settling s number made ended t
Event s (settle number) unsettled t = Unsettled s number t
