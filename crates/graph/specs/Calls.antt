-- The calls, and what each of them does to a graph.
use Rattle.std.specs.Prelude.{ℕ, ◌+◌, Bool, true, false, cond, not, ◌||◌, List, [], ◌∷◌, map, length, replicate, ◌==◌, nat_le, nat_lt, slice_index, slice_set}
use Rattle.kinds.specs.Shapes.{Shape}
use Rattle.graph.specs.Graph.{Record, Graph, size, refers, select, reached, prune}

-- Slots are named a and b, kinds k, fields i, words w.
pub data Call : Type 0 where
  make : ℕ → ℕ → Call
  read : ℕ → ℕ → Call
  write : ℕ → ℕ → ℕ → Call
  follow : ℕ → ℕ → ℕ → Call
  link : ℕ → ℕ → ℕ → Call
  hold : ℕ → ℕ → Call
  drop : ℕ → Call
  look : ℕ → Call
  spare : Call

-- The call makes a record.
abbrev pub Makes : Call → Type 0
Makes (make a k) = Unit {0}
Makes (read a i) = ⊥
Makes (write a i w) = ⊥
Makes (follow a i b) = ⊥
Makes (link a i b) = ⊥
Makes (hold a b) = ⊥
Makes (drop a) = ⊥
Makes (look a) = ⊥
Makes spare = ⊥

-- The record that is numbered n; where there is none, one of number and kind 0 without fields.
abbrev pub no_record : Record
no_record = record { number = 0; kind = 0; fields = [] }

abbrev pub find : List Record → ℕ → Record
find [] n = no_record
find (r ∷ rs) n = cond (r.number == n) r (find rs n)

-- What slot a holds, and its record.
abbrev pub slot : Graph → ℕ → ℕ
slot g a = slice_index g.slots a

abbrev pub held : Graph → ℕ → Record
held g a = find g.records (slot g a)

-- A record, with w in field i if it is numbered n.
abbrev pub put : ℕ → ℕ → ℕ → Record → Record
put n i w r = cond (r.number == n) (record { number = r.number; kind = r.kind; fields = slice_set r.fields i w }) r

-- A new record: its words 0, its references empty.
abbrev pub fresh : List Shape → ℕ → ℕ → Record
fresh book n k = record { number = n; kind = k; fields = replicate (size book k) 0 }

-- Slot a with x in it; field i of slot a's record with x in it.
abbrev pub with_slot : Graph → ℕ → ℕ → Graph
with_slot g a x = record { slots = slice_set g.slots a x; next = g.next; records = g.records }

abbrev pub with_field : Graph → ℕ → ℕ → ℕ → Graph
with_field g a i x = record { slots = g.slots; next = g.next; records = map (put (slot g a) i x) g.records }

-- What an accepted call makes of a graph, before records that are no longer reached leave it.
abbrev pub changed : List Shape → Graph → Call → Graph
changed book g (make a k) = record { slots = slice_set g.slots a g.next; next = g.next + 1; records = fresh book g.next k ∷ g.records }
changed book g (read a i) = g
changed book g (write a i w) = with_field g a i w
changed book g (follow a i b) = with_slot g b (slice_index (held g a).fields i)
changed book g (link a i b) = with_field g a i (slot g b)
changed book g (hold a b) = with_slot g b (slot g a)
changed book g (drop a) = with_slot g a 0
changed book g (look a) = g
changed book g spare = g

-- The graph after an accepted call.
unfoldable pub after : List Shape → Graph → Call → Graph
after book g c = prune book (changed book g c)

-- The refusals, each with its number; the first test that holds decides, and 0 is no refusal.
abbrev pub no_slot : Graph → ℕ → Bool
no_slot g a = nat_le (length g.slots) a

-- 3, 4 and 5, for a call that needs field i of slot a's record: `reference` says which sort of field it wants.
abbrev pub field_refusal : List Shape → Graph → ℕ → ℕ → Bool → ℕ
field_refusal book g a i reference =
    cond (slot g a == 0) 3
    (cond (nat_le (size book (held g a).kind) i) 4
    (cond (cond reference (not (refers book (held g a).kind i)) (refers book (held g a).kind i)) 5 0))

abbrev pub make_refusal : List Shape → List ℕ → ℕ → Graph → ℕ → ℕ
make_refusal book charges left g k =
    cond (nat_le (length book) k) 2
    (cond (nat_lt left (slice_index charges k)) 6
    (cond (nat_lt 4294967295 g.next) 7 0))

abbrev pub refusal_in : List Shape → List ℕ → ℕ → Graph → Call → ℕ
refusal_in book charges left g (make a k) = cond (no_slot g a) 1 (make_refusal book charges left g k)
refusal_in book charges left g (read a i) = cond (no_slot g a) 1 (field_refusal book g a i false)
refusal_in book charges left g (write a i w) = cond (no_slot g a) 1 (field_refusal book g a i false)
refusal_in book charges left g (follow a i b) = cond (no_slot g a || no_slot g b) 1 (field_refusal book g a i true)
refusal_in book charges left g (link a i b) = cond (no_slot g a || no_slot g b) 1 (field_refusal book g a i true)
refusal_in book charges left g (hold a b) = cond (no_slot g a || no_slot g b) 1 0
refusal_in book charges left g (drop a) = cond (no_slot g a) 1 0
refusal_in book charges left g (look a) = cond (no_slot g a) 1 0
refusal_in book charges left g spare = 0

-- What an accepted call answers: nothing, one number, or number and kind.
pub data Answer : Type 0 where
  done : Answer
  word : ℕ → Answer
  known : ℕ → ℕ → Answer

abbrev pub answer_in : ℕ → Graph → Call → Answer
answer_in left g (make a k) = word g.next
answer_in left g (read a i) = word (slice_index (held g a).fields i)
answer_in left g (write a i w) = done
answer_in left g (follow a i b) = done
answer_in left g (link a i b) = done
answer_in left g (hold a b) = done
answer_in left g (drop a) = done
answer_in left g (look a) = known (held g a).number (held g a).kind
answer_in left g spare = word left

-- The charges of records together.
abbrev pub total : List ℕ → List Record → ℕ
total charges [] = 0
total charges (r ∷ rs) = slice_index charges r.kind + total charges rs

-- Live words: the charges of the reached records together, on any graph.
unfoldable pub live : List Shape → List ℕ → Graph → ℕ
live book charges g = total charges (select (λ r. reached book g r.number) g.records)

-- What a call pays if it is accepted: the charge of the kind that it makes.
abbrev pub paid : List ℕ → Call → ℕ
paid charges (make a k) = slice_index charges k
paid charges (read a i) = 0
paid charges (write a i w) = 0
paid charges (follow a i b) = 0
paid charges (link a i b) = 0
paid charges (hold a b) = 0
paid charges (drop a) = 0
paid charges (look a) = 0
paid charges spare = 0
