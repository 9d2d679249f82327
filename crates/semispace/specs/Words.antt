-- The words and registers of a copying heap, the transitions, and where a field is.
use Rattle.std.specs.Prelude.{◌≡◌, ℕ, zero, suc, ◌+◌, ◌-◌, ◌*◌, ◌/◌, ◌%◌, ◌<◌, ◌≤◌, Bool, true, false, cond, Option, Some, None, ◌&&◌, ◌||◌, List, length, ◌==◌, nat_le, nat_lt, slice_index, slice_index_or, slice_set}
use Rattle.kinds.specs.Shapes.{Shape, no_shape, within}
use Rattle.graph.specs.Graph.{size}
use Rattle.graph.specs.Clearing.{cleared}
use Rattle.semispace.specs.declared.halves.Halves.{Halves}
use Rattle.semispace.specs.declared.cursor.Cursor.{Cursor}
use Rattle.semispace.specs.declared.collector.Collector.{Collector}
use Rattle.semispace.specs.declared.collector.Collector.TheVariants.{Rest, Slots, Scan, Field}
use Rattle.semispace.specs.declared.collector.Transition.{Transition}
use Rattle.semispace.specs.declared.collector.Transition.TheVariants.{Start, Slot, Open, Word, Keep, Forward, Reserve, Done}
use Rattle.semispace.specs.declared.collector.Target.{Target}
use Rattle.semispace.specs.declared.collector.Target.TheVariants.{Settled, Placed, Unplaced}

pub record State : Type 0 where
  pub memory : List ℕ
  pub slots : List ℕ
  pub count : ℕ
  pub book : List Shape
  pub next : ℕ
  pub spare : ℕ
  pub halves : Halves
  pub collector : Collector

-- A state with one part changed.
abbrev pub set_memory : State → List ℕ → State
set_memory s m = record { memory = m; slots = s.slots; count = s.count; book = s.book; next = s.next; spare = s.spare; halves = s.halves; collector = s.collector }

abbrev pub set_slots : State → List ℕ → State
set_slots s m = record { memory = s.memory; slots = m; count = s.count; book = s.book; next = s.next; spare = s.spare; halves = s.halves; collector = s.collector }

abbrev pub set_halves : State → Halves → State
set_halves s m = record { memory = s.memory; slots = s.slots; count = s.count; book = s.book; next = s.next; spare = s.spare; halves = m; collector = s.collector }

abbrev pub set_spare : State → ℕ → State
set_spare s m = record { memory = s.memory; slots = s.slots; count = s.count; book = s.book; next = s.next; spare = m; halves = s.halves; collector = s.collector }

abbrev pub set_collector : State → Collector → State
set_collector s m = record { memory = s.memory; slots = s.slots; count = s.count; book = s.book; next = s.next; spare = s.spare; halves = s.halves; collector = m }

-- The words of the two halves; an odd last word of memory is in neither.
abbrev pub both_halves : State → ℕ
both_halves s = s.halves.size + s.halves.size

pub record Bounds (s : State) : Type 0 where
  pub few : s.count ≤ 64
  pub half : s.halves.size + s.halves.size ≤ length s.memory
  pub small : s.halves.size ≤ 8192
  pub side : s.halves.base ≤ s.halves.size
  pub ends : s.halves.low ≤ s.halves.high
  pub top : s.halves.high ≤ s.halves.size

-- The book.
abbrev pub fields_of : List Shape → ℕ → ℕ
fields_of b k = size b k

abbrev pub refers : List Shape → ℕ → ℕ → Bool
refers b k i = within (slice_index_or b k no_shape).runs i

-- The halves.
abbrev pub leads_new : Halves → ℕ → Bool
leads_new p r = nat_lt p.base r && nat_le (r - p.base) p.size

abbrev pub grown : Halves → ℕ → Halves
grown p n = record { size = p.size; base = p.base; low = p.low + n; high = p.high; old_low = p.old_low; old_high = p.old_high }

abbrev pub lowered : Halves → ℕ → Halves
lowered p n = record { size = p.size; base = p.base; low = p.low; high = p.high - n; old_low = p.old_low; old_high = p.old_high }

abbrev pub swapped : Halves → Halves
swapped p = record { size = p.size; base = p.size - p.base; low = 0; high = p.size; old_low = p.low; old_high = p.high }

-- Records in memory.
abbrev pub word_at : State → ℕ → ℕ
word_at s a = slice_index s.memory a

abbrev pub put_at : State → ℕ → ℕ → State
put_at s a w = set_memory s (slice_set s.memory a w)

abbrev pub kind_at : State → ℕ → ℕ
kind_at s a = word_at s (a + 1) % 16

abbrev pub place_of : State → ℕ → ℕ
place_of s a = word_at s (a + 1) / 16

abbrev pub fields_at : State → ℕ → ℕ
fields_at s a = fields_of s.book (kind_at s a)

abbrev pub next_place : State → ℕ
next_place s = s.halves.base + s.halves.low

-- There is room for a place of the record at `from`, which lies in memory.
abbrev pub Room : State → ℕ → Type 0
Room s from = (from + 1 < both_halves s) × (s.halves.low + (2 + fields_at s from) ≤ s.halves.high)

-- Memory with a place at p noted for the record at o.
abbrev pub noted : List ℕ → ℕ → ℕ → List ℕ
noted m p o = slice_set (slice_set (slice_set m p (o + 1)) (p + 1) (slice_index m (o + 1) % 16)) (o + 1) (slice_index m (o + 1) % 16 + 16 * (p + 1))

abbrev pub reserved : State → ℕ → State
reserved s from = set_halves (set_memory s (noted s.memory (next_place s) from)) (grown s.halves (2 + fields_at s from))

abbrev pub placed_at : ℕ → Target
placed_at zero = Unplaced
placed_at (suc n) = Placed (suc n)

-- The reference of a place as it is met: none where the number is 0.
abbrev pub place_met : ℕ → Option ℕ
place_met n = cond (n == 0) None (Some n)

abbrev pub target : State → ℕ → Target
target s r = cond (r == 0 || leads_new s.halves r) Settled (placed_at (place_of s (r - 1)))

-- A reference that is put in a cycle: what it becomes, and the state after.
abbrev pub Forwardable : State → ℕ → Type 0
Forwardable s r = (0 < r → r < both_halves s) × (target s r ≡ Unplaced → Room s (r - 1))

abbrev pub reference_at : State → ℕ → Target → ℕ
reference_at s r Settled = r
reference_at s r (Placed p) = p
reference_at s r Unplaced = next_place s + 1

abbrev pub state_at : State → ℕ → Target → State
state_at s r Settled = s
state_at s r (Placed p) = s
state_at s r Unplaced = reserved s (r - 1)

abbrev pub forwarded_reference : State → ℕ → ℕ
forwarded_reference s r = reference_at s r (target s r)

abbrev pub forwarded_state : State → ℕ → State
forwarded_state s r = state_at s r (target s r)

-- The transitions.
abbrev pub slots_from : State → ℕ → Collector
slots_from s n = cond (nat_lt n s.count) (Slots n) (Scan s.halves.base)

abbrev pub started : State → State
started s = set_collector (set_halves s (swapped s.halves)) (slots_from (set_halves s (swapped s.halves)) 0)

abbrev pub Passable : State → ℕ → Type 0
Passable s n = (n < s.count) × Forwardable s (slice_index s.slots n)

abbrev pub put_slot : State → ℕ → ℕ → State
put_slot s n r = set_slots (forwarded_state s r) (slice_set s.slots n (forwarded_reference s r))

abbrev pub passed : State → ℕ → State
passed s n = set_collector (put_slot s n (slice_index s.slots n)) (slots_from s (n + 1))

-- The open record, by the addresses of its new and its old copy, and the field that is moved next.
abbrev pub cursor : ℕ → ℕ → ℕ → Cursor
cursor at from i = record { at = at; from = from; field = i }

abbrev pub next_field : Cursor → Cursor
next_field c = cursor c.at c.from (c.field + 1)

abbrev pub fields_from : State → Cursor → Collector
fields_from s c = cond (nat_lt c.field (fields_at s c.at)) (Field c) (Scan (c.at + 2 + fields_at s c.at))

abbrev pub Openable : State → ℕ → Type 0
Openable s at = (at + 1 < both_halves s) × (0 < word_at s at) × (word_at s at - 1 < both_halves s)

abbrev pub opened : State → ℕ → State
opened s at = set_collector (put_at s at (word_at s (word_at s at - 1))) (fields_from s (cursor at (word_at s at - 1) 0))

abbrev pub Writable : State → ℕ → ℕ → Type 0
Writable s at i = at + 2 + i < both_halves s

abbrev pub written : State → Cursor → ℕ → State
written s c w = set_collector (put_at s (c.at + 2 + c.field) w) (fields_from s (next_field c))

abbrev pub Copyable : State → Cursor → Type 0
Copyable s c = Writable s c.at c.field × Writable s c.from c.field

abbrev pub copied_field : State → Cursor → State
copied_field s c = written s c (word_at s (c.from + 2 + c.field))

abbrev pub reserved_field : State → Cursor → State
reserved_field s c = written (reserved s (word_at s (c.from + 2 + c.field) - 1)) c (next_place s + 1)

abbrev pub finished : State → State
finished s = set_collector (set_spare s (s.halves.high - s.halves.low)) Rest

abbrev pub resting : Collector → Bool
resting Rest = true
resting (Slots n) = false
resting (Scan at) = false
resting (Field c) = false

-- What a step reads lies in memory.
abbrev pub Watched : State → Collector → Type 0
Watched s Rest = Unit {0}
Watched s (Slots n) = Unit {0}
Watched s (Scan at) = Unit {0}
Watched s (Field c) = (c.from + 2 + c.field < both_halves s) × (refers s.book (kind_at s c.from) c.field ≡ true → 0 < word_at s (c.from + 2 + c.field) → word_at s (c.from + 2 + c.field) < both_halves s)

abbrev pub fitting_target : Cursor → Target → Transition
fitting_target c Settled = Keep c
fitting_target c (Placed p) = Forward c p
fitting_target c Unplaced = Reserve c

abbrev pub fitting_field : State → Cursor → Transition
fitting_field s c = cond (refers s.book (kind_at s c.from) c.field) (fitting_target c (target s (word_at s (c.from + 2 + c.field)))) (Word c)

abbrev pub fitting : State → Collector → Transition
fitting s Rest = Start
fitting s (Slots n) = Slot n
fitting s (Scan at) = cond (nat_lt at (next_place s)) (Open at) Done
fitting s (Field c) = fitting_field s c

-- The one transition that fits.
abbrev pub transition : State → Transition
transition s = fitting s s.collector

-- What a transition asks of the state.
abbrev pub Asked : State → Transition → Type 0
Asked s Start = Unit {0}
Asked s (Slot n) = Passable s n
Asked s (Open at) = Openable s at
Asked s (Word c) = Copyable s c
Asked s (Keep c) = Copyable s c
Asked s (Forward c p) = Writable s c.at c.field
Asked s (Reserve c) = Copyable s c × (0 < word_at s (c.from + 2 + c.field)) × Room s (word_at s (c.from + 2 + c.field) - 1)
Asked s Done = Unit {0}

pub record Ready (s : State) : Type 0 where
  pub watched : Watched s s.collector
  pub asked : Asked s (transition s)

abbrev pub made : State → Transition → State
made s Start = started s
made s (Slot n) = passed s n
made s (Open at) = opened s at
made s (Word c) = copied_field s c
made s (Keep c) = copied_field s c
made s (Forward c p) = written s c p
made s (Reserve c) = reserved_field s c
made s Done = finished s

abbrev pub stepped : State → State
stepped s = made s (transition s)

-- Where a field is now. Places before the front have been closed; of the one at the front `filled` fields have been copied.
abbrev pub front : ℕ → ℕ → Collector → ℕ
front base size Rest = base + size
front base size (Slots n) = base
front base size (Scan at) = at
front base size (Field c) = c.at

abbrev pub filled : Collector → ℕ
filled Rest = 0
filled (Slots n) = 0
filled (Scan at) = 0
filled (Field c) = c.field

abbrev pub own : Halves → Collector → ℕ → ℕ → Bool
own h c a i = nat_le (h.base + h.high) a || (nat_lt a (front h.base h.size c) || (a == front h.base h.size c && nat_lt i (filled c)))

abbrev pub source : List ℕ → Collector → ℕ → ℕ
source m Rest a = slice_index m a - 1
source m (Slots n) a = slice_index m a - 1
source m (Scan at) a = slice_index m a - 1
source m (Field c) a = cond (a == c.at) c.from (slice_index m a - 1)

abbrev pub home_old : Halves → Collector → ℕ → ℕ → ℕ → ℕ
home_old h c q a i = cond (q == 0) a (cond (own h c (q - 1) i) (q - 1) a)

-- The record whose field i is that of the record at a.
abbrev pub home : State → ℕ → ℕ → ℕ
home s a i = cond (leads_new s.halves (a + 1)) (cond (own s.halves s.collector a i) a (source s.memory s.collector a)) (home_old s.halves s.collector (place_of s a) a i)

abbrev pub Found : State → ℕ → ℕ → Type 0
Found s a i =
    (a + 1 < both_halves s) ×
    (leads_new s.halves (a + 1) ≡ true → own s.halves s.collector a i ≡ false → (0 < word_at s a)) ×
    (home s a i + 2 + i < both_halves s)

-- n steps, but none after one that ends a cycle: how many, whether a cycle ended, and the state then.
unfoldable pub idle_made : ℕ → State → ℕ
idle_made zero s = 0
idle_made (suc n) s = cond (resting (stepped s).collector) 1 (suc (idle_made n (stepped s)))

unfoldable pub idle_ended : ℕ → State → Bool
idle_ended zero s = false
idle_ended (suc n) s = cond (resting (stepped s).collector) true (idle_ended n (stepped s))

unfoldable pub idle_state : ℕ → State → State
idle_state zero s = s
idle_state (suc n) s = cond (resting (stepped s).collector) (stepped s) (idle_state n (stepped s))

abbrev pub made_at : State → ℕ → ℕ
made_at s k = s.halves.base + (s.halves.high - (2 + fields_of s.book k))

abbrev pub fresh : List ℕ → ℕ → ℕ → ℕ → List ℕ
fresh m at number k = slice_set (slice_set m at number) (at + 1) k

-- A record of kind k with its number at the high end, its fields empty.
abbrev pub made_record : State → ℕ → ℕ → State
made_record s k number =
    set_halves
    (set_memory s (cleared (fresh s.memory (made_at s k) number k) (made_at s k + 2) (fields_of s.book k)))
    (lowered s.halves (2 + fields_of s.book k))
