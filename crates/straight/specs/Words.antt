-- The straight heap's words and registers, and what each call makes of them.
use Rattle.std.specs.Prelude.{◌≡◌, ℕ, ◌+◌, ◌-◌, ◌<◌, ◌≤◌, cond, List, length, ◌==◌, slice_index, slice_set}
use Rattle.kinds.specs.Shapes.{Shape}
use Rattle.graph.specs.Graph.{size}
use Rattle.graph.specs.Clearing.{cleared}
use Rattle.graph.specs.Calls.{Call, make, read, write, follow, link, hold, drop, look, spare, Answer, done, word, known}
use Rattle.graph.specs.Meaning.{Reply, gave, refused}

-- Memory is the whole lent slice, of which the heap uses the first `room` words; records lie one after another below `top`.
-- Of the slots the first `count` are there; a slot holds 0, or 1 more than the address of its record. `next` is the next number.
-- A record: its number, its kind, then its fields; a reference field holds 0, or 1 more than an address.
pub record State : Type 0 where
  pub memory : List ℕ
  pub slots : List ℕ
  pub count : ℕ
  pub room : ℕ
  pub top : ℕ
  pub next : ℕ
  pub book : List Shape

-- A state with other words, with other slots.
abbrev pub with_memory : State → List ℕ → State
with_memory s m = record { memory = m; slots = s.slots; count = s.count; room = s.room; top = s.top; next = s.next; book = s.book }

abbrev pub with_slots : State → List ℕ → State
with_slots s xs = record { memory = s.memory; slots = xs; count = s.count; room = s.room; top = s.top; next = s.next; book = s.book }

-- The reference that slot a holds; the address of its record; where field i of that lies.
abbrev pub reference : State → ℕ → ℕ
reference s a = slice_index s.slots a

abbrev pub place : State → ℕ → ℕ
place s a = reference s a - 1

abbrev pub spot : State → ℕ → ℕ → ℕ
spot s a i = place s a + 2 + i

abbrev pub word_at : State → ℕ → ℕ
word_at s p = slice_index s.memory p

-- A record of kind k with n empty fields at p.
abbrev pub laid : List ℕ → ℕ → ℕ → ℕ → ℕ → List ℕ
laid m p number k n = cleared (slice_set (slice_set m p number) (p + 1) k) (p + 2) n

-- What an accepted call leaves: a make lays its record at the top, a write and a link set one word, a follow, a hold and a drop one slot.
abbrev pub words_after : State → Call → State
words_after s (make a k) = record { memory = laid s.memory s.top s.next k (size s.book k); slots = slice_set s.slots a (s.top + 1); count = s.count; room = s.room; top = s.top + (2 + size s.book k); next = s.next + 1; book = s.book }
words_after s (read a i) = s
words_after s (write a i w) = with_memory s (slice_set s.memory (spot s a i) w)
words_after s (follow a i b) = with_slots s (slice_set s.slots b (word_at s (spot s a i)))
words_after s (link a i b) = with_memory s (slice_set s.memory (spot s a i) (reference s b))
words_after s (hold a b) = with_slots s (slice_set s.slots b (reference s a))
words_after s (drop a) = with_slots s (slice_set s.slots a 0)
words_after s (look a) = s
words_after s spare = s

-- What it answers.
abbrev pub words_answer : State → Call → Answer
words_answer s (make a k) = word s.next
words_answer s (read a i) = word (word_at s (spot s a i))
words_answer s (write a i w) = done
words_answer s (follow a i b) = done
words_answer s (link a i b) = done
words_answer s (hold a b) = done
words_answer s (drop a) = done
words_answer s (look a) = cond (reference s a == 0) (known 0 0) (known (word_at s (place s a)) (word_at s (place s a + 1)))
words_answer s spare = word (s.room - s.top)

-- What a call does to words and registers: a refused one leaves every word and register as it was.
abbrev pub Acted : State → Call → Reply → State → Type 0
Acted s c (gave x) t = (x ≡ words_answer s c) × (t ≡ words_after s c)
Acted s c (refused n) t = t ≡ s

-- What an action asks: its slot is full, and the word that it reads or writes lies in memory.
pub record Held (s : State) (a i : ℕ) : Type 0 where
  pub full : 0 < reference s a
  pub inside : spot s a i < length s.memory
  pub small : spot s a i < 16384

-- A full slot: the two words before the fields of its record lie in memory.
pub record Full (s : State) (a : ℕ) : Type 0 where
  pub full : 0 < reference s a
  pub inside : place s a + 1 < length s.memory
  pub small : place s a + 1 < 16384

-- A number is left, and there is room for a record of kind k.
pub record Room (s : State) (k : ℕ) : Type 0 where
  pub number : s.next ≤ 4294967295
  pub fits : s.top + (2 + size s.book k) ≤ length s.memory
  pub small : s.top + (2 + size s.book k) ≤ 16384
