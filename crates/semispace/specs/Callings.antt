-- What calls do to the words and registers of a copying heap, and what their code asks.
use Rattle.std.specs.Prelude.{◌≡◌, ℕ, ◌+◌, ◌-◌, ◌<◌, ◌≤◌, true, false, cond, ◌==◌, slice_index, slice_set}
use Rattle.graph.specs.Calls.{Call, make, read, write, follow, link, hold, drop, look, spare, Answer, done, word, known}
use Rattle.graph.specs.Meaning.{Reply, gave, refused}
use Rattle.semispace.specs.Words.{Found, Forwardable, both_halves, made_record, made_at, fields_of, kind_at, word_at, leads_new, State, put_slot, put_at, home, set_slots, forwarded_state, forwarded_reference}
use Rattle.semispace.specs.Sound.{value, number, opened_at}

-- The address that slot a holds.
abbrev pub held_at : State → ℕ → ℕ
held_at s a = slice_index s.slots a - 1

-- What the calls make of a state.
abbrev pub dropped : State → ℕ → State
dropped s a = set_slots s (slice_set s.slots a 0)

abbrev pub holding : State → ℕ → ℕ → State
holding s a b = put_slot s b (slice_index s.slots a)

abbrev pub followed : State → ℕ → ℕ → ℕ → State
followed s a i b = put_slot s b (value s (held_at s a) i)

abbrev pub wrote : State → ℕ → ℕ → ℕ → State
wrote s a i w = put_at s (home s (held_at s a) i + (2 + i)) w

abbrev pub linked : State → ℕ → ℕ → ℕ → State
linked s a i b = put_at (forwarded_state s (slice_index s.slots b)) (home (forwarded_state s (slice_index s.slots b)) (held_at s a) i + (2 + i)) (forwarded_reference s (slice_index s.slots b))

-- The state with a record of kind k made, and with its slot set.
abbrev pub grown_by : State → ℕ → State
grown_by s k = record { memory = (made_record s k s.next).memory; slots = s.slots; count = s.count; book = s.book; next = s.next + 1; spare = s.spare - (2 + fields_of s.book k); halves = (made_record s k s.next).halves; collector = s.collector }

abbrev pub made_in : State → ℕ → ℕ → State
made_in s a k = set_slots (grown_by s k) (slice_set s.slots a (made_at s k + 1))

-- What an accepted call leaves: a make puts its record at the high end of the new half; a write and a link set the one
-- copy of a field that is read; a follow, a link and a hold put a place in a cycle, reserved if there is none.
abbrev pub words_after : State → Call → State
words_after s (make a k) = made_in s a k
words_after s (read a i) = s
words_after s (write a i w) = wrote s a i w
words_after s (follow a i b) = followed s a i b
words_after s (link a i b) = linked s a i b
words_after s (hold a b) = holding s a b
words_after s (drop a) = dropped s a
words_after s (look a) = s
words_after s spare = s

-- What it answers.
abbrev pub words_answer : State → Call → Answer
words_answer s (make a k) = word s.next
words_answer s (read a i) = word (value s (held_at s a) i)
words_answer s (write a i w) = done
words_answer s (follow a i b) = done
words_answer s (link a i b) = done
words_answer s (hold a b) = done
words_answer s (drop a) = done
words_answer s (look a) = cond (slice_index s.slots a == 0) (known 0 0) (known (number s (held_at s a)) (kind_at s (held_at s a)))
words_answer s spare = word s.spare

-- What a call does to words and registers: a refused one leaves every word and register as it was.
abbrev pub Acted : State → Call → Reply → State → Type 0
Acted s c (gave x) t = (x ≡ words_answer s c) × (t ≡ words_after s c)
Acted s c (refused n) t = t ≡ s

-- What the code of a call asks. A full slot: its record lies in the halves.
pub record Full (s : State) (a : ℕ) : Type 0 where
  pub full : 0 < slice_index s.slots a
  pub inside : held_at s a + 1 < both_halves s

-- A field of a full slot's record, both copies of it.
pub record Held (s : State) (a i : ℕ) : Type 0 where
  pub full : 0 < slice_index s.slots a
  pub found : Found s (held_at s a) i

-- A record whose number is asked for.
pub record Numbered (s : State) (a : ℕ) : Type 0 where
  pub inside : a + 1 < both_halves s
  pub some : leads_new s.halves (a + 1) ≡ true → opened_at s.halves s.collector a ≡ false → 0 < word_at s a
  pub old : leads_new s.halves (a + 1) ≡ true → opened_at s.halves s.collector a ≡ false → word_at s a - 1 < both_halves s

pub record Linkable (s : State) (a i b : ℕ) : Type 0 where
  pub full : 0 < slice_index s.slots a
  pub led : Forwardable s (slice_index s.slots b)
  pub found : Found (forwarded_state s (slice_index s.slots b)) (held_at s a) i

pub record Makeable (s : State) (k : ℕ) : Type 0 where
  pub number : s.next ≤ 4294967295
  pub room : s.halves.low + (2 + fields_of s.book k) ≤ s.halves.high
  pub charge : 2 + fields_of s.book k ≤ s.spare
