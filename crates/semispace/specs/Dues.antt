-- The records of a state, what a cycle will keep, and the steps that are due.
use Rattle.std.specs.Prelude.{ℕ, zero, suc, ◌+◌, ◌-◌, Bool, false, cond, not, ◌&&◌, ◌||◌, List, ◌++◌, take, ◌==◌, nat_eq}
use Rattle.semispace.specs.declared.collector.Collector.{Collector}
use Rattle.semispace.specs.declared.collector.Collector.TheVariants.{Rest, Slots, Scan, Field}
use Rattle.semispace.specs.Layout.{mades}
use Rattle.semispace.specs.Words.{State, kind_at, refers, resting}
use Rattle.semispace.specs.Sound.{the_olds, the_news, size_of, opened_at, number, name, shown}
use Rattle.semispace.specs.Reach.{some, reached, sum_where}

-- The records, each by one address: in a cycle the old ones and those made since, else all of the new half.
unfoldable pub objects : State → List ℕ
objects s = cond (resting s.collector) (the_news s) (the_olds s ++ mades s.book s.memory s.halves)

-- Does one of the fields of the record at a below i name the record of number n?
unfoldable pub names_below : State → ℕ → ℕ → ℕ → Bool
names_below s a n zero = false
names_below s a n (suc i) = names_below s a n i || (refers s.book (kind_at s a) i && shown s a i == n)

unfoldable pub edge : State → ℕ → ℕ → Bool
edge s a b = names_below s a (number s b) (size_of s a - 2)

-- The roots of a cycle: what slots name, and every record that has words in the new half.
unfoldable pub root : State → ℕ → Bool
root s b = some (λ r. nat_eq (name s r) (number s b)) (take s.count s.slots) || some (λ p. nat_eq (number s p) (number s b)) (the_news s)

unfoldable pub lives : State → ℕ → Bool
lives s = reached (objects s) (edge s) (root s)

unfoldable pub kept : State → ℕ
kept s = sum_where (lives s) (size_of s) (objects s)

-- Does the record at a have a place that has been opened, or is it made in this cycle?
unfoldable pub opened_record : State → ℕ → Bool
opened_record s a = some (λ p. (number s p == number s a) && opened_at s.halves s.collector p) (the_news s)

abbrev pub slots_left : State → Collector → ℕ
slots_left s Rest = 0
slots_left s (Slots n) = s.count - n
slots_left s (Scan at) = 0
slots_left s (Field c) = 0

abbrev pub fields_left : State → Collector → ℕ
fields_left s Rest = 0
fields_left s (Slots n) = 0
fields_left s (Scan at) = 0
fields_left s (Field c) = size_of s c.at - 2 - c.field

-- What is left to open.
unfoldable pub pending : State → ℕ
pending s = sum_where (λ a. lives s a && not (opened_record s a)) (λ a. size_of s a - 1) (objects s)

unfoldable pub due : State → ℕ
due s = cond (resting s.collector) 0 (1 + slots_left s s.collector + fields_left s s.collector + pending s)
