-- The opening of a heap over lent words.
use Rattle.std.specs.Prelude.{ℕ, Bool, cond, ◌||◌, ◌==◌, nat_lt}

-- An opening is bad if memory passes 16,384 words, the number of slots is outside 1 to 64, or the first number is 0.
abbrev pub bad_opening : ℕ → ℕ → ℕ → Bool
bad_opening words slots first = nat_lt 16384 words || (slots == 0 || (nat_lt 64 slots || first == 0))

-- A number, but 0 after a bad opening.
abbrev pub unless_bad : Bool → ℕ → ℕ
unless_bad bad n = cond bad 0 n

-- What the question about the opening returns: 10 for a heap without slots, else 0.
abbrev pub asked_opening : ℕ → ℕ
asked_opening slots = cond (slots == 0) 10 0
