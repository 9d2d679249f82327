-- A run as the pair of its numbers.
use Rattle.std.specs.Prelude.{ℕ}
use Rattle.kinds.specs.declared.run.Run.{Run}

-- The offset and the length.
abbrev pub run_pair : Run → ℕ × ℕ
run_pair r = (r.offset, r.length)

-- A run from its numbers.
abbrev pub run_of : ℕ → ℕ → Run
run_of offset length = record { offset = offset; length = length }
