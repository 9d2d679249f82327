-- How many steps a pacing asks for.
use Rattle.std.specs.Prelude.{cond, ℕ, ◌-◌, ◌*◌, min, max, ltb}

-- A rate, brought into 1 to 1,024.
abbrev pub clamped : ℕ → ℕ
clamped r = max 1 (min r 1024)

-- By-word: the steps that are missing of `rate` steps for each word made, or 0.
abbrev pub missing : ℕ → ℕ → ℕ → ℕ
missing rate steps words = rate * words - steps

-- By-mark: the same, but not below 131,072 when the spare is under the mark.
abbrev pub marked : ℕ → ℕ → ℕ → ℕ → ℕ → ℕ
marked rate mark steps words spare = cond (ltb spare mark) (max (missing rate steps words) 131072) (missing rate steps words)
