-- What a test of a call says: 0 where it passes, else the refusal's number.
use Rattle.std.specs.Prelude.{ℕ, Ok, Err, Result}
use Rattle.kinds.specs.Refusals.{code}
use Rattle.kinds.specs.declared.refusal.Refusal.{Refusal}

abbrev pub tested : Result (Unit {0}) Refusal → ℕ
tested (Ok _) = 0
tested (Err e) = code e
