-- What an answer says.
use Rattle.std.specs.Prelude.{ℕ, Ok, Err, Result}
use Rattle.kinds.specs.declared.refusal.Refusal.{Refusal}
use Rattle.kinds.specs.Refusals.{code}

-- The meaning of the value, or the number of the refusal.
abbrev pub said : {A B : Type 0} → (A → B) → Result A Refusal → Result B ℕ
said f (Ok x) = Ok (f x)
said f (Err e) = Err (code e)
