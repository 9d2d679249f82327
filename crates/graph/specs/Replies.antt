-- What the results of the calls say: each case's answer or number.
use Rattle.std.specs.Prelude.{ℕ, Ok, Err, Result}
use Rattle.kinds.specs.Refusals.{code}
use Rattle.kinds.specs.declared.refusal.Refusal.{Refusal}
use Rattle.graph.specs.Calls.{done, word, known}
use Rattle.graph.specs.Meaning.{Reply, gave, refused}

abbrev pub as_word : Result ℕ Refusal → Reply
as_word (Ok n) = gave (word n)
as_word (Err e) = refused (code e)

abbrev pub as_done : Result (Unit {0}) Refusal → Reply
as_done (Ok _) = gave done
as_done (Err e) = refused (code e)

abbrev pub as_known : Result (ℕ × ℕ) Refusal → Reply
as_known (Ok p) = gave (known p.0 p.1)
as_known (Err e) = refused (code e)
