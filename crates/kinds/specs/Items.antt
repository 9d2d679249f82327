-- The items of a list in fixed memory.
use Rattle.std.specs.Prelude.{ℕ, List, take}
use Rattle.kinds.specs.declared.fixed_list.FixedList.{FixedList}

abbrev pub items : {T : Type 0} {N : ℕ} → FixedList T N → List T
items xs = take xs.count xs.places
