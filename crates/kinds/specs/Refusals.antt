-- The number of each refusal.
use Rattle.std.specs.Prelude.{ℕ}
use Rattle.kinds.specs.declared.refusal.Refusal.{Refusal}
use Rattle.kinds.specs.declared.refusal.Refusal.TheVariants.{NoSlot, NoKind, EmptySlot, NoField, WrongSort, NoSpace, NumbersSpent, BillOpen, WrongBill, BadOpening, BadKind}

abbrev pub code : Refusal → ℕ
code NoSlot = 1
code NoKind = 2
code EmptySlot = 3
code NoField = 4
code WrongSort = 5
code NoSpace = 6
code NumbersSpent = 7
code BillOpen = 8
code WrongBill = 9
code BadOpening = 10
code BadKind = 11
