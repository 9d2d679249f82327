-- The words and registers of a store, as one value.
use Rattle.kinds.specs.Books.{kinds_of}
use Rattle.semispace.specs.Words.{State}
use Rattle.semispace.specs.declared.store.Store.{Store}

abbrev pub view : Store → State
view s = record { memory = s.memory.now; slots = s.slots.held; count = s.slots.count; book = kinds_of s.book; next = s.next; spare = s.spare; halves = s.halves; collector = s.collector }
