-- The state that a store holds.
use Rattle.kinds.specs.Books.{kinds_of}
use Rattle.straight.specs.Words.{State}
use Rattle.straight.specs.declared.store.Store.{Store}

abbrev pub state : Store → State
state s = record { memory = s.memory.now; slots = s.slots.held; count = s.slots.count; room = s.room; top = s.top; next = s.next; book = kinds_of s.book }
