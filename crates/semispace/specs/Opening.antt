-- The opening of a copying heap.
use Rattle.std.specs.Prelude.{ℕ, ◌+◌, ◌/◌, List, [], length, replicate}
use Rattle.kinds.specs.Shapes.{Shape}
use Rattle.graph.specs.Meaning.{Meaning, headed_charges}
use Rattle.graph.specs.Opening.{bad_opening, unless_bad, asked_opening}
use Rattle.semispace.specs.declared.collector.Collector.TheVariants.{Rest}
use Rattle.semispace.specs.Words.{State}

-- Empty slots and halves of so many words, all of them spare; the collector is at rest.
abbrev pub opening : List ℕ → ℕ → ℕ → List Shape → ℕ → State
opening memory half slots book first =
    record {
      memory = memory;
      slots = replicate 64 0;
      count = slots;
      book = book;
      next = first;
      spare = half;
      halves = record { size = half; base = 0; low = 0; high = half; old_low = 0; old_high = half };
      collector = Rest;
    }

-- The state at opening; after a bad one there are no slots and the halves have no words, and memory is as it was handed in.
abbrev pub opened : List ℕ → ℕ → List Shape → ℕ → State
opened memory slots book first = opening memory (unless_bad (bad_opening (length memory) slots first) (length memory / 2)) (unless_bad (bad_opening (length memory) slots first) slots) book first

-- What it means: empty slots, no records, and all of the capacity spare.
abbrev pub opened_meaning : ℕ → ℕ → List Shape → ℕ → Meaning
opened_meaning words slots book first =
    record {
      graph = record { slots = replicate (unless_bad (bad_opening words slots first) slots) 0; next = first; records = [] };
      book = book;
      charges = headed_charges book;
      capacity = unless_bad (bad_opening words slots first) (words / 2);
      fixed = 2 + unless_bad (bad_opening words slots first) slots;
      spare = unless_bad (bad_opening words slots first) (words / 2);
      due = 0;
      kept = 0;
    }

-- What the question about the opening returns: 10 for a heap without slots, else 0.
abbrev pub opening_refusal : State → ℕ
opening_refusal s = asked_opening s.count
