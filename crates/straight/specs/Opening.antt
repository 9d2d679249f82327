-- The opening of a straight heap.
use Rattle.std.specs.Prelude.{ℕ, List, [], length, replicate}
use Rattle.kinds.specs.Shapes.{Shape}
use Rattle.graph.specs.Meaning.{Meaning, headed_charges}
use Rattle.graph.specs.Opening.{bad_opening, unless_bad, asked_opening}
use Rattle.straight.specs.Words.{State}

-- The state at opening; after a bad one there are no slots and no room, and memory is as it was handed in.
abbrev pub opened : List ℕ → ℕ → List Shape → ℕ → State
opened memory slots book first =
    record {
      memory = memory;
      slots = replicate 64 0;
      count = unless_bad (bad_opening (length memory) slots first) slots;
      room = unless_bad (bad_opening (length memory) slots first) (length memory);
      top = 0;
      next = first;
      book = book;
    }

-- What it means: empty slots, no records, and all of the capacity spare.
abbrev pub opened_meaning : ℕ → ℕ → List Shape → ℕ → Meaning
opened_meaning words slots book first =
    record {
      graph = record { slots = replicate (unless_bad (bad_opening words slots first) slots) 0; next = first; records = [] };
      book = book;
      charges = headed_charges book;
      capacity = unless_bad (bad_opening words slots first) words;
      fixed = 1;
      spare = unless_bad (bad_opening words slots first) words;
      due = 0;
      kept = 0;
    }

-- What the question about the opening returns: 10 for a heap without slots, else 0.
abbrev pub opening_refusal : State → ℕ
opening_refusal s = asked_opening s.count
