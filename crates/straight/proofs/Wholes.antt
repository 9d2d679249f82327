-- The invariant has one proof at most, so a heap's ghost field gives it back.
use Rattle.std.proofs.Common.{◌≡◌, ℕ, ◌+◌, ◌-◌, ◌<◌, true, List, length, get_or}
use mathlib.Core.Logic.{∥∥₁_elim}
use native.Mathlib.Bridge.{le_prop}
use denote.Struct.Props.{props, ≡_prop}
use base.Stored.{coded_bool}
use Rattle.kinds.specs.Shapes.{Shape}
use Rattle.graph.specs.Graph.{size, refers, ◌∈◌}
use Rattle.straight.specs.Words.{State, reference}
use Rattle.straight.specs.Layout.{end_of, places}
use Rattle.straight.specs.Whole.{Whole, Records, Leads, among}

kinds_prop : (book : List Shape) (mem ps : List ℕ) → IsProp ((p : ℕ) → p ∈ ps → get_or mem (p + 1) 0 < length book)
kinds_prop book mem ps = hlevel props

given_prop : (mem ps : List ℕ) (next : ℕ) → IsProp ((p : ℕ) → p ∈ ps → (0 < get_or mem p 0) × (get_or mem p 0 < next))
given_prop mem ps next = hlevel props

apart_prop : (mem ps : List ℕ) → IsProp ((p q : ℕ) → p ∈ ps → q ∈ ps → get_or mem p 0 ≡ get_or mem q 0 → p ≡ q)
apart_prop mem ps = hlevel props

fields_prop : (book : List Shape) (mem ps : List ℕ) → IsProp ((p : ℕ) → p ∈ ps → (i : ℕ) → i < size book (get_or mem (p + 1) 0) → refers book (get_or mem (p + 1) 0) i ≡ true → Leads ps (get_or mem (p + 2 + i) 0))
fields_prop book mem ps x y = λ k p m j l r z. ≡_prop coded_bool (among (get_or mem (p + 2 + j) 0 - 1) ps) true (x p m j l r z) (y p m j l r z) k

records_prop : (book : List Shape) (mem ps : List ℕ) (next : ℕ) → IsProp (Records book mem ps next)
records_prop book mem ps next x y = λ i. record {
  kinds = kinds_prop book mem ps x.kinds y.kinds i;
  given = given_prop mem ps next x.given y.given i;
  apart = apart_prop mem ps x.apart y.apart i;
  fields = fields_prop book mem ps x.fields y.fields i;
}

first_prop : (m n : ℕ) → IsProp (0 < m → 0 < n)
first_prop m n = hlevel props

laid_prop : (m n : ℕ) → IsProp (m ≡ n)
laid_prop m n = hlevel props

slots_prop : (s : State) (ps : List ℕ) → IsProp ((a : ℕ) → a < s.count → Leads ps (reference s a))
slots_prop s ps x y = λ k a l z. ≡_prop coded_bool (among (reference s a - 1) ps) true (x a l z) (y a l z) k

whole_prop : (s : State) → IsProp (Whole s)
whole_prop s x y = λ i. record {
  few = le_prop x.few y.few i;
  array = le_prop x.array y.array i;
  inside = le_prop x.inside y.inside i;
  fits = le_prop x.fits y.fits i;
  small = le_prop x.small y.small i;
  numbers = le_prop x.numbers y.numbers i;
  first = first_prop s.count s.next x.first y.first i;
  kinds = le_prop x.kinds y.kinds i;
  laid = laid_prop (end_of s.book s.memory 0 (places s.book s.memory s.top)) s.top x.laid y.laid i;
  records = records_prop s.book s.memory (places s.book s.memory s.top) s.next x.records y.records i;
  slots = slots_prop s (places s.book s.memory s.top) x.slots y.slots i;
}

pub whole : (s : State) → ∥ Whole s ∥₁ → Whole s
whole s h = ∥∥₁_elim h (whole_prop s) (λ x. x)
