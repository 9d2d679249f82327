-- Histories of a keeper, the cycles in them, and the laws over whole runs.
use Rattle.std.specs.Prelude.{◌≡◌, ℕ, ◌+◌, ◌-◌, ◌*◌, ◌/◌, ◌<◌, ◌≤◌, Bool, true, false, ◌⊎◌, List, [], ◌∷◌, ◌++◌, length, None, ◌≢◌}
use Rattle.graph.specs.Calls.{make, paid}
use Rattle.graph.specs.Meaning.{Meaning, Bounded, Opened, gave, refused, live_words}
use Rattle.graph.specs.Cycle.{in_use}
use Rattle.keeper.specs.Keeping.{State, Ask, call, idle, settle, Said, told, idled, settled, unsettled, charge, Event}

-- A call made, with what it said and the states before and after.
pub record Moment : Type 0 where
  pub before : State
  pub ask : Ask
  pub said : Said
  pub after : State

-- A history: calls one after the other, each from the state that the one before left.
pub data History : State → List Moment → State → Type 0 where
  none : {s : State} → History s [] s
  then : {s u t : State} {c : Ask} {x : Said} {es : List Moment} → Event s c x u → History u es t → History s (record { before = s; ask = c; said = x; after = u } ∷ es) t

-- A new keeper: set up on a heap just opened; both counts are 0 and no bill is open.
pub record New (s : State) : Type 0 where
  pub first : ℕ
  pub opened : Opened first s.heap
  pub steps : s.steps ≡ 0
  pub words : s.words ≡ 0
  pub bill : s.bill ≡ None

-- What the heap's and the pacing's traits promise of every heap and every pacing.
pub record Grounds (s : State) : Type 0 where
  pub bounded : Bounded s.heap
  pub some : 1 ≤ s.rate
  pub few : s.rate ≤ 1024
  pub enough : (steps words spare : ℕ) → s.rate * words ≤ steps + s.asks steps words spare

-- The steps that an answer tells of, and whether it tells of a cycle's end.
abbrev pub steps_in : Said → ℕ
steps_in (told _) = 0
steps_in (idled n _) = n
steps_in (settled n _) = n
steps_in unsettled = 0

abbrev pub ended_in : Said → Bool
ended_in (told _) = false
ended_in (idled _ e) = e
ended_in (settled _ e) = e
ended_in unsettled = false

-- The words that a call made: the charge, if it is an accepted make.
abbrev pub price : Meaning → Ask → ℕ
price m (call c) = paid m.charges c
price m (idle _) = 0
price m (settle _) = 0

abbrev pub if_gave : Said → ℕ → ℕ
if_gave (told (gave _)) w = w
if_gave (told (refused _)) w = 0
if_gave (idled _ _) w = 0
if_gave (settled _ _) w = 0
if_gave unsettled w = 0

abbrev pub words_in : Moment → ℕ
words_in e = if_gave e.said (price e.before.heap e.ask)

abbrev pub steps_of : List Moment → ℕ
steps_of [] = 0
steps_of (e ∷ es) = steps_in e.said + steps_of es

abbrev pub words_of : List Moment → ℕ
words_of [] = 0
words_of (e ∷ es) = words_in e + words_of es

-- No call of the list told of a cycle's end; the last one did, and none before.
abbrev pub Unended : List Moment → Type 0
Unended [] = Unit {0}
Unended (e ∷ es) = (ended_in e.said ≡ false) × Unended es

abbrev pub Ends : Moment → List Moment → Type 0
Ends e [] = ended_in e.said ≡ true
Ends e (f ∷ es) = (ended_in e.said ≡ false) × Ends f es

-- The list is empty, or its last call told of an end.
abbrev pub Closed : List Moment → Type 0
Closed [] = Unit {0}
Closed (e ∷ []) = ended_in e.said ≡ true
Closed (e ∷ (f ∷ es)) = Closed (f ∷ es)

-- No call of the list made a step.
abbrev pub Still : List Moment → Type 0
Still [] = Unit {0}
Still (e ∷ es) = (steps_in e.said ≡ 0) × Still es

-- A cycle of a history, ended or so far: after the end before it, or the opening, come calls without a step, then the call
-- that makes the start, then others up to the one that tells of the end, or up to where one looks.
pub record Cycle (all : List Moment) : Type 0 where
  pub earlier : List Moment
  pub waiting : List Moment
  pub first : Moment
  pub during : List Moment
  pub later : List Moment
  pub parts : all ≡ earlier ++ (waiting ++ (first ∷ (during ++ later)))
  pub closed : Closed earlier
  pub still : Still waiting
  pub starts : 0 < steps_in first.said
  pub shape : Unended (first ∷ during) ⊎ Ends first during

abbrev pub final : Moment → List Moment → Moment
final e [] = e
final e (f ∷ es) = final f es

-- Every call that makes a step is, with what came before it, the last of a cycle so far.
abbrev pub Covered : List Moment → Type 0
Covered es = (xs : List Moment) (e : Moment) (ys : List Moment) → es ≡ xs ++ (e ∷ ys) → 0 < steps_in e.said → (c : Cycle es) × (c.earlier ++ (c.waiting ++ (c.first ∷ c.during)) ≡ xs ++ (e ∷ [])) × (c.later ≡ ys)

-- The first law: no cycle takes more than F + V steps, V the live words at its start.
abbrev pub Short : List Moment → Type 0
Short es = (c : Cycle es) → steps_of (c.first ∷ c.during) ≤ c.first.before.heap.fixed + live_words c.first.before.heap

-- The second law: at the end of a cycle the words in use are at most V and the words made since its start.
abbrev pub Freed : List Moment → Type 0
Freed es = (c : Cycle es) → Ends c.first c.during → in_use (final c.first c.during).after.heap ≤ live_words c.first.before.heap + words_of c.during

-- Rounded up.
abbrev pub quotient : ℕ → ℕ → ℕ
quotient a r = (a + (r - 1)) / r

abbrev pub Each : (Moment → Type 0) → List Moment → Type 0
Each P [] = Unit {0}
Each P (e ∷ es) = P e × Each P es

-- Live words never pass L.
abbrev pub Alive : State → List Moment → ℕ → Type 0
Alive s es L = (live_words s.heap ≤ L) × Each (λ e. live_words e.after.heap ≤ L) es

-- The capacity that the third law asks for.
abbrev pub enough_for : ℕ → ℕ → ℕ → ℕ → ℕ
enough_for F L M r = L + 2 * M + 2 * quotient (F + L) r

-- The three premises of the third law: live words never pass L, no kind's charge passes M, and the capacity is enough.
pub record Sized (s : State) (es : List Moment) (L M : ℕ) : Type 0 where
  pub alive : Alive s es L
  pub charged : (k : ℕ) → k < length s.heap.book → charge s.heap k ≤ M
  pub room : enough_for s.heap.fixed L M s.rate ≤ s.heap.capacity

abbrev pub Fits : Moment → Type 0
Fits e = (a k : ℕ) → e.ask ≡ call (make a k) → e.said ≢ told (refused 6)

-- The third law: no make is refused for want of space.
abbrev pub Roomy : State → List Moment → Type 0
Roomy s es = (L M : ℕ) → Sized s es L M → Each Fits es

-- The laws over a run, of which the first two speak of every call that made a step.
pub record Lawful (s : State) (es : List Moment) : Type 0 where
  pub covered : Covered es
  pub short : Short es
  pub freed : Freed es
  pub roomy : Roomy s es

-- They hold of every history of a new keeper, over every heap and every pacing.
abbrev pub Law : Type 0
Law = (s t : State) (es : List Moment) → Grounds s → New s → History s es t → Lawful s es

-- A worked example of the capacity: F 4, live words 10, charges up to 5, rate 4.
abbrev pub Example : Type 0
Example = enough_for 4 10 5 4 ≡ 28
