-- Lists of calls that are played on a keeper, and the history that they make.
use Rattle.std.specs.Prelude.{◌≡◌, ℕ, cond, List, [], ◌∷◌, ◌++◌, length, Some, None, Option, nat_lt, slice_index}
use Rattle.std.specs.List.{remove}
use Rattle.kinds.specs.Refusals.{code}
use Rattle.graph.specs.Calls.{make, read, write, follow, link, hold, drop, look, spare, done, word, known}
use Rattle.graph.specs.Meaning.{Opened, gave, refused}
use Rattle.keeper.specs.declared.orders.Order.{Order}
use Rattle.keeper.specs.declared.orders.Order.TheVariants.{Make, Read, Write, Follow, Link, Hold, Drop, Look, Spare, Idle, Settle}
use Rattle.keeper.specs.declared.orders.Reply.{Reply}
use Rattle.keeper.specs.declared.orders.Reply.TheVariants.{Done, Word, Known, Refused, Idled, Settled, NotSettled, NoCall}
use Rattle.keeper.specs.Keeping.{State, Ask, call, idle, settle, Said, told, idled, settled, unsettled, Event}
use Rattle.keeper.specs.Holding.{over}
use Rattle.keeper.specs.History.{Moment, History, Lawful}

-- The call that an order stands for, where these numbers are on the bills held: a settle names one of them by its place,
-- and is no call where there is none.
abbrev pub asked : Order → List ℕ → Option Ask
asked (Make a k) held = Some (call (make a k))
asked (Read a i) held = Some (call (read a i))
asked (Write a i w) held = Some (call (write a i w))
asked (Follow a i b) held = Some (call (follow a i b))
asked (Link a i b) held = Some (call (link a i b))
asked (Hold a b) held = Some (call (hold a b))
asked (Drop a) held = Some (call (drop a))
asked (Look a) held = Some (call (look a))
asked Spare held = Some (call spare)
asked (Idle n) held = Some (idle n)
asked (Settle i) held = cond (nat_lt i (length held)) (Some (settle (slice_index held i))) None

-- What a reply says, in the state that the call left; that there was no call says nothing.
abbrev pub said_by : Reply → State → Option Said
said_by Done t = Some (told (gave done))
said_by (Word w) t = Some (told (gave (word w)))
said_by (Known n k) t = Some (told (gave (known n k)))
said_by (Refused e) t = Some (told (refused (code e)))
said_by (Idled n e) t = Some (idled n e)
said_by (Settled n) t = Some (settled n (over n t))
said_by NotSettled t = Some unsettled
said_by NoCall t = None

-- The bills held after an order: a make's joins at the end, a settled one is gone, one handed back goes to the end.
abbrev pub made_held : Reply → List ℕ → List ℕ
made_held Done held = held
made_held (Word n) held = held ++ (n ∷ [])
made_held (Known _ _) held = held
made_held (Refused _) held = held
made_held (Idled _ _) held = held
made_held (Settled _) held = held
made_held NotSettled held = held
made_held NoCall held = held

abbrev pub settled_held : Reply → ℕ → List ℕ → List ℕ
settled_held Done i held = held
settled_held (Word _) i held = held
settled_held (Known _ _) i held = held
settled_held (Refused _) i held = held
settled_held (Idled _ _) i held = held
settled_held (Settled _) i held = remove held i
settled_held NotSettled i held = remove held i ++ (slice_index held i ∷ [])
settled_held NoCall i held = held

abbrev pub held_after : List ℕ → Order → Reply → List ℕ
held_after held (Make a k) r = made_held r held
held_after held (Read a i) r = held
held_after held (Write a i w) r = held
held_after held (Follow a i b) r = held
held_after held (Link a i b) r = held
held_after held (Hold a b) r = held
held_after held (Drop a) r = held
held_after held (Look a) r = held
held_after held Spare r = held
held_after held (Idle n) r = held
held_after held (Settle i) r = settled_held r i held

abbrev pub Taken : Option Ask → Option Said → State → State → Type 0
Taken (Some c) (Some x) s t = Event s c x t
Taken (Some c) None s t = ⊥
Taken None (Some x) s t = ⊥
Taken None None s t = t ≡ s

-- Orders one after the other, with what each came to: from a state and the bills held to a state and the bills held then,
-- with the history of those that are calls.
pub data Played : State → List ℕ → List Order → List Reply → List Moment → State → List ℕ → Type 0 where
  none : {s : State} {held : List ℕ} → Played s held [] [] [] s held
  made : {s u t : State} {held left : List ℕ} {o : Order} {w : Reply} {c : Ask} {x : Said} {os : List Order} {ws : List Reply} {es : List Moment} → asked o held ≡ Some c → said_by w u ≡ Some x → Event s c x u → Played u (held_after held o w) os ws es t left → Played s held (o ∷ os) (w ∷ ws) (record { before = s; ask = c; said = x; after = u } ∷ es) t left
  passed : {s t : State} {held left : List ℕ} {o : Order} {w : Reply} {os : List Order} {ws : List Reply} {es : List Moment} → asked o held ≡ None → said_by w s ≡ None → Played s (held_after held o w) os ws es t left → Played s held (o ∷ os) (w ∷ ws) es t left

-- The played calls form a history of the keeper from its setting up to its state at the end, and where its heap was just opened,
-- the laws hold of it.
pub record Ran (s : State) (held : List ℕ) (os : List Order) (ws : List Reply) (t : State) (left : List ℕ) : Type 0 where
  pub moments : List Moment
  pub played : Played s held os ws moments t left
  pub history : History s moments t
  pub lawful : (first : ℕ) → Opened first s.heap → Lawful s moments
