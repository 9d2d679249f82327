-- The numbers on bills, and what playing a list gives.
use Rattle.std.specs.Prelude.{◌≡◌, ℕ, ◌+◌, ◌≤◌, List, map, Ok, Err, vec_items, vec_len, vec_capacity, Result, Vec}
use Rattle.std.specs.declared.alloc.Global.{Global}
use Rattle.kinds.specs.declared.refusal.Refusal.{Refusal}
use Rattle.graph.specs.declared.heap.Heap
use Rattle.pacing.specs.declared.pace.Pacing
use Rattle.keeper.specs.declared.keeper.Bill.{Bill}
use Rattle.keeper.specs.declared.orders.Order.{Order}
use Rattle.keeper.specs.declared.orders.Reply.{Reply}
use Rattle.keeper.specs.declared.orders.Reply.TheVariants.{Refused}
use Rattle.keeper.specs.declared.play.Run.{Run}
use Rattle.keeper.specs.declared.play.player.Player.{Player}
use Rattle.keeper.specs.declared.play.Unplayed.{Unplayed}
use Rattle.keeper.specs.Holding.{state, fresh}
use Rattle.keeper.specs.Play.{asked, said_by, held_after, Taken, Ran}

abbrev pub number : Bill → ℕ
number b = b.number

abbrev pub numbers : Vec Bill Global → List ℕ
numbers v = map number (vec_items v)

-- The reply of a call that may be refused.
abbrev pub reply_of : Result Reply Refusal → Reply
reply_of (Ok w) = w
reply_of (Err e) = Refused e

module _ {H P : Type 0} (h : Heap.Ghosts H) (p : Pacing.Ghosts P) where
  -- What an order does, with its reply: the call that it stands for, if it is one, and to the bills held what it makes of them. Their
  -- room stays, and at most one of them is new.
  pub record Obeyed (a : Player H P) (o : Order) (w : Reply) (b : Player H P) : Type 0 where
    pub did : Taken (asked o (numbers a.bills)) (said_by w (state h p b.keeper)) (state h p a.keeper) (state h p b.keeper)
    pub held : numbers b.bills ≡ held_after (numbers a.bills) o w
    pub cap : vec_capacity b.bills ≡ vec_capacity a.bills
    pub len : vec_len b.bills ≤ vec_len a.bills + 1

  -- What playing gives: the history of a keeper set up on the heap and the pacing, with the replies and the bills that are left;
  -- or, for want of memory, heap, pacing and bills as they were.
  abbrev pub Playing : H → P → Vec Bill Global → List Order → Run H P → Type 0
  Playing heap pacing strays os r = Ran (fresh h p heap pacing) (numbers strays) os (vec_items r.replies) (state h p r.keeper) (numbers r.bills)

  abbrev pub Outcome : H → P → Vec Bill Global → List Order → Result (Run H P) (Unplayed H P) → Type 0
  Outcome heap pacing strays os (Ok r) = Playing heap pacing strays os r
  Outcome heap pacing strays os (Err u) = (u.heap ≡ heap) × (u.pacing ≡ pacing) × (vec_items u.bills ≡ vec_items strays)
