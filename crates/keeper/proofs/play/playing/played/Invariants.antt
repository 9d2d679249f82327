use Rattle.std.proofs.Common.{◌≡◌, ◌+◌, ◌≤◌, List, length, take, vec_items, vec_len, vec_capacity}
use Rattle.keeper.specs.Holding.{state, fresh}
use Rattle.keeper.specs.History.{Moment}
use Rattle.keeper.specs.Play.{Played}
use Rattle.keeper.specs.Bills.{numbers}
use Rattle.keeper.proofs.play.playing.played.Given as goal

abbrev pub invariant-loop-order : goal.invariant-loop-order
invariant-loop-order g l =
    ((es : List Moment) × Played (fresh g.H.Heap g.P.Pacing l.fn.heap l.fn.pacing) (numbers l.fn.strays) (take l.order-index l.orders) (vec_items l.replies) es (state g.H.Heap g.P.Pacing l.player.keeper) (numbers l.player.bills))
    × (vec_len l.replies ≡ l.order-index)
    × (length l.orders ≤ vec_capacity l.replies)
    × (vec_len l.player.bills + length l.orders ≤ vec_capacity l.player.bills + l.order-index)
