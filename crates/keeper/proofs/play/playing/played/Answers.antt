use Rattle.std.proofs.Common.{[], vec_items, ap, ◌∙◌, length, arith}
use Rattle.keeper.specs.History.{Grounds}
use Rattle.keeper.specs.Holding.{state, fresh}
use Rattle.keeper.specs.Play.{none}
use Rattle.keeper.specs.Bills.{numbers}
use Rattle.keeper.proofs.Plays.{next_order, all_orders}
use Rattle.keeper.proofs.play.playing.played.Goals as goal

pub loop-order-init : goal.loop-order-init
loop-order-init g c =
    (([], rw (c.requires.empty, c.new.ensures.holds) none), c.args.room.ok.0 ∙ ap length c.requires.empty, c.requires.replies, omega (arith, c.requires.bills))

pub loop-order-preserved : goal.loop-order-preserved
loop-order-preserved g c =
    let s = fresh g.H.Heap g.P.Pacing c.args.heap c.args.pacing in
    let u = state g.H.Heap g.P.Pacing c.loop-order.player.keeper in
    let t = state g.H.Heap g.P.Pacing c.obey.new.self.keeper in
    let i = c.loop-order.invariant in
    let p = c.push_reserved.ensures in
    let o = c.obey.ensures in (
      next_order s u t (numbers c.args.strays) (numbers c.loop-order.player.bills) (numbers c.obey.new.self.bills) c.args.orders.now (vec_items c.loop-order.replies) (vec_items c.push_reserved.new.self) c.loop-order.order-index _ c.obey.result c.loop-order-test.true p.items o.held i.0 o.did,
      omega (arith, p.len, i.1),
      rw p.capacity i.2,
      omega (arith, o.cap, o.len, i.3),
    )

pub returns : goal.returns
returns g c =
    let s = fresh g.H.Heap g.P.Pacing c.args.heap c.args.pacing in
    let t = state g.H.Heap g.P.Pacing c.loop-order.player.keeper in
    let grounds : Grounds s = record { bounded = g.H.Heap.bounded c.args.heap; some = g.met.P.Pacing.some c.args.pacing; few = g.met.P.Pacing.few c.args.pacing; enough = g.met.P.Pacing.enough c.args.pacing } in
    all_orders s t (numbers c.args.strays) (numbers c.loop-order.player.bills) c.args.orders.now (vec_items c.loop-order.replies) c.loop-order.order-index grounds
    (λ first o. rw c.new.ensures.holds at c.new.ensures.starts first o) c.loop-order-test.false c.loop-order.invariant.0
