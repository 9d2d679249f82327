use Rattle.std.proofs.Common.{arith}
use Rattle.keeper.proofs.together.make_and_settle.Goals as goal

pub returns : goal.returns
returns g c =
    let made = c.in_ok-number.ensures in
    record {
      between = c.make.new.self;
      made = made.event;
      settled = rw (← made.paired) (rw c.unwrap-steps.ensures at c.settle.ensures.event);
      made_acts = grind arith;
      settled_acts = rw c.unwrap-steps.ensures at c.settle.ensures.acts;
    }
