use Rattle.std.proofs.Common.{◌≡◌, ◌+◌, ◌-◌}
use Rattle.semispace.specs.Words.{idle_made, idle_ended, idle_state}
use Rattle.semispace.specs.View.{view}
use Rattle.copying.proofs.heap.Copying.make_steps.Given as goal

abbrev pub invariant-loop-made : goal.invariant-loop-made
invariant-loop-made l = record {
  made : idle_made l.n (view l.initial.self.store) ≡ l.made + idle_made (l.n - l.made) (view l.self.store);
  ended : idle_ended l.n (view l.initial.self.store) ≡ idle_ended (l.n - l.made) (view l.self.store);
  after : idle_state l.n (view l.initial.self.store) ≡ idle_state (l.n - l.made) (view l.self.store);
}
