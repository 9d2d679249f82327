-- Worked examples: at rate 3, for four words made.
use Rattle.std.specs.Prelude.{◌≡◌}
use Rattle.pacing.specs.Paces.{missing}

pub record Examples : Type 0 where
  pub enough : missing 3 12 4 ≡ 0
  pub one : missing 3 11 4 ≡ 1
