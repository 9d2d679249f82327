-- The laws over runs, cited by the function whose contract they are and by the one that plays calls.
use Rattle.std.proofs.Common.{List}
use Rattle.keeper.specs.Keeping.{State}
use Rattle.keeper.specs.History.{Moment, History, New, Grounds, Lawful}
use Rattle.keeper.proofs.Cover.{covered}
use Rattle.keeper.proofs.Cycles.{short, freed}
use Rattle.keeper.proofs.Room.{roomy}

pub law : (s t : State) (es : List Moment) → Grounds s → New s → History s es t → Lawful s es
law s t es g n h = record { covered = covered es; short = short es n h; freed = freed es n h; roomy = roomy es g n h }
