use Rattle.std.proofs.Common.{◌≡◌, ◌<◌, get_or, refl, arith}
use Rattle.std.proofs.lemmas.Bool.Decides.{nat_tests}
use Rattle.graph.specs.Calls.{look, known}
use Rattle.semispace.specs.Callings.{words_answer}
use Rattle.semispace.specs.View.{view}
use Rattle.semispace.proofs.Answering.{look_full}
use Rattle.copying.proofs.Called.{called}
use Rattle.copying.proofs.heap.space.CopyingSpace.describe.Goals as goal

pub described-requires : goal.described-requires
described-requires c =
    let z : 0 < get_or (view c.args.self.now.store).slots c.args.slot 0 = omega (arith, c.slot.ensures, c.if-slot-eq0.false) in
    let f = look_full (view c.args.self.now.store) c.args.self.now.whole c.args.slot c.requires z in
    record { full = f.0; numbered = f.1 }

pub returns-then-slot-eq0 : goal.returns-then-slot-eq0
returns-then-slot-eq0 c =
    let a : known 0 0 ≡ words_answer (view c.args.self.now.store) (look c.args.slot) = grind (arith, nat_tests) in
    record { means = called c.args.self.now (look c.args.slot) c.requires (known 0 0) a refl; acts = (a, refl) }

pub returns : goal.returns
returns c =
    let x = c.described.result in
    let a : known x.0 x.1 ≡ words_answer (view c.args.self.now.store) (look c.args.slot) = grind (arith, nat_tests) in
    record { means = called c.args.self.now (look c.args.slot) c.requires (known x.0 x.1) a refl; acts = (a, refl) }
