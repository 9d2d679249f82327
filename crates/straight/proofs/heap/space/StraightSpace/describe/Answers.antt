use Rattle.std.proofs.Common.{◌≡◌, ◌<◌, refl, arith}
use Rattle.std.proofs.lemmas.Bool.Decides.{nat_tests}
use Rattle.graph.specs.Calls.{look, known}
use Rattle.straight.specs.Words.{reference, words_answer}
use Rattle.straight.specs.Stored.{state}
use Rattle.straight.proofs.Answering.{look_full}
use Rattle.straight.proofs.Called.{called}
use Rattle.straight.proofs.heap.space.StraightSpace.describe.Goals as goal

pub described-requires : goal.described-requires
described-requires c =
    let z : 0 < reference (state c.args.self.now.store) c.args.slot = omega (arith, c.get.ensures, c.if-get-eq0.false) in
    look_full (state c.args.self.now.store) c.args.self.now.whole c.args.slot c.requires z

pub returns-then-get-eq0 : goal.returns-then-get-eq0
returns-then-get-eq0 c =
    let a : known 0 0 ≡ words_answer (state c.args.self.now.store) (look c.args.slot) = grind (arith, nat_tests) in
    record { means = called c.args.self.now (look c.args.slot) c.requires (known 0 0) a refl; acts = (a, refl) }

pub returns : goal.returns
returns c =
    let x = c.described.result in
    let a : known x.0 x.1 ≡ words_answer (state c.args.self.now.store) (look c.args.slot) = grind (arith, nat_tests) in
    record { means = called c.args.self.now (look c.args.slot) c.requires (known x.0 x.1) a refl; acts = (a, refl) }
