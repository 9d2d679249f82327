use Rattle.std.proofs.Common.{◌≤◌, length, sym, ap, ◌∙◌, subst, arith}
use Rattle.kinds.proofs.Sealed.{few_kinds}
use Rattle.kinds.specs.Books.{kinds_of}
use Rattle.graph.specs.Meaning.{Opened}
use Rattle.straight.specs.Words.{State}
use Rattle.straight.specs.Whole.{Whole}
use Rattle.straight.specs.Layout.{meaning_of}
use Rattle.straight.specs.Opening.{opening_refusal}
use Rattle.straight.proofs.Openings.{opened_whole, opened_means, opened_opened, sized}
use Rattle.straight.proofs.heap.Straight.open.Goals as goal

pub invariant_of-result : goal.invariant_of-result
invariant_of-result c =
    let few : length (kinds_of c.args.book) ≤ 16 = few_kinds c.args.book in
    let small : c.args.first ≤ 4294967296 = omega arith in
    record { whole = ∣ subst Whole (sym c.open.ensures) (opened_whole c.args.memory.now c.args.slots (kinds_of c.args.book) c.args.first few small) ∣₁ }

pub returns : goal.returns
returns c =
    let e = c.open.ensures in
    let m = c.args.memory.now in
    let b = kinds_of c.args.book in
    record {
      state = e;
      means = ap meaning_of e ∙ opened_means m c.args.slots b c.args.first;
      opened = subst (λ (s : State). Opened c.args.first (meaning_of s)) (sym e) (opened_opened m c.args.slots b c.args.first);
      question = ap opening_refusal e ∙ (sized (length m) c.args.slots c.args.first).answers;
    }
