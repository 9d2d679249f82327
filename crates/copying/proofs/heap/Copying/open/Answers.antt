use Rattle.std.proofs.Common.{length, sym, ap, ◌∙◌, subst}
use Rattle.kinds.specs.Books.{kinds_of}
use Rattle.graph.specs.Meaning.{Opened}
use Rattle.semispace.specs.Words.{State}
use Rattle.semispace.specs.Graphs.{Whole}
use Rattle.semispace.specs.Collected.{meaning_of}
use Rattle.semispace.specs.Opening.{opening_refusal}
use Rattle.semispace.proofs.Opened.{opened_whole, opened_means, opened_opened, sized}
use Rattle.copying.proofs.heap.Copying.open.Goals as goal

pub invariant_of-result : goal.invariant_of-result
invariant_of-result c = record { whole = ∣ subst Whole (sym c.open.ensures) (opened_whole c.args.memory.now c.args.slots (kinds_of c.args.book) c.args.first) ∣₁ }

pub returns : goal.returns
returns c =
    let e = c.open.ensures in
    let m = c.args.memory.now in
    let b = kinds_of c.args.book in
    record {
      state = e;
      means = ap meaning_of e ∙ opened_means m c.args.slots b c.args.first;
      opened = subst (λ (s : State). Opened c.args.first (meaning_of s)) (sym e) (opened_opened m c.args.slots b c.args.first);
      question = ap opening_refusal e ∙ (sized (length m) c.args.slots c.args.first).answers;
    }
