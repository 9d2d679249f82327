-- An accepted call of a copying heap whose words are those of its definition: what holds of the heap after it.
use Rattle.std.proofs.Common.{◌≡◌}
use Rattle.graph.specs.Calls.{Call, Answer}
use Rattle.graph.specs.Meaning.{refusal, gave, Called}
use Rattle.kinds.proofs.Sealed.{few_kinds}
use Rattle.semispace.specs.View.{view}
use Rattle.semispace.specs.Words.{State}
use Rattle.semispace.specs.Graphs.{Whole}
use Rattle.semispace.specs.Collected.{meaning_of}
use Rattle.semispace.specs.Callings.{words_after, words_answer}
use Rattle.semispace.proofs.Answering.{after_whole, after_called}
use Rattle.copying.specs.declared.heap.Copying.{Copying}

module _ (h : Copying) {t : State} (c : Call) (allowed : refusal (meaning_of (view h.store)) c ≡ 0) where
  pub kept : t ≡ words_after (view h.store) c → ∥ Whole t ∥₁
  kept e = after_whole (view h.store) h.whole (few_kinds h.store.book) t c allowed e

  pub called : (x : Answer) → x ≡ words_answer (view h.store) c → t ≡ words_after (view h.store) c → Called (meaning_of (view h.store)) c (gave x) (meaning_of t)
  called x a e = after_called (view h.store) h.whole (few_kinds h.store.book) t c x allowed a e
