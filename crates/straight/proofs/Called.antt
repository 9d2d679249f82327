-- An accepted call of a straight heap whose words are those of its definition: what holds of the heap after it.
use Rattle.std.proofs.Common.{◌≡◌}
use Rattle.graph.specs.Calls.{Call, Answer}
use Rattle.graph.specs.Meaning.{refusal, gave, Called}
use Rattle.straight.specs.Stored.{state}
use Rattle.straight.specs.Words.{State, words_after, words_answer}
use Rattle.straight.specs.Layout.{meaning_of}
use Rattle.straight.specs.Whole.{Whole}
use Rattle.straight.specs.declared.heap.Straight.{Straight}
use Rattle.straight.proofs.Answering.{after_whole, after_called}

module _ (h : Straight) {t : State} (c : Call) (allowed : refusal (meaning_of (state h.store)) c ≡ 0) where
  pub kept : t ≡ words_after (state h.store) c → ∥ Whole t ∥₁
  kept e = after_whole (state h.store) h.whole t c allowed e

  pub called : (x : Answer) → x ≡ words_answer (state h.store) c → t ≡ words_after (state h.store) c → Called (meaning_of (state h.store)) c (gave x) (meaning_of t)
  called x a e = after_called (state h.store) h.whole t c x allowed a e
