-- The laws of the copying heap, gathered.
use Rattle.std.proofs.Common.{◌≡◌, ℕ, ◌<◌, true, eqb, get_or, sym, refl, ap, ◌∙◌, ap₂, arith}
use Rattle.std.proofs.lemmas.Bool.{eq-eqb}
use Rattle.graph.specs.Graph.{Record}
use Rattle.graph.specs.Calls as GC
use Rattle.graph.proofs.Laws.{answer_prune}
use Rattle.graph.proofs.Changes.{find_none}
use Rattle.semispace.specs.Words.{State, kind_at}
use Rattle.semispace.specs.Sound.{number, name}
use Rattle.semispace.specs.Graphs.{record_of, raw_of, graph_of, Whole}
use Rattle.semispace.specs.Callings.{held_at}
use Rattle.semispace.specs.Stands.{Stands}
use Rattle.semispace.proofs.Stepping.{step_sound}
use Rattle.semispace.proofs.Knowing.{step_known}
use Rattle.semispace.proofs.Whole.{raw_sound}
use Rattle.semispace.proofs.Seeing.{slot_named, object, sees, held_record, read_answer}
use Rattle.semispace.proofs.Slotting.{hold_accepted, drop_accepted, follow_accepted}
use Rattle.semispace.proofs.Fielding.{write_accepted, link_accepted}
use Rattle.semispace.proofs.Collecting.{step_means, idle_means}
use Rattle.semispace.proofs.MakeAccepted.{make_accepted}

answer_of : (s : State) → Whole s → (c : GC.Call) → GC.answer_in s.spare (graph_of s) c ≡ GC.answer_in s.spare (raw_of s) c
unfolding graph_of
answer_of s W c = answer_prune s.book s.spare (raw_of s) (raw_sound s W.sound W.known) c

look_full : (s : State) → (W : Whole s) → (a : ℕ) → a < s.count → 0 < get_or s.slots a 0 → GC.answer_in s.spare (graph_of s) (GC.look a) ≡ GC.known (number s (held_at s a)) (kind_at s (held_at s a))
look_full s W a l z =
    let v = sees s W.sound W.known a l z in
    answer_of s W (GC.look a) ∙ (ap (λ (r : Record). GC.known r.number r.kind) (held_record s W.sound W.known a l z) ∙ (parts (object s W.sound W.known a l z) ∙ ap₂ (λ n k. GC.known n k) (sym v.number) (sym v.kind)))
  where
    parts : (o : ℕ) → GC.known (record_of s o).number (record_of s o).kind ≡ GC.known (number s o) (kind_at s o)
    parts o = unfold record_of in refl

look_none : (s : State) → (W : Whole s) → (a : ℕ) → a < s.count → get_or s.slots a 0 ≡ 0 → GC.answer_in s.spare (graph_of s) (GC.look a) ≡ GC.known 0 0
look_none s W a l z =
    let n : get_or (raw_of s).slots a 0 ≡ 0 = slot_named s W.sound W.known a l ∙ none (get_or s.slots a 0) z in
    answer_of s W (GC.look a) ∙ ap (λ (r : Record). GC.known r.number r.kind) (find_none (raw_of s).records (get_or (raw_of s).slots a 0) (λ r i e. let g = ((raw_sound s W.sound W.known).given r i).0 in omega arith))
  where
    none : (r : ℕ) → r ≡ 0 → name s r ≡ 0
    none r z = unfold name in (let q : eqb r 0 ≡ true = eq-eqb r 0 z in rw q)

pub stands : Stands
stands = record {
  step = λ s W. (record { sound = step_sound s W.sound; known = step_known s W.sound W.known }, step_means s W.sound W.known);
  idle = λ n s W. idle_means n s W.sound W.known;
  hold = λ s W a b la lb. hold_accepted s W.sound W.known a b la lb;
  drop = λ s W a la. drop_accepted s W.sound W.known a la;
  follow = λ s W a i b m lb. follow_accepted s W.sound W.known a i b m.slot lb m.full m.below m.fits;
  write = λ s W a i w m. write_accepted s W.sound W.known a i w m.slot m.full m.below m.fits;
  link = λ s W a i b m lb. link_accepted s W.sound W.known a i b m.slot lb m.full m.below m.fits;
  read = λ s W a i m. answer_of s W (GC.read a i) ∙ ap GC.word (read_answer s W.sound W.known a m.slot m.full i m.below m.fits);
  look = look_full;
  look_empty = look_none;
  make = λ s W a k la k16 kk fits. make_accepted s W.sound W.known a k k16 kk fits la;
}
