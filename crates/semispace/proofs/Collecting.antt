-- Every step keeps the meaning and comes nearer to the end; so does an idle, step by step.
use Rattle.std.proofs.Common.{rules, ◌≡◌, ℕ, zero, suc, ◌+◌, ◌<◌, ◌≤◌, true, false, ltb, sym, refl, subst, arith}
use Rattle.graph.specs.Cycle.{Step, Idled, stop, last, more}
use Rattle.semispace.specs.declared.collector.Collector.{Collector}
use Rattle.semispace.specs.declared.collector.Collector.TheVariants.{Rest, Slots, Scan, Field}
use Rattle.semispace.specs.Words.{State, set_halves, passed, opened, made, fitting, fitting_field, stepped, swapped, finished, set_collector, resting, next_place, idle_made, idle_ended, idle_state}
use Rattle.semispace.specs.Sound.{Sound}
use Rattle.semispace.specs.declared.collector.Transition.{Transition}
use Rattle.semispace.specs.declared.collector.Transition.TheVariants.{Open, Done}
use Rattle.semispace.specs.Dues.{slots_left, fields_left, due}
use Rattle.semispace.specs.Graphs.{graph_of, Known}
use Rattle.semispace.specs.Collected.{meaning_of}
use Rattle.semispace.proofs.Spreads.{by_bool, total_append, placed_within}
use Rattle.semispace.proofs.Ends.{done_sound, news_start}
use Rattle.semispace.proofs.Like.{Like}
use Rattle.semispace.proofs.Stepping.{step_sound}
use Rattle.semispace.proofs.StepLike.{passed_like, opened_like, field_step_like}
use Rattle.semispace.proofs.Knowing.{known_apart, known_begun, step_known}
use Rattle.semispace.proofs.Graphing.{graph_like, graph_begun}
use Rattle.semispace.proofs.Gaining.{due_is, Gain, passed_gain}
use Rattle.semispace.proofs.Progress.{field_gain, open_gain}
use Rattle.semispace.proofs.Bounding.{kept_rest, done_gain, kept_live, pending_kept}
use Rattle.semispace.proofs.Finishing.{graph_done}

pub spare_fits : (s : State) → Sound s → s.spare ≤ s.halves.size
spare_fits s S = grind (arith)

pub due_rest : (s : State) → resting s.collector ≡ true → due s ≡ 0
unfolding due
due_rest s r = rw r

pub due_going : (s : State) → resting s.collector ≡ false → 0 < due s
due_going s r = let a = due_is s r in omega arith

-- A step within a cycle.
pub step_like : (s t : State) → Sound s → Sound t → resting s.collector ≡ false → Like s t → Gain s t → Step (meaning_of s) (meaning_of t)
step_like s t S T g L G = search (rules, arith, due_going, graph_like, spare_fits)

pub step_done : (s : State) (S : Sound s) (K : Known s) (at : ℕ) (is : s.collector ≡ Scan at) (over : ltb at (next_place s) ≡ false) → Step (meaning_of s) (meaning_of (finished s))
step_done s S K at is over = search (rules, arith, due_going, done_gain, done_sound, kept_rest, placed_within, total_append, graph_done, spare_fits)

pub step_start : (s : State) (S : Sound s) (K : Known s) (is : s.collector ≡ Rest) (c : Collector) (going_c : resting c ≡ false) (few : slots_left (set_collector (set_halves s (swapped s.halves)) c) c + fields_left (set_collector (set_halves s (swapped s.halves)) c) c ≤ s.count) (T : Sound (set_collector (set_halves s (swapped s.halves)) c)) → Step (meaning_of s) (meaning_of (set_collector (set_halves s (swapped s.halves)) c))
step_start s S K is c going_c few T = search (rules, arith, known_begun, due_is, news_start, graph_begun, kept_live, pending_kept, due_rest, spare_fits)

module _ (s : State) (S : Sound s) (K : Known s) where
  means_at : (c : Collector) → s.collector ≡ c → Sound (made s (fitting s c)) → Step (meaning_of s) (meaning_of (made s (fitting s c)))
  means_at Rest is = search (rules, arith, step_start)
  means_at (Slots n) is = λ T. step_like s (passed s n) S T (rw is) (passed_like s S n is) (passed_gain s S K n is)
  means_at (Scan at) is =
      let P : Transition → Type 0 = λ t. Sound (made s t) → Step (meaning_of s) (meaning_of (made s t)) in
      by_bool (ltb at (next_place s))
      (λ e. let q : fitting s (Scan at) ≡ Open at = rw e in subst P (sym q) (λ T. step_like s (opened s at) S T (rw is) (opened_like s S at is e) (open_gain s S K at is e)))
      (λ e. let q : fitting s (Scan at) ≡ Done = rw e in subst P (sym q) (λ T. step_done s S K at is e))
  means_at (Field c) is = λ T. step_like s (made s (fitting_field s c)) S T (rw is) (field_step_like s S (known_apart s K (rw is)) c.at c.from c.field is) (field_gain s S K c.at c.from c.field is)

  -- A step is a step of the meaning.
  pub step_means : Step (meaning_of s) (meaning_of (stepped s))
  step_means = means_at s.collector refl (step_sound s S)

  pub step_graph : graph_of (stepped s) ≡ graph_of s
  step_graph = step_means.graph

pub idle_means : (n : ℕ) (s : State) → Sound s → Known s → Idled (meaning_of s) n (idle_made n s) (idle_ended n s) (meaning_of (idle_state n s))
unfolding idle_made idle_ended idle_state
idle_means zero s S K = stop
idle_means (suc n) s S K =
    let m = step_means s S K in
    by_bool (resting (stepped s).collector)
    (λ e. rw e (last m (due_rest (stepped s) e)))
    (λ e. rw e (more m (due_going (stepped s) e) (idle_means n (stepped s) (step_sound s S) (step_known s S K))))
