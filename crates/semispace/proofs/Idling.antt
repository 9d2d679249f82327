-- The steps of an idle, one at a time.
use Rattle.std.proofs.Common.{rules, ◌≡◌, ℕ, suc, ◌+◌, ◌-◌, ◌<◌, ◌≤◌, true, false, refl, arith}
use Rattle.semispace.specs.Words.{State, stepped, resting, idle_made, idle_ended, idle_state}

module _ (n m : ℕ) (s t : State) (l : m < n) (e : t ≡ stepped s) where
  pub idle_stop : resting t.collector ≡ true → (idle_made (n - m) s ≡ 1) × (idle_ended (n - m) s ≡ true) × (idle_state (n - m) s ≡ t)
  unfolding idle_made idle_ended idle_state
  idle_stop r0 = search (rules, arith)

  pub idle_go : resting t.collector ≡ false → (idle_made (n - m) s ≡ suc (idle_made (n - (m + 1)) t)) × (idle_ended (n - m) s ≡ idle_ended (n - (m + 1)) t) × (idle_state (n - m) s ≡ idle_state (n - (m + 1)) t)
  unfolding idle_made idle_ended idle_state
  idle_go r0 = search (rules, arith)

pub idle_none : (n m : ℕ) (s : State) → n ≤ m → (idle_made (n - m) s ≡ 0) × (idle_ended (n - m) s ≡ false) × (idle_state (n - m) s ≡ s)
unfolding idle_made idle_ended idle_state
idle_none n m s l = let q : n - m ≡ 0 = omega arith in rw q (refl, refl, refl)
