-- What a call that is not refused finds.
use Rattle.std.proofs.Common.{◌≡◌, ℕ, suc, ◌≤◌, Bool, true, false, cond, List, length, get_or, refl, arith}
use Rattle.std.proofs.lemmas.Bool.{leb-false}
use Rattle.kinds.specs.Shapes.{Shape}
use Rattle.graph.specs.Graph.{Graph}
use Rattle.graph.specs.Calls.{Call, make, read, write, follow, link, hold, drop, look, spare, no_slot, refusal_in}
use Rattle.graph.specs.Sound.{Slot, Allowed}
use Rattle.std.proofs.lemmas.Grind.{common_steps}

-- the first test that holds decides
pass : (b : Bool) (n rest : ℕ) → cond b (suc n) rest ≡ 0 → (b ≡ false) × (rest ≡ 0)
pass true n rest e = absurd (omega arith)
pass false n rest e = (refl, e)

slot_from : (g : Graph) (a : ℕ) → no_slot g a ≡ false → Slot g a
slot_from g a h = leb-false (length g.slots) a h

module _ (book : List Shape) (cs : List ℕ) (left : ℕ) (g : Graph) where
  -- A make that is not refused has its charge and a number.
  pub make_room : (a k : ℕ) → refusal_in book cs left g (make a k) ≡ 0 → (get_or cs k 0 ≤ left) × (g.next ≤ 4294967295)
  make_room a k h = grind (arith, common_steps)

  pub accepted : (c : Call) → refusal_in book cs left g c ≡ 0 → Allowed book g c
  accepted (make a k) h = grind (arith, common_steps)
  accepted (read a i) h = grind (arith, common_steps)
  accepted (write a i w) h = grind (arith, common_steps)
  accepted (follow a i b) h = grind (arith, common_steps)
  accepted (link a i b) h = grind (arith, common_steps)
  accepted (hold a b) h = grind (arith, common_steps)
  accepted (drop a) h = slot_from g a (pass (no_slot g a) 0 _ h).0
  accepted (look a) h = slot_from g a (pass (no_slot g a) 0 _ h).0
  accepted spare h = tt
