-- A slot that is set where none is.
-- Assumes nothing.
use mathlib.Core.Path.{◌≡◌, refl, ap}
use mathlib.Core.List.{List, [], ◌∷◌}
use Prim.Native.Nat.{ℕ, zero, suc, ◌≤◌}
use native.Mathlib.Nat.{not-suc-le-zero, le_of_suc-le-suc}
use lib.ListN.{length, set}
use Rattle.card.specs.declared.Slot.{Slot}

-- ---- set: past the end it changes nothing
pub set_past : (s : List Slot) (i : ℕ) (x : Slot) → length s ≤ i → s ≡ set s i x
set_past [] i x h = refl
set_past (y ∷ s) zero x h = absurd (not-suc-le-zero h)
set_past (y ∷ s) (suc i) x h = ap {B = List Slot} (λ r. y ∷ r) (set_past s i x (le_of_suc-le-suc h))
