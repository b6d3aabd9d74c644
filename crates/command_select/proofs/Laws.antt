-- A law of SELECT: there are at most as many free slots as slots.
-- Assumes nothing.
use mathlib.Core.Bool.{Bool, true, false, cond}
use mathlib.Core.List.{List, [], ◌∷◌}
use Prim.Native.Nat.{suc, ◌+◌, ◌≤◌}
use native.Mathlib.Omega.{arith}
use lib.ListN.{length}
use Rattle.card.specs.declared.Slot.{Slot}
use Rattle.card.specs.Slots.{is_free}
use Rattle.rules.specs.Commands.{free_slots}

-- ---- free_slots: at most the number of slots
pub free-at-most : (s : List Slot) → free_slots s ≤ length s
unfolding free_slots
free-at-most [] = omega arith
free-at-most (x ∷ s) = by_flag (free-at-most s) (is_free x)
  where
    by_flag : free_slots s ≤ length s → (b : Bool) → cond b (1 + free_slots s) (free_slots s) ≤ suc (length s)
    by_flag h true = omega arith
    by_flag h false = omega arith
