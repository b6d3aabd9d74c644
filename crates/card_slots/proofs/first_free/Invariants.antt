-- The search gives the first free slot. Invariant: none is found yet, and no slot seen is free.
-- Assumes nothing.
use Rattle.std.proofs.Common.{◌≡◌, ◌<◌, get_or, ℕ, None}
use Rattle.card.specs.State.{free_slot}
use Rattle.card_slots.proofs.first_free.Given as goal

abbrev pub invariant-loop-i : goal.invariant-loop-i
invariant-loop-i l = (l.found ≡ None) × ((k : ℕ) → k < l.i → (get_or l.slot-items k free_slot).filled ≡ 0 → ⊥)
