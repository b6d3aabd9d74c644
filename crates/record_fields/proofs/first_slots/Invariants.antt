-- The content of the first slots. Invariant: what is written is the content of the slots passed.
-- Assumes nothing.
use Rattle.record_fields.proofs.first_slots.Given as goal
use mathlib.Core.Path.{◌≡◌}
use Prim.Native.Nat.{◌*◌}
use lib.ListN.{length, take}
use Rattle.card.specs.Sizes.{slot_bytes, slot_count}
use Rattle.record_rules.specs.Fields.{slots_bytes}

abbrev pub invariant-loop-i : goal.invariant-loop-i
invariant-loop-i l = (length l.slots ≡ slot_count) × ((length l.out ≡ slot_bytes * slot_count) × (take (slot_bytes * l.i) l.out ≡ slots_bytes (take l.i l.slots)))
