-- The slots are read one by one. Invariant: those passed are the first of `slots_from`.
-- Assumes nothing.
use Rattle.record_spans.proofs.slots_from.Given as goal
use mathlib.Core.Path.{◌≡◌}
use Prim.Native.Nat.{◌*◌}
use lib.ListN.{length, take}
use Rattle.card.specs.Sizes.{slot_bytes, slot_count}
use Rattle.record_rules.specs.Parse.{slots_from}

abbrev pub invariant-loop-i : goal.invariant-loop-i
invariant-loop-i l = (length l.x ≡ slot_bytes * slot_count) × ((length l.slots ≡ slot_count) × (take l.i l.slots ≡ slots_from l.i l.x))
