-- Each slot's key has the length of a key. Invariant: so have the slots passed.
-- Assumes nothing.
use Rattle.card_types.proofs.slots_shaped.Given as goal
use Rattle.std.proofs.Common.{take}
use Rattle.card.specs.Shape.{KeysLong}

abbrev pub invariant-loop-slot : goal.invariant-loop-slot
invariant-loop-slot l = KeysLong (take l.slot-index l.slot-items)
