-- Each slot's key has the length of a key: one slot more.
-- Assumes nothing.
use Rattle.std.proofs.Common.{rules, arith, ◌≡◌, length}
use Rattle.card.specs.State.{slot_count}
use Rattle.card_types.proofs.ShapeFacts.{keys-suc}
use Rattle.card_types.proofs.slots_shaped.Goals as goal

pub loop-slot-preserved : goal.loop-slot-preserved
loop-slot-preserved c =
    let long : length c.args.slots ≡ slot_count = search rules in
    keys-suc c.args.slots c.loop-slot.slot-index _ (omega arith) c.loop-slot.invariant c.slot_shaped.ensures
