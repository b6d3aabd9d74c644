-- Past the slots nothing changes.
-- Assumes nothing.
use Rattle.std.proofs.Common.{rules}
use mathlib.Core.Path.{◌≡◌}
use native.Mathlib.Omega.{arith}
use lib.ListN.{length}
use Rattle.card.specs.State.{slot_count}
use Rattle.command_unpair.proofs.SlotFacts.{set_past}
use Rattle.command_unpair.proofs.freed.Goals as goal

pub returns-else-i-lt-SLOTS : goal.returns-else-i-lt-SLOTS
returns-else-i-lt-SLOTS c = let l : length c.args.slots ≡ slot_count = search rules in
    set_past c.args.slots _ _ (omega (arith, l, c.if-i-lt-SLOTS.false))
