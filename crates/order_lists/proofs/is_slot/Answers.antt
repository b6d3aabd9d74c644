-- The index is compared with the number of slots.
-- Assumes nothing.

use Rattle.order_lists.proofs.is_slot.Goals as goal

pub returns : goal.returns
returns c = rw c.wide-slot.ensures
