-- The slots are those of the call.
-- Assumes nothing.

use Rattle.command_unpair.proofs.with_free.Goals as goal

pub returns : goal.returns
returns c = rw c.freed-next.ensures
