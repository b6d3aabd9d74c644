-- One slot is set in the pairing without a pending one.
-- Assumes nothing.

use Rattle.command_pair.proofs.filled_at.Goals as goal

pub returns : goal.returns
returns c = rw c.not_pending-next.ensures
