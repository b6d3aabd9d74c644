-- A fresh card is what its definition says: each part is built in place, and the channel is what `closed` ensures.
-- Assumes nothing.

use Rattle.card.proofs.Card.fresh.Goals as goal

pub returns : goal.returns
returns c = rw c.closed-channel.ensures
