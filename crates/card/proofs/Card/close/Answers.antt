-- The closed channel in the place of the card's own, and the PIN not verified.
-- Assumes nothing.

use Rattle.card.proofs.Card.close.Goals as goal

pub returns : goal.returns
returns c = rw c.closed-channel.ensures
