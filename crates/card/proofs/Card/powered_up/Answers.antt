-- A card at power-up is what its definition says: the pairing is replaced, and `close` closes the channel.
-- Assumes nothing.

use Rattle.card.proofs.Card.powered_up.Goals as goal

pub returns : goal.returns
returns c = rw c.close.ensures
