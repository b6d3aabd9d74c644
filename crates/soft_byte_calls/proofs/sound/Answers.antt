-- The test on the card whose bytes are given.
-- Assumes nothing.

use Rattle.soft_byte_calls.proofs.sound.Goals as goal

pub returns : goal.returns
returns c = rw (← c.card_of-found.ensures.1) c.sound.ensures
