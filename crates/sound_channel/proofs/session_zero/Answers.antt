-- The test is the definition, line by line: the answers of the tests that it calls are put in their places.
-- Assumes nothing.

use Rattle.sound_channel.proofs.session_zero.Goals as goal

pub returns : goal.returns
returns c = rw (c.zero_from.ensures, c.zero_from-2.ensures, c.zero_from-3.ensures)
