-- The test is the definition, line by line: the answers of the tests that it calls are put in their places.
-- Assumes nothing.

use Rattle.sound_channel.proofs.channel_blank.Goals as goal

pub returns : goal.returns
returns c = rw c.session_zero.ensures
