-- The test is the definition, line by line: the answers of the tests that it calls are put in their places.
-- Assumes nothing.

use Rattle.sound_keys.proofs.keys_sound.Goals as goal

pub returns : goal.returns
returns c = rw (c.path_sound.ensures, c.path_sound-2.ensures, c.zero_from-clear.ensures)
