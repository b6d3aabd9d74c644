-- The test is the definition, line by line: the answers of the tests that it calls are put in their places.
-- Assumes nothing.

use Rattle.sound_keys.proofs.keys_blank.Goals as goal

pub returns : goal.returns
returns c = rw (c.zero_from-clear.ensures, c.path_blank.ensures, c.path_blank-2.ensures)
