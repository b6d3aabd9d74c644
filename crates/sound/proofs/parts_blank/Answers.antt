-- The test is the definition, line by line: the answers of the tests of the parts are put in their places.
-- Assumes nothing.

use Rattle.sound.proofs.parts_blank.Goals as goal

pub returns : goal.returns
returns c = rw (c.pins_blank.ensures, c.pairing_blank.ensures, c.keys_blank.ensures, c.channel_blank.ensures, c.tap_blank.ensures)
