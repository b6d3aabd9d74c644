-- The test is the definition, line by line: the answers of the tests that it calls are put in their places.
-- Assumes nothing.

use Rattle.sound_pins.proofs.pins_blank.Goals as goal

pub returns : goal.returns
returns c = rw (c.zero_from-a.ensures, c.zero_from-b.ensures)
