-- PIN and PUK are parts of the content.
-- Assumes nothing.

use Rattle.command_init.proofs.pins_with.Goals as goal

pub returns : goal.returns
returns c = rw (c.part-pin.ensures, c.part-puk.ensures)
