-- Three parts are replaced, and the rest is the card as given.
-- Assumes nothing.

use Rattle.command_init.proofs.initialised_with.Goals as goal

pub returns : goal.returns
returns c = rw (c.pins_with.ensures, c.part-secret.ensures)
