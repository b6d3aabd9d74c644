-- The length is looked at first, then the first two bytes.
-- Assumes nothing.
use lib.ListN.{length}
use borrow.Author.Tests.{eq-eqb, ne_eqb}
use Rattle.command_init.proofs.is_init_data.Goals as goal

pub returns-then-data-ne-INIT_DATA_BYTES : goal.returns-then-data-ne-INIT_DATA_BYTES
returns-then-data-ne-INIT_DATA_BYTES c = rw (ne_eqb (length c.args.«data».now) 146 c.if-data-ne-INIT_DATA_BYTES.true)

pub returns : goal.returns
returns c = rw (eq-eqb (length c.args.«data».now) 146 c.if-data-ne-INIT_DATA_BYTES.false)
