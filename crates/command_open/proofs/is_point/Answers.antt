-- The length is looked at first, then the first byte.
-- Assumes nothing.
use lib.ListN.{length}
use borrow.Author.Tests.{eq-eqb, ne_eqb}
use Rattle.command_open.proofs.is_point.Goals as goal

pub returns-then-data-ne-POINT_BYTES : goal.returns-then-data-ne-POINT_BYTES
returns-then-data-ne-POINT_BYTES c = rw (ne_eqb (length c.args.«data».now) 65 c.if-data-ne-POINT_BYTES.true)

pub returns : goal.returns
returns c = rw (eq-eqb (length c.args.«data».now) 65 c.if-data-ne-POINT_BYTES.false)
