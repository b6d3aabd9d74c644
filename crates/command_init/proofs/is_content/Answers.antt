-- The length is looked at first; the two tests joined are the definition's.
-- Assumes nothing.
use mathlib.Core.Bool.{◌&&◌}
use mathlib.Core.Path.{ap₂}
use lib.ListN.{length}
use borrow.Author.Tests.{eq-eqb, ne_eqb}
use Rattle.command_init.proofs.is_content.Goals as goal

pub returns-then-content-ne-CONTENT_BYTES : goal.returns-then-content-ne-CONTENT_BYTES
returns-then-content-ne-CONTENT_BYTES c = rw (ne_eqb (length c.args.content.now) 50 c.if-content-ne-CONTENT_BYTES.true)

pub returns : goal.returns
returns c =
    rw (eq-eqb (length c.args.content.now) 50 c.if-content-ne-CONTENT_BYTES.false) (ap₂ ◌&&◌ c.digits-pin.ensures c.digits-puk.ensures)
