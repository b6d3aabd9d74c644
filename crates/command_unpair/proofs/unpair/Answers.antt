-- UNPAIR: the slot of the index is the free one.
-- Assumes nothing.
use Rattle.rules.specs.Commands.{unpair_reply}
use Rattle.command_unpair.proofs.unpair.Goals as goal

pub returns : goal.returns
unfolding unpair_reply
returns c =
    rw (c.done.ensures, c.with_pairing.ensures, c.with_free-freed.ensures, c.wide.ensures)
