-- What was written, and the closed card, are SELECT's reply.
-- Assumes nothing.
use Rattle.command_select.proofs.ReplyFacts.{select-replied}
use Rattle.command_select.proofs.select.Goals as goal

pub returns : goal.returns
returns c =
    select-replied c.args.card _ c.close-closed.ensures c.put_selected-count.ensures c.replied.ensures
