-- Each part of the supply is in its field.
-- Assumes nothing.
use Rattle.command_open.proofs.ReplyFacts.{opened-is}
use Rattle.command_open.proofs.opened_channel.Goals as goal

pub returns : goal.returns
returns c = let s = c.args.supply.now in
    opened-is s c.part-enc_key.result c.part-mac_key.result c.part-iv.result
    c.part-enc_key.ensures c.part-mac_key.ensures c.part-iv.ensures
