-- Two parts that were put one after the other are written as one.
-- Assumes nothing.
use Rattle.command_parts.proofs.ReplyFacts.{wrote-two}
use Rattle.command_parts.proofs.put_both.Goals as goal

pub returns : goal.returns
returns c =
    wrote-two c.args.out.now c.args.first.now c.args.second.now c.requires c.put.ensures c.put-2.ensures
