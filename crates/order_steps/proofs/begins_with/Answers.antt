-- The first two bytes, by whether there are two.
-- Assumes nothing.
use Rattle.order_steps.proofs.Decoding.{begins-short, begins-long}
use Rattle.order_steps.proofs.begins_with.Goals as goal

pub returns-then-cmd-lt2 : goal.returns-then-cmd-lt2
returns-then-cmd-lt2 c = begins-short c.args.ins c.args.cmd.now c.if-cmd-lt2.true

pub returns : goal.returns
returns c = begins-long c.args.ins c.args.cmd.now c.if-cmd-lt2.false
