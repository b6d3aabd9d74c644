-- First the channel, then the pending pairing.
-- Assumes nothing.
use Rattle.rules.specs.Steps.{step1}
use Rattle.order_steps.proofs.step_1.Goals as goal

pub returns : goal.returns
unfolding step1
returns c = rw (c.drop_pending.ensures, c.drop_channel-dropped.ensures)
