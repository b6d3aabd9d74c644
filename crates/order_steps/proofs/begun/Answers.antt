-- By the four cases of what is lost.
-- Assumes nothing.

use Rattle.order_steps.proofs.begun.Goals as goal

pub returns-in-Channel : goal.returns-in-Channel
returns-in-Channel c = rw (c.in-Channel.is, c.close.ensures)
