-- In stage 1 the two bytes decide.
-- Assumes nothing.

use Rattle.order_steps.proofs.drop_channel.Goals as goal

pub returns-then-half_open-other : goal.returns-then-half_open-other
returns-then-half_open-other c = rw (← c.begins_with-other.ensures, c.if-half_open-other.true, c.close.ensures)

pub returns : goal.returns
returns c = rw (← c.begins_with-other.ensures, c.if-half_open-other.false)
