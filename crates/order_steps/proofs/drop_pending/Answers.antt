-- The two bytes decide.
-- Assumes nothing.

use Rattle.order_steps.proofs.drop_pending.Goals as goal

pub returns-then-begins_with : goal.returns-then-begins_with
returns-then-begins_with c = rw (← c.begins_with.ensures, c.if-begins_with.true)

pub returns : goal.returns
returns c = rw (← c.begins_with.ensures, c.if-begins_with.false, c.forget.ensures)
